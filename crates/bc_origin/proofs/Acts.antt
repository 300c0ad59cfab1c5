-- Each act of the machine keeps it.
use Rattle.std.proofs.Common.{◌≡◌, ◌≢◌, inl, inr, ℕ, Bool, true, false, List, [], ◌∷◌, ◌++◌, Some, None, refl, sym, ap, subst}
use Rattle.bc_key.specs.declared.key.Key.{Key}
use Rattle.bc_model.specs.Sector.{Value}
use Rattle.bc_books.specs.Books.{Step}
use Rattle.bc_books.specs.Books as book
use Rattle.bc_meta.specs.Tree.{Owner}
use Rattle.bc_meta.specs.Layout.{Layout}
use Rattle.bc_meta.specs.Events as event
use Rattle.bc_meta.specs.Records.{Records}
use Rattle.bc_meta.specs.Acts as meta
use Rattle.bc_leaves.specs.Parts.{Role, NoNode, Draft, Free, Leaving, Coming, Stays, inner_owner}
use Rattle.bc_leaves.specs.Laws.{acts_of}
use Rattle.bc_leaves.specs.Laws as joint
use Rattle.bc_whole.specs.State.{Opening, Write, OfData, OfEntry, OfSet, OfParent, OfLeaf, OfInner, OfPriorities, Outside, Root, SameRoot, NewRoot, Chain, SameChain, NewChain}
use Rattle.bc_whole.specs.Together.{entry_of, inserted, released}
use Rattle.bc_whole.proofs.Kept.{Inv}
use Rattle.bc_known.specs.Acts.{State, Act, Alone, Keyed, WriteCache, FailCache, CacheBarrier, Seal, MakeDurable, BeginBucket, Take, LetGo, ReadyChain, BeginChange, Install, ForgetDrafts, after}
use Rattle.bc_known.specs.Asked.{Asks}
use Rattle.bc_origin.specs.Keys.{keys_with}
use Rattle.bc_origin.proofs.Lists.{AllHave}
use Rattle.bc_origin.proofs.Held.{Held, keep}

module _ (P : Key → Type 0) where
  abbrev pub HeldIn : meta.State → Type 0
  HeldIn m = Held P m.places.records m.places.own

  -- keys come in one by one
  fold_join : (w : Layout) (m : meta.State) (xs ys : List joint.Step)
      → meta.fold w m (acts_of (xs ++ ys)) ≡ meta.fold w (meta.fold w m (acts_of xs)) (acts_of ys)
  fold_join w m [] ys = refl
  fold_join w m (x ∷ xs) ys = fold_join w (meta.after w m x.act) xs ys

  insert_held : (w : Layout) (m : meta.State) (slot : ℕ) (keys : List Key) → AllHave P keys → HeldIn m
      → HeldIn (meta.fold w m (acts_of (inserted slot keys)))
  insert_held w m slot [] b h = h
  insert_held w m slot (key ∷ keys) b h =
      let before = insert_held w m slot keys (λ k i. b k (inr i)) h in
      let m1 = meta.fold w m (acts_of (inserted slot keys)) in
      subst HeldIn (sym (fold_join w m (inserted slot keys) _))
      (keep P w m1.places (event.AddKey key) (b key (inl refl)) before)

  release_held : (w : Layout) (m : meta.State) (steps : List Step) → HeldIn m → HeldIn (meta.fold w m (acts_of (released steps)))
  release_held w m [] h = h
  release_held w m (book.MakeNode i b ∷ xs) h = release_held w (meta.after w m (meta.LetGo i b)) xs h
  release_held w m (x ∷ xs) h = release_held w m xs h

  no_leaf : (o : Owner) (word : ℕ) → o ≡ record { word = word; leaf = false } → o.leaf ≡ true → ⊥
  no_leaf o word is leaf = two o.leaf (ap (λ (x : Owner). x.leaf) is) leaf
    where
      two : (b : Bool) → b ≡ false → b ≡ true → ⊥
      two b f t = cc

  stays_some : (r : Role) → Stays r → r ≢ NoNode
  stays_some NoNode h = absurd h
  stays_some Draft h = absurd h
  stays_some Free h = λ e. cc
  stays_some Leaving h = absurd h
  stays_some Coming h = λ e. cc

  module _ (w : Opening) (st : State) (seat : ℕ) (inv : Inv w st.whole) (h : HeldIn st.whole.store) where
    -- an inner node has no keys
    parent : (i : ℕ) → Stays (st.whole.parts.inner_nodes i).role
        → (st.whole.store.places.records.nodes (st.whole.parts.inner_nodes i).bucket).owner.leaf ≡ true → ⊥
    parent i stays leaf =
        let named = inv.fits.buckets.inner_named i (stays_some (st.whole.parts.inner_nodes i).role stays) in
        no_leaf _ (st.whole.parts.inner_nodes i).word
        (subst (λ (r : Records). (r.nodes (st.whole.parts.inner_nodes i).bucket).owner ≡ inner_owner (st.whole.parts.inner_nodes i)) inv.same named) leaf

    write_held : (x : Write) (values : List Value) → Asks w st seat (WriteCache x values) → AllHave P (keys_with (WriteCache x values))
        → HeldIn (after w st seat (WriteCache x values)).whole.store
    write_held (OfData q place) values a b = keep P w.layout st.whole.store.places (event.Fill q place values) tt h
    write_held OfEntry values a b = keep P w.layout st.whole.store.places (event.WriteEntry values) tt h
    write_held (OfSet i set) values a b =
        keep P w.layout st.whole.store.places (event.AddSet (st.whole.parts.leaves i).bucket set values st.whole.parts.records.unused) (a.1.0, λ leaf. b) h
    write_held (OfParent i set) values a b =
        keep P w.layout st.whole.store.places (event.AddSet (st.whole.parts.inner_nodes i).bucket set values st.whole.parts.records.unused)
        (a.1.0, λ leaf. absurd (parent i a.0.1 leaf)) h
    write_held (OfLeaf i leaf set) values a b =
        keep P w.layout st.whole.store.places (event.NewNode leaf.bucket (record { word = leaf.word; leaf = true }) set values) (λ e. b) h
    write_held (OfInner i inner set) values a b =
        keep P w.layout st.whole.store.places (event.NewNode inner.bucket (inner_owner inner) set values)
        (λ e. absurd (no_leaf (inner_owner inner) inner.word refl e)) h
    write_held (OfPriorities q part set) values a b = keep P w.layout st.whole.store.places (event.Fill q (w.layout.first q) values) tt h
    write_held (Outside place) values a b = keep P w.layout st.whole.store.places (event.Elsewhere place values) tt h

    fail_held : (x : Write) (values : List Value) → Asks w st seat (FailCache x values) → AllHave P (keys_with (FailCache x values))
        → HeldIn (after w st seat (FailCache x values)).whole.store
    fail_held (OfData q place) values a b = keep P w.layout st.whole.store.places (event.FailFill q place values None) tt h
    fail_held OfEntry values a b = keep P w.layout st.whole.store.places (event.FailEntry values) tt h
    fail_held (OfSet i set) values a b =
        keep P w.layout st.whole.store.places (event.FailSet (st.whole.parts.leaves i).bucket set values) (a.1.0, λ leaf. b) h
    fail_held (OfParent i set) values a b =
        keep P w.layout st.whole.store.places (event.FailSet (st.whole.parts.inner_nodes i).bucket set values)
        (a.1.0, λ leaf. absurd (parent i a.0.1 leaf)) h
    fail_held (OfLeaf i leaf set) values a b =
        keep P w.layout st.whole.store.places (event.FailFill leaf.bucket (w.layout.begins (record { word = leaf.word; leaf = true })) values (Some set)) tt h
    fail_held (OfInner i inner set) values a b =
        keep P w.layout st.whole.store.places (event.FailFill inner.bucket (w.layout.begins (inner_owner inner)) values (Some set)) tt h
    fail_held (OfPriorities q part set) values a b = keep P w.layout st.whole.store.places (event.FailFill q (w.layout.first q) values None) tt h
    fail_held (Outside place) values a b = keep P w.layout st.whole.store.places (event.FailElsewhere place values) tt h

    -- an entry takes what waits
    sealed : (last_seq : ℕ) (rest : List ℕ) (root : Root) (chain : Chain) → AllHave P (entry_of st.whole last_seq rest root chain).keys
    sealed last_seq rest SameRoot chain = subst (λ (r : Records). AllHave P r.waiting) (sym inv.same) h.waiting
    sealed last_seq rest (NewRoot i) chain = subst (λ (r : Records). AllHave P r.waiting) (sym inv.same) h.waiting

    seal_held : (last_seq : ℕ) (rest : List ℕ) (root : Root) (chain : Chain)
        → HeldIn (after w st seat (Seal last_seq rest root chain)).whole.store
    seal_held last_seq rest root SameChain =
        keep P w.layout st.whole.store.places (event.SealEntry (entry_of st.whole last_seq rest root SameChain) st.whole.parts.records.unused)
        (sealed last_seq rest root SameChain) h
    seal_held last_seq rest root (NewChain buckets gens) =
        keep P w.layout st.whole.store.places (event.SealEntry (entry_of st.whole last_seq rest root (NewChain buckets gens)) st.whole.parts.records.unused)
        (sealed last_seq rest root (NewChain buckets gens)) h

    pub act_held : (act : Act) → Asks w st seat act → AllHave P (keys_with act) → HeldIn (after w st seat act).whole.store
    act_held (Alone act) a b = h
    act_held (Keyed act slot keys) a b = insert_held w.layout st.whole.store slot keys b h
    act_held (WriteCache x values) a b = write_held x values a b
    act_held (FailCache x values) a b = fail_held x values a b
    act_held CacheBarrier a b = keep P w.layout st.whole.store.places event.Barrier tt h
    act_held (Seal last_seq rest root chain) a b = seal_held last_seq rest root chain
    act_held MakeDurable a b = keep P w.layout st.whole.store.places event.MakeDurable tt h
    act_held (BeginBucket q) a b = keep P w.layout st.whole.store.places (event.BeginBucket q) tt h
    act_held (Take p q) a b = keep P w.layout st.whole.store.places (event.Reuse q) tt h
    act_held (LetGo q room) a b = h
    act_held (ReadyChain room) a b = h
    act_held (BeginChange low high gone come old new unused) a b = keep P w.layout st.whole.store.places (event.GiveUp unused) tt h
    act_held (Install unused steps) a b =
        release_held w.layout (meta.after w.layout st.whole.store (meta.Plain (event.GiveUp unused))) steps
        (keep P w.layout st.whole.store.places (event.GiveUp unused) tt h)
    act_held ForgetDrafts a b = h
