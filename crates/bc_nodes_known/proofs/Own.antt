-- Each node that wasn't read from the device is one that this run wrote.
use Rattle.std.proofs.Common.{◌≡◌, ◌≢◌, ℕ, Bool, true, false, List, [], ◌∷◌, refl, sym, ap, ◌∙◌, subst, if◌then◌else◌}
use Rattle.bc_model.specs.Sector.{Value}
use Rattle.bc_key.specs.declared.key.Key.{Key}
use Rattle.bc_books.specs.Books.{Step, MakeNode}
use Rattle.bc_books.specs.Invariant.{IsInOrder}
use Rattle.bc_meta.specs.Acts as meta
use Rattle.bc_meta.specs.Events as event
use Rattle.bc_meta.specs.Layout.{Layout}
use Rattle.bc_meta.specs.Records.{put}
use Rattle.bc_meta.proofs.Lists.{by_test}
use Rattle.bc_leaves.specs.Parts.{NoNode, Leaf, InnerNode}
use Rattle.bc_leaves.specs.Parts as parts
use Rattle.bc_leaves.specs.Events as parts_event
use Rattle.bc_leaves.specs.After as parts_step
use Rattle.bc_leaves.specs.Enabled.{IsVacant}
use Rattle.bc_leaves.specs.Laws.{acts_of, parts_of}
use Rattle.bc_whole.specs.State.{Opening, Write, OfData, OfEntry, OfSet, OfParent, OfLeaf, OfInner, OfPriorities, Outside, Root, SameRoot, NewRoot, Chain, SameChain, NewChain}
use Rattle.bc_whole.specs.Together.{inserted, released, step}
use Rattle.bc_whole.proofs.Kept.{Inv}
use Rattle.bc_known.specs.Acts.{State, Act, Keyed, WriteCache, FailCache, Seal, Take, BeginChange, Install, ForgetDrafts, Event, after}
use Rattle.bc_known.specs.Laws.{IsSound}
use Rattle.bc_known.specs.Run.{IsEnabled, IsRun, run}
use Rattle.bc_known.proofs.Keyed.{acts_join, fold_join}
use Rattle.bc_known.proofs.Law.{At, inv_at, order_at, keep}
use Rattle.bc_known.proofs.Others.{take_enabled}
use Rattle.bc_known.proofs.Slots.{AreOld, change_slots, forget_slots, install_slots}
use Rattle.bc_known.proofs.Writes.{write_enabled, fault_enabled}
use Rattle.bc_shares.specs.Shares.{Shape}
use Rattle.bc_shares.proofs.Acts.{released_parts}
use Rattle.bc_shares.proofs.Parts.{keyed_parts}

-- the buckets of such nodes are the run's own
pub record AreOwned (p : parts.State) (own : ℕ → Bool) : Type 0 where
  pub leaves : (k : ℕ) → (p.leaves k).role ≢ NoNode → (p.leaves k).loaded ≡ false
      → own (p.leaves k).bucket ≡ true
  pub inner_nodes : (x : ℕ) → (p.inner_nodes x).role ≢ NoNode → (p.inner_nodes x).loaded ≡ false
      → own (p.inner_nodes x).bucket ≡ true

-- slots that stay as they are, or lose their nodes
abbrev SameLoaded : parts.State → parts.State → Type 0
SameLoaded a b = ((k : ℕ) → (b.leaves k).loaded ≡ (a.leaves k).loaded)
    × ((x : ℕ) → (b.inner_nodes x).loaded ≡ (a.inner_nodes x).loaded)

old_owned : (a b : parts.State) (own own2 : ℕ → Bool) → AreOld a b → SameLoaded a b → own2 ≡ own
    → AreOwned a own → AreOwned b own2
old_owned a b own own2 old loaded same h = subst (AreOwned b) (sym same) (record {
  leaves = λ k some read. let one = old.leaves k some in
      ap own one.1 ∙ h.leaves k one.0 (sym (loaded.0 k) ∙ read);
  inner_nodes = λ x some read. let one = old.inner_nodes x some in
      ap own one.1 ∙ h.inner_nodes x one.0 (sym (loaded.1 x) ∙ read);
})

-- a bucket that no node lies in may be anybody's
vacated : (p : parts.State) (own : ℕ → Bool) (q : ℕ) (b : Bool) → IsVacant p q → AreOwned p own
    → AreOwned p (put own q b)
vacated p own q b vacant h = record {
  leaves = λ k some read. by_test (p.leaves k).bucket q
      (λ t. (if t then b else own (p.leaves k).bucket) ≡ true)
      (λ here. absurd (vacant.1 k some here)) (λ _. h.leaves k some read);
  inner_nodes = λ x some read. by_test (p.inner_nodes x).bucket q
      (λ t. (if t then b else own (p.inner_nodes x).bucket) ≡ true)
      (λ here. absurd (vacant.2 x some here)) (λ _. h.inner_nodes x some read);
}

at_own : (own : ℕ → Bool) (q : ℕ) → put own q true q ≡ true
at_own own q = by_test q q (λ t. (if t then true else own q) ≡ true) (λ _. refl)
    (λ ne. absurd (ne refl))

-- a new node lies in its own bucket
new_leaf : (p : parts.State) (own : ℕ → Bool) (j : ℕ) (leaf : Leaf) → AreOwned p own
    → own leaf.bucket ≡ true → AreOwned (record p { leaves = put p.leaves j leaf }) own
new_leaf p own j leaf h here = record {
  leaves = λ k. by_test k j (λ t. (if t then leaf else p.leaves k).role ≢ NoNode
      → (if t then leaf else p.leaves k).loaded ≡ false
      → own (if t then leaf else p.leaves k).bucket ≡ true) (λ _ _ _. here)
      (λ _ some read. h.leaves k some read);
  inner_nodes = h.inner_nodes;
}

new_inner : (p : parts.State) (own : ℕ → Bool) (j : ℕ) (inner : InnerNode) → AreOwned p own
    → own inner.bucket ≡ true → AreOwned (record p { inner_nodes = put p.inner_nodes j inner }) own
new_inner p own j inner h here = record {
  leaves = h.leaves;
  inner_nodes = λ x. by_test x j (λ t. (if t then inner else p.inner_nodes x).role ≢ NoNode
      → (if t then inner else p.inner_nodes x).loaded ≡ false
      → own (if t then inner else p.inner_nodes x).bucket ≡ true) (λ _ _ _. here)
      (λ _ some read. h.inner_nodes x some read);
}

abbrev own_in : meta.State → ℕ → Bool
own_in m = m.places.own

-- keys that come in write nothing
keys_own : (w : Layout) (m : meta.State) (slot : ℕ) (keys : List Key)
    → own_in (meta.fold w m (acts_of (inserted slot keys))) ≡ own_in m
keys_own w m slot [] = refl
keys_own w m slot (key ∷ keys) =
    let tail = step (meta.Plain (event.AddKey key)) (parts_event.Insert slot key) in
    ap own_in (ap (λ l. meta.fold w m l) (acts_join (inserted slot keys) tail)
    ∙ fold_join w m (acts_of (inserted slot keys)) (acts_of tail))
    ∙ keys_own w m slot keys

-- nor does a bucket that is let go
pub released_own : (w : Layout) (m : meta.State) (xs : List Step)
    → own_in (meta.fold w m (acts_of (released xs))) ≡ own_in m
released_own w m [] = refl
released_own w m (MakeNode i b ∷ xs) = released_own w (meta.after w m (meta.LetGo i b)) xs
released_own w m (x ∷ xs) = released_own w m xs

keyed_old : (p : parts.State) (slot : ℕ) (keys : List Key) (own own2 : ℕ → Bool) → own2 ≡ own
    → AreOwned p own → AreOwned (parts_of p (inserted slot keys)) own2
keyed_old p slot keys own own2 same h = let one = keyed_parts p slot keys in
    old_owned p (parts_of p (inserted slot keys)) own own2 (record {
      leaves = λ k some. (
        λ none. some (ap (λ (x : Shape). x.role) (one.leaves k) ∙ none),
        ap (λ (x : Shape). x.bucket) (one.leaves k),
      );
      inner_nodes = λ x some. (
        λ none. some (ap (λ (f : ℕ → InnerNode). (f x).role) one.slots ∙ none),
        ap (λ (f : ℕ → InnerNode). (f x).bucket) one.slots,
      );
    }) (
      (λ k. ap (λ (x : Shape). x.loaded) (one.leaves k)),
      (λ x. ap (λ (f : ℕ → InnerNode). (f x).loaded) one.slots),
    ) same h

module _ (w : Opening) (x : parts.State) (sound : IsSound w x) (st : State) (i : ℕ)
    (at : At w x st) (h : AreOwned st.whole.parts st.whole.store.places.own) where
  inv : Inv w st.whole
  inv = inv_at w x st.whole sound at.at

  order : IsInOrder w.flow.books st.whole.flow.books
  order = order_at w x st.whole sound at.at

  abbrev Owned : Act → Type 0
  Owned act = AreOwned (after w st i act).whole.parts (after w st i act).whole.store.places.own

  -- what is written into a bucket that no node lies in
  filled : (q : ℕ) → IsVacant st.whole.parts q
      → AreOwned st.whole.parts (put st.whole.store.places.own q false)
  filled q vacant = vacated st.whole.parts st.whole.store.places.own q false vacant h

  owned_write : (y : Write) (values : List Value) → IsEnabled w st i (WriteCache y values)
      → Owned (WriteCache y values)
  owned_write (OfData q place) values on = let one = filled q
      (write_enabled w st i inv at.known sound.laid order (OfData q place) values on).store.1.0 in
      record { leaves = one.leaves; inner_nodes = one.inner_nodes }
  owned_write OfEntry values on = record { leaves = h.leaves; inner_nodes = h.inner_nodes }
  owned_write (OfSet k set) values on = record { leaves = h.leaves; inner_nodes = h.inner_nodes }
  owned_write (OfParent k set) values on =
      record { leaves = h.leaves; inner_nodes = h.inner_nodes }
  owned_write (OfLeaf k leaf set) values on =
      let own = st.whole.store.places.own in
      let one = new_leaf st.whole.parts (put own leaf.bucket true) k leaf
      (vacated st.whole.parts own leaf.bucket true on.asks.4.vacant h) (at_own own leaf.bucket) in
      record { leaves = one.leaves; inner_nodes = one.inner_nodes }
  owned_write (OfInner k inner set) values on =
      let own = st.whole.store.places.own in
      let one = new_inner st.whole.parts (put own inner.bucket true) k inner
      (vacated st.whole.parts own inner.bucket true on.asks.2.vacant h) (at_own own inner.bucket) in
      record { leaves = one.leaves; inner_nodes = one.inner_nodes }
  owned_write (OfPriorities q part set) values on = let one = filled q
      (write_enabled w st i inv at.known sound.laid order (OfPriorities q part set) values
      on).store.1.0 in record { leaves = one.leaves; inner_nodes = one.inner_nodes }
  owned_write (Outside place) values on =
      record { leaves = h.leaves; inner_nodes = h.inner_nodes }

  owned_fault : (y : Write) (values : List Value) → IsEnabled w st i (FailCache y values)
      → Owned (FailCache y values)
  owned_fault (OfData q place) values on = let one = filled q
      (fault_enabled w st i inv at.known sound.laid order (OfData q place) values on).store.1.0 in
      record { leaves = one.leaves; inner_nodes = one.inner_nodes }
  owned_fault OfEntry values on = record { leaves = h.leaves; inner_nodes = h.inner_nodes }
  owned_fault (OfSet k set) values on = record { leaves = h.leaves; inner_nodes = h.inner_nodes }
  owned_fault (OfParent k set) values on =
      record { leaves = h.leaves; inner_nodes = h.inner_nodes }
  owned_fault (OfLeaf k leaf set) values on = let one = filled leaf.bucket on.asks.4.vacant in
      record { leaves = one.leaves; inner_nodes = one.inner_nodes }
  owned_fault (OfInner k inner set) values on = let one = filled inner.bucket on.asks.2.vacant in
      record { leaves = one.leaves; inner_nodes = one.inner_nodes }
  owned_fault (OfPriorities q part set) values on = let one = filled q
      (fault_enabled w st i inv at.known sound.laid order (OfPriorities q part set) values
      on).store.1.0 in record { leaves = one.leaves; inner_nodes = one.inner_nodes }
  owned_fault (Outside place) values on =
      record { leaves = h.leaves; inner_nodes = h.inner_nodes }

  owned_seal : (last_seq : ℕ) (rest : List ℕ) (root : Root) (chain : Chain)
      → Owned (Seal last_seq rest root chain)
  owned_seal last_seq rest SameRoot SameChain =
      record { leaves = h.leaves; inner_nodes = h.inner_nodes }
  owned_seal last_seq rest SameRoot (NewChain buckets gens) =
      record { leaves = h.leaves; inner_nodes = h.inner_nodes }
  owned_seal last_seq rest (NewRoot r) SameChain =
      record { leaves = h.leaves; inner_nodes = h.inner_nodes }
  owned_seal last_seq rest (NewRoot r) (NewChain buckets gens) =
      record { leaves = h.leaves; inner_nodes = h.inner_nodes }

  owned_install : (un : ℕ → Bool) (steps : List Step) → Owned (Install un steps)
  owned_install un steps =
      let p = parts_step.after st.whole.parts (parts_event.Install un) in
      let m = meta.after w.layout st.whole.store (meta.Plain (event.GiveUp un)) in
      subst (λ (q : parts.State). AreOwned q (after w st i (Install un steps)).whole.store.places.own)
      (sym (released_parts p steps))
      (old_owned st.whole.parts p st.whole.store.places.own
      (after w st i (Install un steps)).whole.store.places.own (install_slots st.whole.parts un)
      ((λ k. refl), (λ y. refl)) (released_own w.layout m steps) h)

  owned_one : (act : Act) → IsEnabled w st i act → Owned act
  owned_one (Keyed act slot keys) on = keyed_old st.whole.parts slot keys
      st.whole.store.places.own (after w st i (Keyed act slot keys)).whole.store.places.own
      (keys_own w.layout st.whole.store slot keys) h
  owned_one (WriteCache y values) on = owned_write y values on
  owned_one (FailCache y values) on = owned_fault y values on
  owned_one (Seal last_seq rest root chain) on = owned_seal last_seq rest root chain
  owned_one (Take p b) on = let one = filled b
      (take_enabled w st i inv at.known sound.laid order p b on).store.1.0 in
      record { leaves = one.leaves; inner_nodes = one.inner_nodes }
  owned_one (BeginChange low high gone come old new un) on = old_owned st.whole.parts
      (after w st i (BeginChange low high gone come old new un)).whole.parts
      st.whole.store.places.own st.whole.store.places.own
      (change_slots st.whole.parts low high gone come old new un on.asks.0)
      ((λ k. refl), (λ y. refl)) refl h
  owned_one (Install un steps) on = owned_install un steps
  owned_one ForgetDrafts on = old_owned st.whole.parts (after w st i ForgetDrafts).whole.parts
      st.whole.store.places.own st.whole.store.places.own (forget_slots st.whole.parts)
      ((λ k. refl), (λ y. refl)) refl h
  owned_one act on = record { leaves = h.leaves; inner_nodes = h.inner_nodes }

pub owned_run : (w : Opening) (x : parts.State) → IsSound w x → (st : State) (es : List Event)
    → IsRun w st es → At w x st → AreOwned st.whole.parts st.whole.store.places.own
    → AreOwned (run w st es).whole.parts (run w st es).whole.store.places.own
owned_run w x sound st [] on at h = h
owned_run w x sound st (e ∷ es) on at h = owned_run w x sound (after w st e.seat e.act) es on.1
    (keep w x sound st e.seat at e.act on.0) (owned_one w x sound st e.seat at h e.act on.0)
