-- What a seat knows stays known: buckets that are taken and let go, chains, and installs.
use Rattle.std.proofs.Common.{◌≡◌, ◌≢◌, ◌⊎◌, inl, inr, ℕ, suc, ◌≤◌, Bool, true, false, List, [], ◌∷◌, Option, Some, None, refl, sym, ap, ◌∙◌, subst, arith, if◌then◌else◌, ◌==◌}
use Rattle.bc_books.specs.Index.{put}
use Rattle.bc_books.specs.Shelves.{Purpose, Priorities, Moving, Tree, Plain, Shelf, Loose, Listed, Held, IsFor, taken_to, put_back, back}
use Rattle.bc_books.specs.Chains.{at_ready}
use Rattle.bc_books.specs.Books.{Books, Step}
use Rattle.bc_books.specs.Books as book
use Rattle.bc_books.specs.After as book_step
use Rattle.bc_books.specs.Invariant.{IsInOrder}
use Rattle.bc_books.proofs.Known as books
use Rattle.bc_books.specs.Enabled.{CanStep}
use Rattle.bc_collect.specs.Spare.{IsRoomy}
use Rattle.bc_collect.proofs.Reserve.{HasReserve, near_step, chains_step}
use Rattle.bc_data.specs.Data as flow
use Rattle.bc_data.specs.After.{IsCourse, course}
use Rattle.bc_data.specs.After as flow_step
use Rattle.bc_meta.specs.Facts.{In}
use Rattle.bc_meta.specs.Places.{Places}
use Rattle.bc_meta.specs.Records as records
use Rattle.bc_meta.specs.Events as event
use Rattle.bc_meta.specs.Acts.{put_all}
use Rattle.bc_meta.specs.Acts as meta
use Rattle.bc_meta.proofs.Acts.{put_all_cases}
use Rattle.bc_meta.proofs.Lists.{by_test}
use Rattle.bc_leaves.specs.Parts.{Role, NoNode}
use Rattle.bc_leaves.specs.Parts as parts
use Rattle.bc_leaves.specs.Events as parts_event
use Rattle.bc_leaves.specs.After as parts_step
use Rattle.bc_leaves.specs.Laws.{acts_of, parts_of}
use Rattle.bc_whole.specs.State.{Opening}
use Rattle.bc_whole.specs.State as whole
use Rattle.bc_whole.specs.Together.{released, shelved}
use Rattle.bc_whole.specs.Run.{by}
use Rattle.bc_whole.specs.Run as whole_run
use Rattle.bc_whole.proofs.Kept.{Inv}
use Rattle.bc_known.specs.Acts.{State, Take, LetGo, ReadyChain, Install, after, is_for_chain}
use Rattle.bc_known.specs.Asked.{IsGivenUp, AsksSteps}
use Rattle.bc_known.specs.Run.{IsEnabled}
use Rattle.bc_known.specs.Known.{IsKnown, AreInBuckets, AreLaid, HasHolder}
use Rattle.bc_known.proofs.Places as places
use Rattle.bc_known.proofs.Mild.{Stands, put_spare, put_nodes}
use Rattle.bc_known.proofs.Slots.{IsFor as IsForNode, install_slots, after_install, old_in}
use Rattle.bc_known.proofs.Seqs.{Below, not_own}
use Rattle.bc_known.proofs.Stays.{stands_of, below_of, to_known, old_slots}
use Rattle.bc_known.proofs.Spared.{kept_for_chain}
use Rattle.bc_known.proofs.Installed.{agree, released_holds}

-- ---- a bucket is taken

taken_holder : (i : ℕ) (p : Purpose) → p ≢ Plain → HasHolder (taken_to i p) (Some i)
taken_holder i Priorities ne = refl
taken_holder i Moving ne = refl
taken_holder i Tree ne = refl
taken_holder i Plain ne = absurd (ne refl)

taken_chain : (i : ℕ) (p : Purpose) (x : Shelf) → IsFor p x → is_for_chain x ≡ true
    → is_for_chain (taken_to i p) ≡ true
taken_chain i p x (inl e) h =
    let z : false ≡ true = sym (ap is_for_chain e) ∙ h in absurd (cc)
taken_chain i Priorities x (inr (inl e)) h = refl
taken_chain i Moving x (inr (inl e)) h =
    let z : false ≡ true = sym (ap is_for_chain e) ∙ h in absurd (cc)
taken_chain i Tree x (inr (inl e)) h =
    let z : false ≡ true = sym (ap is_for_chain e) ∙ h in absurd (cc)
taken_chain i Plain x (inr (inl e)) h =
    let z : false ≡ true = sym (ap is_for_chain e) ∙ h in absurd (cc)
taken_chain i p x (inr (inr e)) h =
    let z : false ≡ true = sym (ap is_for_chain e.1) ∙ h in absurd (cc)

listed_tree : (x : Shelf) (p : Purpose) (j : ℕ) → x ≡ Listed p → x ≡ Held j Tree → ⊥
listed_tree x p j a b = cc

for_tree : (x : Shelf) (p : Purpose) (j : ℕ) → IsFor p x → x ≡ Held j Tree → ⊥
for_tree x p j (inl e) h = listed_tree x Plain j e h
for_tree x p j (inr (inl e)) h = listed_tree x p j e h
for_tree x p j (inr (inr e)) h = listed_tree x Moving j e.1 h

both_put : (shelf : ℕ → Shelf) (holder : ℕ → Option ℕ) (b : ℕ) (y : Shelf) (h : Option ℕ)
    → ((q : ℕ) → HasHolder (shelf q) (holder q)) → HasHolder y h
    → (q : ℕ) → HasHolder (put shelf b y q) (records.put holder b h q)
both_put shelf holder b y h all here q = by_test q b
    (λ t. HasHolder (if t then y else shelf q) (if t then h else holder q)) (λ _. here)
    (λ _. all q)

back_none : (room : Bool) → HasHolder (back room) None
back_none true = refl
back_none false = refl

put_back_none : (room : Bool) (x : Shelf) (i : ℕ) (p : Purpose) → x ≡ Held i p
    → HasHolder (put_back room x) None
put_back_none room x i p e = subst (λ y. HasHolder (put_back room y) None) (sym e) (at p)
  where
    at : (p : Purpose) → HasHolder (put_back room (Held i p)) None
    at Priorities = back_none room
    at Moving = refl
    at Tree = refl
    at Plain = refl

held_node : (x : Shelf) (i : ℕ) (p : Purpose) → p ≢ Tree → x ≡ Held i p
    → places.IsNodeShelf x → ⊥
held_node x i Priorities ne e h = subst places.IsNodeShelf e h
held_node x i Moving ne e h = subst places.IsNodeShelf e h
held_node x i Tree ne e h = ne refl
held_node x i Plain ne e h = subst places.IsNodeShelf e h

module _ (w : Opening) (st : State) (seat : ℕ) (inv : Inv w st.whole) (z : IsKnown w st)
    (laid : AreLaid w) (f : IsInOrder w.flow.books st.whole.flow.books) where
  abbrev k : Books
  k = st.whole.flow.books

  stands : Stands w.flow.books k st.whole.store.holder st.whole.store.spare
  stands = stands_of w st f z

  below : Below st.whole.store.places.own st.whole.store.places.seq st.whole.store.places.log
      st.next_seq
  below = below_of w st z

  pub take_known : (p : Purpose) (b : ℕ) → IsEnabled w st seat (Take p b)
      → IsKnown w (after w st seat (Take p b))
  take_known p b on = to_known w (after w st seat (Take p b)) (record {
    order = books.keep w.flow.books k f (book.Take seat p b) on.data_allows.0.steps.0;
    holders = both_put k.shelf st.whole.store.holder b (taken_to seat p) (Some seat) z.holders
        (taken_holder seat p on.asks);
    spare = put_spare k.shelf st.whole.store.spare b (taken_to seat p) z.spare
        (taken_chain seat p (k.shelf b) on.data_allows.0.steps.0);
    reserve = record {
      near = near_step w.flow.books k f stands.reserve (book.Take seat p b)
          on.data_allows.0.steps.0 tt;
      chains = chains_step w.flow.books k f stands.reserve (book.Take seat p b)
          on.data_allows.0.steps.0;
    };
  }) (old_in st.whole.parts _ k.node k.node k.shelf (put k.shelf b (taken_to seat p))
      (old_slots st.whole.parts _ refl refl)
      (put_nodes k.node k.shelf b (taken_to seat p)
      (λ j h. absurd (for_tree (k.shelf b) p j on.data_allows.0.steps.0 h))) z.nodes)
      (not_own st.whole.store.places.own st.whole.store.places.seq st.whole.store.places.log
      st.next_seq b below)

  -- ---- and let go

  -- no slot lies in a bucket that is let go
  clear : (b : ℕ) (room : Bool) → IsEnabled w st seat (LetGo b room)
      → ((i : ℕ) → (st.whole.parts.leaves i).role ≢ NoNode
      → (st.whole.parts.leaves i).bucket ≢ b)
      × ((x : ℕ) → (st.whole.parts.inner_nodes x).role ≢ NoNode
      → (st.whole.parts.inner_nodes x).bucket ≢ b)
  clear b room on = at on.data_allows.0.steps.0.0.0 on.data_allows.0.steps.0.0.1
    where
      other : (p : Purpose) → p ≢ Tree → k.shelf b ≡ Held seat p
          → ((i : ℕ) → (st.whole.parts.leaves i).role ≢ NoNode
          → (st.whole.parts.leaves i).bucket ≢ b)
          × ((x : ℕ) → (st.whole.parts.inner_nodes x).role ≢ NoNode
          → (st.whole.parts.inner_nodes x).bucket ≢ b)
      other p ne e =
          let v = places.vacant w st inv z laid f b (λ n. held_node (k.shelf b) seat p ne e
          (places.node_shelf w st inv z laid f b n)) in (v.1, v.2)

      at : (p : Purpose) → k.shelf b ≡ Held seat p
          → ((i : ℕ) → (st.whole.parts.leaves i).role ≢ NoNode
          → (st.whole.parts.leaves i).bucket ≢ b)
          × ((x : ℕ) → (st.whole.parts.inner_nodes x).role ≢ NoNode
          → (st.whole.parts.inner_nodes x).bucket ≢ b)
      at Tree e = let v = on.asks.1 e in (v.1, v.2)
      at Priorities e = other Priorities (λ x. cc) e
      at Moving e = other Moving (λ x. cc) e
      at Plain e = other Plain (λ x. cc) e

  put_off : (b : ℕ) (y : Shelf) (q : ℕ) → q ≢ b → IsForNode k.node k.shelf q
      → IsForNode k.node (put k.shelf b y) q
  put_off b y q ne (inl n) = inl n
  put_off b y q ne (inr h) = inr (
    h.0,
    by_test q b
        (λ t. (if t then y else k.shelf q) ≡ Held h.0 Tree) (λ e. absurd (ne e)) (λ _. h.1),
  )

  pub let_go_known : (b : ℕ) (room : Bool) → IsEnabled w st seat (LetGo b room)
      → Inv w (whole_run.after w st.whole seat (whole.LetGo b room))
      → IsKnown w (after w st seat (LetGo b room))
  let_go_known b room on inv2 =
      let can = on.data_allows.0.steps.0 in
      let y = put_back room (k.shelf b) in
      let order = books.keep w.flow.books k f (book.LetGo seat b room) can in
      let off = clear b room on in
      to_known w (after w st seat (LetGo b room)) (record {
        order = order;
        holders = both_put k.shelf st.whole.store.holder b (put_back room (k.shelf b)) None
            z.holders (put_back_none room (k.shelf b) seat can.0.0 can.0.1);
        spare = kept_for_chain w (whole_run.after w st.whole seat (whole.LetGo b room)) seat inv2
            laid order;
        reserve = record {
          near = near_step w.flow.books k f stands.reserve (book.LetGo seat b room) can
              on.asks.0;
          chains = chains_step w.flow.books k f stands.reserve (book.LetGo seat b room) can;
        };
      }) (record {
        leaves = λ i some. put_off b y (st.whole.parts.leaves i).bucket (off.0 i some)
            (z.nodes.leaves i some);
        inner_nodes = λ i some. put_off b y (st.whole.parts.inner_nodes i).bucket
            (off.1 i some) (z.nodes.inner_nodes i some);
      }) below

-- ---- chains

some_same : (o : Option ℕ) (a b : ℕ) → o ≡ Some a → o ≡ Some b → a ≡ b
some_same o a b x y = cc

none_some : (o : Option ℕ) (a : ℕ) → o ≡ None → o ≡ Some a → ⊥
none_some o a x y = cc

module _ (w : Opening) (st : State) (seat : ℕ) (inv : Inv w st.whole) (z : IsKnown w st)
    (laid : AreLaid w) (f : IsInOrder w.flow.books st.whole.flow.books) where
  abbrev now : Books
  now = st.whole.flow.books

  abbrev next : List ℕ
  next = st.whole.store.buckets (suc st.whole.store.ready_chain)

  abbrev let_go : ℕ → Option ℕ
  let_go = put_all st.whole.store.holder next None

  module _ (room : ℕ → Bool) (on : IsEnabled w st seat (ReadyChain room)) where
    low : st.whole.store.ready_chain ≤ suc st.whole.store.ready_chain
    low = omega arith

    high : suc st.whole.store.ready_chain ≤ st.whole.store.sealed_chain
    high =
        let lt = on.data_allows.0.steps.0 in
        let a = inv.link.chain.ready_is in
        let b = inv.link.chain.durable_is in
        let c = inv.store.order.1 in omega (arith, lt, a, b, c)

    -- a bucket is of the next chain exactly where it is in its list
    in_next : (q : ℕ) → In q next → now.chains.of q ≡ Some (suc now.chains.ready)
    in_next q i = sym (inv.link.chain.buckets q)
        ∙ inv.store.named (suc st.whole.store.ready_chain) low high q i
        ∙ ap (λ n. Some (suc n)) inv.link.chain.ready_is

    of_next : (q : ℕ) → now.chains.of q ≡ Some (suc now.chains.ready) → In q next
    of_next q e = inv.store.members q (suc st.whole.store.ready_chain)
        (inv.link.chain.buckets q ∙ e ∙ ap (λ n. Some (suc n)) (sym inv.link.chain.ready_is))

    ready_holder : (q : ℕ) (o : Option ℕ) → now.chains.of q ≡ o
        → HasHolder (at_ready now.chains.ready o (room q) (now.shelf q)) (let_go q)
    ready_holder q None e = elim (put_all_cases {A = Option ℕ} st.whole.store.holder next None q) [
      | inl h ↦ absurd (none_some (now.chains.of q) (suc now.chains.ready) e (in_next q h.0))
      | inr h ↦ subst (λ x. HasHolder (now.shelf q) x) (sym h.1) (z.holders q)
    ]
    ready_holder q (Some c) e = by_test c now.chains.ready
        (λ t. HasHolder (if t then back (room q)
        else (if c == suc now.chains.ready then Loose else now.shelf q)) (let_go q))
        (λ is. subst (λ x. HasHolder (back (room q)) x) (sym (gone is)) (back_none (room q)))
        (λ ne. by_test c (suc now.chains.ready)
        (λ t. HasHolder (if t then Loose else now.shelf q) (let_go q))
        (λ is. elim (put_all_cases {A = Option ℕ} st.whole.store.holder next None q) [
          | inl h ↦ h.1
          | inr h ↦ absurd (h.0 (of_next q (e ∙ ap Some is)))
        ])
        (λ other. elim (put_all_cases {A = Option ℕ} st.whole.store.holder next None q) [
          | inl h ↦ absurd (other (some_same (now.chains.of q) c (suc now.chains.ready) e
              (in_next q h.0)))
          | inr h ↦ subst (λ x. HasHolder (now.shelf q) x) (sym h.1) (z.holders q)
        ]))
      where
        gone : c ≡ now.chains.ready → let_go q ≡ None
        gone is = elim (put_all_cases {A = Option ℕ} st.whole.store.holder next None q) [
          | inl h ↦ h.1
          | inr h ↦ h.1 ∙ subst (λ x. HasHolder x (st.whole.store.holder q))
              ((f.chained.links q c e).loose is) (z.holders q)
        ]

    ready_node : (q : ℕ) → IsForNode now.node now.shelf q → IsForNode now.node
        (λ b. at_ready now.chains.ready (now.chains.of b) (room b) (now.shelf b)) q
    ready_node q (inl n) = inl n
    ready_node q (inr h) = inr (
      h.0,
      subst (λ (o : Option ℕ). at_ready now.chains.ready o (room q)
          (now.shelf q) ≡ Held h.0 Tree) (sym (places.no_chain w st inv z laid f q
          (λ x. subst places.IsChainShelf h.1 x))) h.1,
    )

    pub ready_known : Inv w (whole_run.after w st.whole seat
        (whole.ReadyChain room (st.whole.store.buckets st.whole.store.ready_chain)))
        → IsKnown w (after w st seat (ReadyChain room))
    ready_known inv2 =
        let can = on.data_allows.0.steps.0 in
        let order = books.keep w.flow.books now f (book.ReadyChain room) can in
        to_known w (after w st seat (ReadyChain room)) (record {
          order = order;
          holders = λ q. ready_holder q (now.chains.of q) refl;
          spare = kept_for_chain w (whole_run.after w st.whole seat (whole.ReadyChain room
              (st.whole.store.buckets st.whole.store.ready_chain))) seat inv2 laid order;
          reserve = record {
            near = near_step w.flow.books now f (stands_of w st f z).reserve
                (book.ReadyChain room) can on.asks.0;
            chains = chains_step w.flow.books now f (stands_of w st f z).reserve
                (book.ReadyChain room) can;
          };
        }) (old_in st.whole.parts _ now.node now.node now.shelf _
        (old_slots st.whole.parts _ refl refl) ready_node z.nodes) (below_of w st z)

-- ---- installs

-- what the books' steps at an install leave of order and of buckets for chains
record Standing (w : Opening) (k : Books) (spare : List ℕ) : Type 0 where
  order : IsInOrder w.flow.books k
  kept_spare : (q : ℕ) → In q spare → is_for_chain (k.shelf q) ≡ true
  reserve : HasReserve w.flow.books k

tree_spare : (x : Shelf) (i : ℕ) → x ≡ Held i Tree → is_for_chain x ≡ true
    → is_for_chain Loose ≡ true
tree_spare x i e h = let z : false ≡ true = sym (ap is_for_chain e) ∙ h in absurd (cc)

module _ (w : Opening) (seat : ℕ) (un : ℕ → Bool) (old : parts.State) (spare : List ℕ) where
  standing_step : (k : Books) (x : Step) → IsRoomy w.flow.books k x
      → CanStep w.flow.books k x
      → ((q : ℕ) → In q spare → is_for_chain ((book_step.after w.flow.books k x).shelf q) ≡ true)
      → Standing w k spare → Standing w (book_step.after w.flow.books k x) spare
  standing_step k x roomy can s h = record {
    order = books.keep w.flow.books k h.order x can;
    kept_spare = s;
    reserve = record {
      near = near_step w.flow.books k h.order h.reserve x can roomy;
      chains = chains_step w.flow.books k h.order h.reserve x can;
    };
  }

  installed_standing : (g : flow.State) (xs : List Step) → AsksSteps old seat un xs
      → IsCourse w.flow g (by seat (shelved xs)) → Standing w g.books spare
      → Standing w (course w.flow g (by seat (shelved xs))).books spare
  installed_standing g [] ask on h = h
  installed_standing g (book.MakeNode i b ∷ xs) ask on h = installed_standing
      (flow_step.after w.flow g seat (flow.Shelve (book.MakeNode i b))) xs ask.1 on.1
      (standing_step g.books (book.MakeNode i b) tt on.0.steps.0
      (put_spare g.books.shelf spare b Loose h.kept_spare
      (tree_spare (g.books.shelf b) i on.0.steps.0)) h)
  installed_standing g (book.Regroup leaf changed counts last ∷ xs) ask on h =
      installed_standing
      (flow_step.after w.flow g seat (flow.Shelve (book.Regroup leaf changed counts last))) xs
      ask.1 on.1 (standing_step g.books (book.Regroup leaf changed counts last) tt
      on.0.steps.0 h.kept_spare h)
  installed_standing g (book.DropNode b ∷ xs) ask on h = installed_standing
      (flow_step.after w.flow g seat (flow.Shelve (book.DropNode b))) xs ask.1 on.1
      (standing_step g.books (book.DropNode b) tt on.0.steps.0 h.kept_spare h)
  installed_standing g (x ∷ xs) ask on h = absurd ask.0

  -- a bucket that isn't given up stays one for nodes
  installed_node : (g : flow.State) (xs : List Step) (q : ℕ) → AsksSteps old seat un xs
      → ((b : ℕ) → IsGivenUp old b → q ≢ b) → IsForNode g.books.node g.books.shelf q
      → IsForNode (course w.flow g (by seat (shelved xs))).books.node
      (course w.flow g (by seat (shelved xs))).books.shelf q
  installed_node g [] q ask off h = h
  installed_node g (book.MakeNode i b ∷ xs) q ask off h = installed_node
      (flow_step.after w.flow g seat (flow.Shelve (book.MakeNode i b))) xs q ask.1 off
      (by_test q b (λ t. ((if t then true else g.books.node q) ≡ true)
      ⊎ ((j : ℕ) × ((if t then Loose else g.books.shelf q) ≡ Held j Tree)))
      (λ _. inl refl) (λ _. h))
  installed_node g (book.Regroup leaf changed counts last ∷ xs) q ask off h = installed_node
      (flow_step.after w.flow g seat (flow.Shelve (book.Regroup leaf changed counts last))) xs q
      ask.1 off h
  installed_node g (book.DropNode b ∷ xs) q ask off h = installed_node
      (flow_step.after w.flow g seat (flow.Shelve (book.DropNode b))) xs q ask.1 off
      (elim h [
        | inl n ↦ inl (by_test q b (λ t. (if t then false else g.books.node q) ≡ true)
            (λ e. absurd (off b ask.0.1 e)) (λ _. n))
        | inr x ↦ inr x
      ])
  installed_node g (x ∷ xs) q ask off h = absurd ask.0

  -- letting go writes nothing
  released_places : (m : meta.State) (xs : List Step) → AsksSteps old seat un xs
      → ((meta.fold w.layout m (acts_of (released xs))).places ≡ m.places)
      × ((meta.fold w.layout m (acts_of (released xs))).spare ≡ m.spare)
  released_places m [] ask = (refl, refl)
  released_places m (book.MakeNode i b ∷ xs) ask =
      released_places (meta.after w.layout m (meta.LetGo i b)) xs ask.1
  released_places m (book.Regroup leaf changed counts last ∷ xs) ask =
      released_places m xs ask.1
  released_places m (book.DropNode b ∷ xs) ask = released_places m xs ask.1
  released_places m (x ∷ xs) ask = absurd ask.0

  -- nor does it change the parts
  released_parts : (x : parts.State) (xs : List Step) → AsksSteps old seat un xs
      → parts_of x (released xs) ≡ x
  released_parts x [] ask = refl
  released_parts x (book.MakeNode i b ∷ xs) ask = released_parts x xs ask.1
  released_parts x (book.Regroup leaf changed counts last ∷ xs) ask =
      released_parts x xs ask.1
  released_parts x (book.DropNode b ∷ xs) ask = released_parts x xs ask.1
  released_parts x (y ∷ xs) ask = absurd ask.0

module _ (w : Opening) (st : State) (seat : ℕ) (inv : Inv w st.whole) (z : IsKnown w st)
    (laid : AreLaid w) (f : IsInOrder w.flow.books st.whole.flow.books) where
  pub install_known : (un : ℕ → Bool) (steps : List Step) → IsEnabled w st seat (Install un steps)
      → IsKnown w (after w st seat (Install un steps))
  install_known un steps on =
      let m = meta.after w.layout st.whole.store (meta.Plain (event.GiveUp un)) in
      let a = agree w st seat inv z laid f in
      let holds = released_holds w seat st.whole.flow m un st.whole.parts steps
      on.asks.2 (record { holders = a.holders; unnamed = a.unnamed }) in
      let same = released_places w seat un st.whole.parts st.whole.store.spare m steps
      on.asks.2 in
      let s = installed_standing w seat un st.whole.parts st.whole.store.spare st.whole.flow
      steps on.asks.2 on.data_allows (record {
        order = f;
        kept_spare = z.spare;
        reserve = (stands_of w st f z).reserve;
      }) in
      let slots = install_slots st.whole.parts un in
      let stay = after_install st.whole.parts un in
      to_known w (after w st seat (Install un steps)) (record {
        order = s.order;
        holders = holds.holders;
        spare = λ q i. s.kept_spare q (subst (λ (l : List ℕ). In q l) same.1 i);
        reserve = s.reserve;
      }) (subst (λ (x : parts.State). AreInBuckets x
      (course w.flow st.whole.flow (by seat (shelved steps))).books.node
      (course w.flow st.whole.flow (by seat (shelved steps))).books.shelf)
      (sym (released_parts w seat un st.whole.parts st.whole.store.spare
      (parts_step.after st.whole.parts (parts_event.Install un)) steps on.asks.2)) (record {
        leaves = λ i some. let o = slots.leaves i some in
            subst (IsForNode (course w.flow st.whole.flow (by seat (shelved steps))).books.node
            (course w.flow st.whole.flow (by seat (shelved steps))).books.shelf) (sym o.1)
            (installed_node w seat un st.whole.parts st.whole.store.spare st.whole.flow steps
            (st.whole.parts.leaves i).bucket on.asks.2
            (λ b given e. given.0 i (stay.0 i some) e) (z.nodes.leaves i o.0));
        inner_nodes = λ i some. let o = slots.inner_nodes i some in
            subst (IsForNode (course w.flow st.whole.flow (by seat (shelved steps))).books.node
            (course w.flow st.whole.flow (by seat (shelved steps))).books.shelf) (sym o.1)
            (installed_node w seat un st.whole.parts st.whole.store.spare st.whole.flow steps
            (st.whole.parts.inner_nodes i).bucket on.asks.2
            (λ b given e. given.1 i (stay.1 i some) e) (z.nodes.inner_nodes i o.0));
      }))
      (subst (λ (p : Places). Below p.own p.seq p.log st.next_seq) (sym same.0)
      (below_of w st z))
