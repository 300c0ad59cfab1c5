-- A seat may install a change that is made.
use Rattle.std.proofs.Common.{◌≡◌, ◌≢◌, ◌⊎◌, inl, inr, ℕ, Bool, true, false, List, [], ◌∷◌, ◌++◌, refl, sym, ap, ◌∙◌, subst, if◌then◌else◌, ◌||◌}
use Rattle.bc_books.specs.Books.{Step, MakeNode, DropNode}
use Rattle.bc_books.specs.Enabled.{CanStep}
use Rattle.bc_books.specs.Shelves.{Tree, Loose, Held}
use Rattle.bc_data.specs.Data as flow
use Rattle.bc_data.specs.After as flow_step
use Rattle.bc_data.specs.After.{IsCourse}
use Rattle.bc_facts.proofs.Stood.{in_either}
use Rattle.bc_meta.specs.Chain.{Distinct}
use Rattle.bc_meta.specs.Facts.{In}
use Rattle.bc_meta.proofs.Lists.{by_test}
use Rattle.bc_leaves.specs.Parts.{Role, NoNode, Draft, Free, Leaving, Coming}
use Rattle.bc_leaves.specs.Parts as parts
use Rattle.bc_leaves.specs.After.{has}
use Rattle.bc_leaves.specs.Enabled.{CanInstall}
use Rattle.bc_leaves.specs.Fits.{HaveBuckets}
use Rattle.bc_leaves.proofs.Chains.{has_in, in_has}
use Rattle.bc_whole.specs.State.{Opening}
use Rattle.bc_whole.specs.Together.{shelved}
use Rattle.bc_whole.specs.Run.{by}
use Rattle.bc_known.specs.Acts.{State, Install}
use Rattle.bc_known.specs.Asked.{AsksSteps, IsAfter, IsGivenUp}
use Rattle.bc_known.specs.Run.{IsEnabled}
use Rattle.bc_events.specs.Changes.{buckets_gone, dropped, inner_buckets, leaf_buckets, made, regroup, with}
use Rattle.bc_events.specs.declared.event.Change.{Change}
use Rattle.bc_shares.specs.Shares.{books_of}
use Rattle.bc_looks.specs.bc_machine.Containers.{IsInTree}
use Rattle.bc_nodes_known.specs.Nodes.{AreNodes, IsInstallOf}

-- ---- what the books ask

-- buckets of what comes are held, and those of what goes are known as nodes'
steps_course : (w : Opening) (f : flow.State) (i : ℕ) (come gone : List ℕ) → f.halted ≡ false
    → ((b : ℕ) → In b come → f.books.shelf b ≡ Held i Tree) → Distinct come
    → ((b : ℕ) → In b gone → f.books.node b ≡ true) → Distinct gone
    → IsCourse w.flow f (by i (shelved (made i come ++ dropped gone)))
steps_course w f i (b ∷ bs) gone runs held once nodes apart = (
  record { heard = runs; steps = (held b (inl refl), tt); can = refl },
  steps_course w (flow_step.after w.flow f i (flow.Shelve (MakeNode i b))) i bs gone runs
      (λ q m. by_test q b (λ t. (if t then Loose else f.books.shelf q) ≡ Held i Tree)
      (λ here. absurd (once.0 (subst (λ n. In n bs) here m))) (λ _. held q (inr m))) once.1
      (λ q m. by_test q b (λ t. (if t then true else f.books.node q) ≡ true) (λ _. refl)
      (λ _. nodes q m)) apart,
)
steps_course w f i [] (b ∷ bs) runs held once nodes apart = (
  record { heard = runs; steps = (nodes b (inl refl), tt); can = tt },
  steps_course w (flow_step.after w.flow f i (flow.Shelve (DropNode b))) i [] bs runs
      (λ q m. absurd m) tt
      (λ q m. by_test q b (λ t. (if t then false else f.books.node q) ≡ true)
      (λ here. absurd (apart.0 (subst (λ n. In n bs) here m))) (λ _. nodes q (inr m))) apart.1,
)
steps_course w f i [] [] runs held once nodes apart = tt

-- ---- what goes

-- a node that leaves lies there
abbrev pub HasLeaving : parts.State → ℕ → Type 0
HasLeaving p q = ((k : ℕ) × ((p.leaves k).role ≡ Leaving) × ((p.leaves k).bucket ≡ q))
    ⊎ ((x : ℕ) × ((p.inner_nodes x).role ≡ Leaving) × ((p.inner_nodes x).bucket ≡ q))

leaf_in : (p : parts.State) (is : List ℕ) (q : ℕ) → In q (leaf_buckets p is)
    → (k : ℕ) × In k is × ((p.leaves k).bucket ≡ q)
leaf_in p [] q m = absurd m
leaf_in p (i ∷ is) q (inl here) = (i, inl refl, sym here)
leaf_in p (i ∷ is) q (inr later) = let one = leaf_in p is q later in (one.0, inr one.1, one.2)

inner_in : (p : parts.State) (is : List ℕ) (q : ℕ) → In q (inner_buckets p is)
    → (x : ℕ) × In x is × ((p.inner_nodes x).bucket ≡ q)
inner_in p [] q m = absurd m
inner_in p (i ∷ is) q (inl here) = (i, inl refl, sym here)
inner_in p (i ∷ is) q (inr later) = let one = inner_in p is q later in (one.0, inr one.1, one.2)

after_some : (r : Role) → IsAfter r → r ≢ NoNode
after_some NoNode h none = h
after_some Draft h none = cc
after_some Free h none = cc
after_some Leaving h none = h
after_some Coming h none = cc

leaving_some : (r : Role) → r ≡ Leaving → r ≢ NoNode
leaving_some r is none = cc

not_after : (r : Role) → r ≡ Leaving → IsAfter r → ⊥
not_after r is h = subst IsAfter is h

module _ (p : parts.State) (buckets : HaveBuckets p.records.nodes p.leaves p.inner_nodes) where
  given_up : (q : ℕ) → HasLeaving p q → IsGivenUp p q
  given_up q (inl one) = (
    (λ k after here.
        let same = buckets.one_leaf k one.0 (after_some (p.leaves k).role after)
        (leaving_some (p.leaves one.0).role one.1) (here ∙ sym one.2) in
        not_after (p.leaves k).role (ap (λ n. (p.leaves n).role) same ∙ one.1) after),
    (λ x after here. buckets.one_kind one.0 x (leaving_some (p.leaves one.0).role one.1)
        (after_some (p.inner_nodes x).role after) (one.2 ∙ sym here)),
  )
  given_up q (inr one) = (
    (λ k after here. buckets.one_kind k one.0 (after_some (p.leaves k).role after)
        (leaving_some (p.inner_nodes one.0).role one.1) (here ∙ sym one.2)),
    (λ x after here.
        let same = buckets.one_inner x one.0 (after_some (p.inner_nodes x).role after)
        (leaving_some (p.inner_nodes one.0).role one.1) (here ∙ sym one.2) in
        not_after (p.inner_nodes x).role (ap (λ n. (p.inner_nodes n).role) same ∙ one.1) after),
  )

-- ---- what the tree asks

some_with : (b u : Bool) → (b || u) ≡ true → (u ≡ true) ⊎ (b ≡ true)
some_with true u h = inr refl
some_with false u h = inl h

more_with : (b u : Bool) → u ≡ true → (b || u) ≡ true
more_with true u h = refl
more_with false u h = h

here_with : (b u : Bool) → b ≡ true → (b || u) ≡ true
here_with true u h = refl
here_with false u h = absurd (cc)

module _ (w : Opening) (st : State) (i : ℕ) (c : Change) (come gone : List ℕ)
    (h : IsInstallOf st i c come gone)
    (buckets : HaveBuckets st.whole.parts.records.nodes st.whole.parts.leaves
    st.whole.parts.inner_nodes) (known : AreNodes st)
    (allowed : CanStep w.flow.books (books_of st)
    (regroup (books_of st).index st.whole.parts.leaves c)) where
  abbrev p : parts.State
  p = st.whole.parts

  abbrev un : ℕ → Bool
  un = with p.records.unused (buckets_gone p c)

  abbrev first : Step
  first = regroup (books_of st).index p.leaves c

  leaving : (q : ℕ) → In q (buckets_gone p c) → HasLeaving p q
  leaving q m = elim (in_either q (leaf_buckets p c.gone.items) (inner_buckets p c.old.items) m) [
    | inl leaf ↦ (let one = leaf_in p c.gone.items q leaf in
        inl (one.0, h.change.leave one.0 one.1, one.2))
    | inr inner ↦ (let one = inner_in p c.old.items q inner in
        inr (one.0, h.old one.0 one.1, one.2))
  ]

  node_there : (q : ℕ) → HasLeaving p q → (books_of st).node q ≡ true
  node_there q (inl one) = ap (books_of st).node (sym one.2)
      ∙ known.leaves one.0 (subst IsInTree (sym one.1) tt)
  node_there q (inr one) = ap (books_of st).node (sym one.2)
      ∙ known.inner_nodes one.0 (subst IsInTree (sym one.1) tt)

  can : CanInstall p un
  can = (
    h.made,
    (λ q unused. elim (some_with (has (buckets_gone p c) q) (p.records.unused q) unused) [
      | inl before ↦ inl before
      | inr now ↦ inr (leaving q (in_has (buckets_gone p c) q now))
    ]),
  )

  made_asks : (bs gs : List ℕ) → ((b : ℕ) → In b gs → In b (buckets_gone p c))
      → AsksSteps p i un (made i bs ++ dropped gs)
  made_asks (b ∷ bs) gs among = (refl, made_asks bs gs among)
  made_asks [] (b ∷ bs) among =
      let m = among b (inl refl) in (
        (
          here_with (has (buckets_gone p c) b) (p.records.unused b)
              (has_in (buckets_gone p c) b m),
          given_up p buckets b (leaving b m),
        ),
        made_asks [] bs (λ q later. among q (inr later)),
      )
  made_asks [] [] among = tt

  pub install_enabled : st.whole.flow.halted ≡ false
      → IsEnabled w st i (Install un (first ∷ (made i come ++ dropped gone)))
  install_enabled runs = record {
    data_allows = (
      record { heard = runs; steps = (allowed, tt); can = tt },
      steps_course w (flow_step.after w.flow st.whole.flow i (flow.Shelve first)) i come gone runs
          h.held h.come_once (λ b m. node_there b (leaving b (h.gone_in b m))) h.gone_once,
    );
    asks = (
      can,
      (λ q unused. more_with (has (buckets_gone p c) q) (p.records.unused q) unused),
      (tt, made_asks come gone h.gone_in),
    );
  }
