-- What follows of a bucket from where it stands, and from pins of its places: that no node is
-- there, and nothing of a chain.
use Rattle.std.proofs.Common.{◌≡◌, ◌≢◌, inl, inr, ℕ, ◌<◌, ◌≤◌, Bool, true, false, Option, Some, None, refl, sym, ◌∙◌, subst, arith}
use Rattle.bc_books.specs.Shelves.{Purpose, Priorities, Moving, Tree, Plain, Shelf, Loose, Listed, Raised, Open, Held, Owner, Fresh, Own, Kept, Spent, IsPinned, IsUnwritten}
use Rattle.bc_books.specs.Books.{Books}
use Rattle.bc_books.specs.Invariant.{IsInOrder}
use Rattle.bc_books.specs.Laws.{IsForNode}
use Rattle.bc_meta.specs.Facts.{In}
use Rattle.bc_meta.specs.Records.{Records}
use Rattle.bc_meta.proofs.Lists.{by_test}
use Rattle.bc_leaves.specs.Enabled.{IsVacant}
use Rattle.bc_whole.specs.State.{Opening}
use Rattle.bc_whole.proofs.Kept.{Inv}
use Rattle.bc_known.specs.Acts.{State, is_for_chain}
use Rattle.bc_known.specs.Known.{IsKnown, AreLaid, HasHolder}

pub bool_true : (b : Bool) → (b ≡ false → ⊥) → b ≡ true
bool_true true not = refl
bool_true false not = absurd (not refl)

pub bool_false : (b : Bool) → (b ≡ true → ⊥) → b ≡ false
bool_false true not = absurd (not refl)
bool_false false not = refl

pub true_false : (b : Bool) → b ≡ true → b ≡ false → ⊥
true_false b x y = cc

pub none_of : (o : Option ℕ) → ((c : ℕ) → o ≡ Some c → ⊥) → o ≡ None
none_of None off = refl
none_of (Some c) off = absurd (off c refl)

-- a shelf of metadata's nodes
abbrev pub IsNodeShelf : Shelf → Type 0
IsNodeShelf Loose = Unit {0}
IsNodeShelf (Listed p) = ⊥
IsNodeShelf Raised = ⊥
IsNodeShelf Open = ⊥
IsNodeShelf (Held i Priorities) = ⊥
IsNodeShelf (Held i Moving) = ⊥
IsNodeShelf (Held i Tree) = Unit {0}
IsNodeShelf (Held i Plain) = ⊥

-- one that has buckets of chains
abbrev pub IsChainShelf : Shelf → Type 0
IsChainShelf Loose = Unit {0}
IsChainShelf (Listed p) = ⊥
IsChainShelf Raised = ⊥
IsChainShelf Open = ⊥
IsChainShelf (Held i Priorities) = Unit {0}
IsChainShelf (Held i Moving) = ⊥
IsChainShelf (Held i Tree) = ⊥
IsChainShelf (Held i Plain) = ⊥

pinned_fresh : (x : Owner) → IsPinned x → x ≡ Fresh → ⊥
pinned_fresh Fresh p e = p
pinned_fresh (Own i) p e = absurd (cc)
pinned_fresh (Kept c) p e = absurd (cc)
pinned_fresh Spent p e = p

unwritten_chain : (x : Shelf) → is_for_chain x ≡ true → IsUnwritten x
unwritten_chain Loose e = absurd (cc)
unwritten_chain (Listed p) e = tt
unwritten_chain Raised e = tt
unwritten_chain Open e = absurd (cc)
unwritten_chain (Held i Priorities) e = tt
unwritten_chain (Held i Moving) e = absurd (cc)
unwritten_chain (Held i Tree) e = tt
unwritten_chain (Held i Plain) e = tt

module _ (w : Opening) (st : State) (inv : Inv w st.whole) (z : IsKnown w st) (laid : AreLaid w)
    (f : IsInOrder w.flow.books st.whole.flow.books) where
  abbrev k : Books
  k = st.whole.flow.books

  -- ---- nodes

  pub node_shelf : (q : ℕ) → IsForNode k q → IsNodeShelf (k.shelf q)
  node_shelf q (inl n) = subst IsNodeShelf (sym (f.marked.loose q (inr n))) tt
  node_shelf q (inr h) = subst IsNodeShelf (sym h.1) tt

  node_fresh : (q t : ℕ) → IsForNode k q → w.flow.books.bucket t ≡ q → k.owner t ≡ Fresh
  node_fresh q t (inl n) e = f.marked.fresh q (inr n) t e
  node_fresh q t (inr h) e = f.placed.unwritten q (subst IsUnwritten (sym h.1) tt) t e

  pub no_node : (q : ℕ) → (IsForNode k q → ⊥) → st.whole.store.places.records.unused q ≡ true
  no_node q off = bool_true (st.whole.store.places.records.unused q)
      (λ e. off (inv.link.nodes q e))

  pub vacant : (q : ℕ) → (IsForNode k q → ⊥) → IsVacant st.whole.parts q
  vacant q off = (
    subst (λ (r : Records). r.unused q ≡ true) (sym inv.same) (no_node q off),
    λ i some e. off (subst (λ n. IsForNode k n) e (z.nodes.leaves i some)),
    λ i some e. off (subst (λ n. IsForNode k n) e (z.nodes.inner_nodes i some)),
  )

  -- ---- chains

  chain_shelf_of : (q c : ℕ) → k.chains.of q ≡ Some c → IsChainShelf (k.shelf q)
  chain_shelf_of q c e =
      let l = f.chained.links q c e in
      by_test c k.chains.ready (λ t. IsChainShelf (k.shelf q))
      (λ is. subst IsChainShelf (sym (l.loose is)) tt)
      (λ ne. let lo = l.low in let h = l.held (omega (arith, lo, ne)) in
      subst IsChainShelf (sym h.1) tt)

  pub no_chain : (q : ℕ) → (IsChainShelf (k.shelf q) → ⊥) → k.chains.of q ≡ None
  no_chain q off = none_of (k.chains.of q) (λ c e. off (chain_shelf_of q c e))

  pub no_store_chain : (q : ℕ) → k.chains.of q ≡ None → st.whole.store.chain_of q ≡ None
  no_store_chain q e = inv.link.chain.buckets q ∙ e

  -- ---- places that are pinned

  module _ (q t : ℕ) (pinned : IsPinned (k.owner t)) (there : w.flow.books.bucket t ≡ q) where
    pub pinned_node : IsForNode k q → ⊥
    pinned_node n = pinned_fresh (k.owner t) pinned (node_fresh q t n there)

    pub pinned_chain : k.chains.of q ≡ None
    pinned_chain = none_of (k.chains.of q) (λ c e. pinned_fresh (k.owner t) pinned
        ((f.chained.links q c e).fresh t there))

    pub pinned_spare : In q st.whole.store.spare → ⊥
    pinned_spare i = pinned_fresh (k.owner t) pinned
        (f.placed.unwritten q (unwritten_chain (k.shelf q) (z.spare q i)) t there)

    pub pinned_area : (w.layout.journal ≤ q) × (q < w.layout.buckets)
    pinned_area = laid.area q (bool_false (w.flow.books.fixed q)
        (λ e. pinned_fresh (k.owner t) pinned (f.marked.fresh q (inl e) t there)))

  -- ---- buckets by where they stand

  not_loose : (x : Shelf) → x ≡ Loose → (x ≢ Loose) → ⊥
  not_loose x e ne = ne e

  pub area : (q : ℕ) → k.shelf q ≢ Loose → (w.layout.journal ≤ q) × (q < w.layout.buckets)
  area q ne = laid.area q (bool_false (w.flow.books.fixed q)
      (λ e. ne (f.marked.loose q (inl e))))

  pub node_area : (q : ℕ) → IsForNode k q → (w.layout.journal ≤ q) × (q < w.layout.buckets)
  node_area q (inl n) = laid.area q (bool_false (w.flow.books.fixed q)
      (λ e. true_false (k.node q) n (f.marked.one_use q e)))
  node_area q (inr h) = area q (λ e. held_loose h.0 e h.1)
    where
      held_loose : (i : ℕ) → k.shelf q ≡ Loose → k.shelf q ≡ Held i Tree → ⊥
      held_loose i a b = cc

  holder_of : (x : Shelf) (h : Option ℕ) (i : ℕ) (p : Purpose) → x ≡ Held i p → HasHolder x h
      → h ≡ Some i
  holder_of x h i p e has = subst (λ y. HasHolder y h) e has

  pub holder : (q i : ℕ) (p : Purpose) → k.shelf q ≡ Held i p
      → st.whole.store.holder q ≡ Some i
  holder q i p e = holder_of (k.shelf q) (st.whole.store.holder q) i p e (z.holders q)

  pub no_holder : (q : ℕ) (p : Purpose) → k.shelf q ≡ Listed p
      → st.whole.store.holder q ≡ None
  no_holder q p e = subst (λ y. HasHolder y (st.whole.store.holder q)) e (z.holders q)
