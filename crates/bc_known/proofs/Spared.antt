-- Buckets that are kept for chains.
use Rattle.std.proofs.Common.{◌≡◌, ◌≢◌, ◌⊎◌, inl, inr, ℕ, ◌<◌, ◌≤◌, true, false, Option, Some, None, refl, sym, ap, ◌∙◌, subst, arith}
use Rattle.bc_books.specs.Shelves.{Tree, Shelf, Loose, Held}
use Rattle.bc_books.specs.Chains.{Many}
use Rattle.bc_books.specs.Books.{Books}
use Rattle.bc_books.specs.Invariant.{IsInOrder}
use Rattle.bc_books.specs.Laws.{IsForNode}
use Rattle.bc_collect.specs.Spare.{IsForChain}
use Rattle.bc_meta.specs.Facts.{In}
use Rattle.bc_meta.specs.Acts.{MayKeep}
use Rattle.bc_meta.proofs.Lists.{by_test}
use Rattle.bc_whole.specs.State.{Opening}
use Rattle.bc_whole.specs.State as whole
use Rattle.bc_whole.specs.Run as whole_run
use Rattle.bc_whole.proofs.Kept.{Inv}
use Rattle.bc_known.specs.Acts.{is_for_chain, for_chain, kept}
use Rattle.bc_known.specs.Known.{AreLaid}
use Rattle.bc_known.proofs.Places.{bool_true, bool_false}
use Rattle.bc_known.proofs.Spares.{kept_many, in_first, in_for_chain, for_chain_true}

loose_chain : (x : Shelf) → is_for_chain x ≡ true → x ≢ Loose
loose_chain x h e = let y : false ≡ true = sym (ap is_for_chain e) ∙ h in absurd (cc)

tree_chain : (x : Shelf) (i : ℕ) → is_for_chain x ≡ true → x ≡ Held i Tree → ⊥
tree_chain x i h e = let y : false ≡ true = sym (ap is_for_chain e) ∙ h in absurd (cc)

module _ (w : Opening) (st : whole.State) (seat : ℕ) (inv : Inv w st) (laid : AreLaid w)
    (f : IsInOrder w.flow.books st.flow.books) where
  abbrev k : Books
  k = st.flow.books

  no_node : (q : ℕ) → is_for_chain (k.shelf q) ≡ true → IsForNode k q → ⊥
  no_node q h (inl n) = loose_chain (k.shelf q) h (f.marked.loose q (inr n))
  no_node q h (inr x) = tree_chain (k.shelf q) x.0 h x.1

  area : (q : ℕ) → is_for_chain (k.shelf q) ≡ true
      → (w.layout.journal ≤ q) × (q < w.layout.buckets)
  area q h = laid.area q (bool_false (w.flow.books.fixed q)
      (λ e. loose_chain (k.shelf q) h (f.marked.loose q (inl e))))

  may_keep : (q : ℕ) → is_for_chain (k.shelf q) ≡ true → MayKeep w.layout st.store q
  may_keep q h = record {
    free = cases (st.store.chain_of q) refl;
    unused = bool_true (st.store.places.records.unused q)
        (λ e. no_node q h (inv.link.nodes q e));
    low = (area q h).0;
    high = (area q h).1;
  }
    where
      cases : (o : Option ℕ) → st.store.chain_of q ≡ o → (st.store.chain_of q ≡ None)
          ⊎ ((n : ℕ) × (st.store.chain_of q ≡ Some n) × (st.store.ready_chain < n))
      cases None e = inl e
      cases (Some n) e =
          let l = f.chained.links q n (sym (inv.link.chain.buckets q) ∙ e) in
          let lo = l.low in
          let same = inv.link.chain.ready_is in
          inr (
            n,
            e,
            by_test n k.chains.ready (λ t. st.store.ready_chain < n)
                (λ is. absurd (loose_chain (k.shelf q) h (l.loose is)))
                (λ ne. omega (arith, lo, ne, same)),
          )

  pub keep_enabled : Many w.flow.books.sets (λ b. IsForChain (k.shelf b))
      → whole_run.IsEnabled w st seat (whole.KeepSpare (kept w st))
  keep_enabled many =
      let h = kept_many k.shelf w.layout.buckets w.layout.chain_sets
      (subst (λ n. Many n (λ b. IsForChain (k.shelf b))) laid.sets many)
      (λ b x. (area b (for_chain_true (k.shelf b) x)).1) in record {
        together = tt;
        flow = tt;
        store = (
          refl,
          tt,
          tt,
          (
            h.0,
            h.1,
            λ q i. may_keep q (in_for_chain k.shelf w.layout.buckets q
                (in_first w.layout.chain_sets (for_chain k.shelf w.layout.buckets) q i)).0,
          ),
          tt,
        );
      }

  pub kept_for_chain : (q : ℕ) → In q (kept w st) → is_for_chain (k.shelf q) ≡ true
  kept_for_chain q i = (in_for_chain k.shelf w.layout.buckets q
      (in_first w.layout.chain_sets (for_chain k.shelf w.layout.buckets) q i)).0
