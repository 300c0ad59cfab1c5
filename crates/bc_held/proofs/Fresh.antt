-- A bucket on a list: nothing of it was pinned, and no chain has it.
use Rattle.std.proofs.Common.{◌≡◌, ◌⊎◌, inl, inr, ℕ, Option, Some, None, refl, sym, subst, arith}
use Rattle.std.proofs.lemmas.Bool.{cases_eq}
use Rattle.bc_books.specs.Books.{Books, Setup}
use Rattle.bc_books.specs.Enabled.{IsFresh}
use Rattle.bc_books.specs.Invariant.{IsInOrder}
use Rattle.bc_books.specs.Shelves.{Held, IsUnwritten, Listed, Loose, Priorities, Purpose, Shelf}

listed_loose : (x : Shelf) (p : Purpose) → x ≡ Listed p → x ≡ Loose → ⊥
listed_loose x p a b = cc

listed_held : (x : Shelf) (p q : Purpose) (i : ℕ) → x ≡ Listed p → x ≡ Held i q → ⊥
listed_held x p q i a b = cc

module _ (w : Setup) (k : Books) (order : IsInOrder w k) (q : ℕ) (p : Purpose)
    (is : k.shelf q ≡ Listed p) where
  pub fresh_listed : IsFresh w.bucket k.owner q
  fresh_listed = order.placed.unwritten q (subst IsUnwritten (sym is) tt)

  pub unnamed_listed : k.chains.of q ≡ None
  unnamed_listed = go (k.chains.of q) refl
    where
      go : (o : Option ℕ) → k.chains.of q ≡ o → o ≡ None
      go None e = refl
      go (Some c) e =
          let link = order.chained.links q c e in
          let low = link.low in
          absurd (by_age (cases_eq c k.chains.ready))
        where
          by_age : (c ≡ k.chains.ready) ⊎ (c ≡ k.chains.ready → ⊥) → ⊥
          by_age (inl same) =
              listed_loose (k.shelf q) p is ((order.chained.links q c e).loose same)
          by_age (inr ne) =
              let low = (order.chained.links q c e).low in
              let held = (order.chained.links q c e).held (omega (arith, low, ne)) in
              listed_held (k.shelf q) p Priorities held.0 is held.1
