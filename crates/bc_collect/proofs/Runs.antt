-- The example's round is one that the laws speak of.
use Rattle.std.proofs.Common.{◌≡◌, inl, inr, ℕ, [], ◌∷◌, Some, refl, ap, ◌∙◌, arith}
use Rattle.bc_books.specs.Index.{Clean, Pointer, latest}
use Rattle.bc_books.specs.Books.{Books, Begin, Walk, End}
use Rattle.bc_books.specs.After.{fold}
use Rattle.bc_books.specs.Invariant.{IsMetadata, IsInOrder}
use Rattle.bc_books.specs.Example.{small, before}
use Rattle.bc_collect.specs.Example.{LawCollects, LawRoomy}
use Rattle.bc_books.proofs.Known.{newest}
use Rattle.bc_books.proofs.Opening.{kept_at}
use Rattle.bc_books.proofs.Small.{in_four, run_both, sound_small}
use Rattle.bc_books.proofs.Runs.{k0, runs_before, unpinned_zero}

abbrev before_books : Books
before_books = fold small k0 before

-- no key points into bucket 0 by then
no_keys : (s : ℕ) (r : Pointer) → latest before_books.index s ≡ Some r → small.bucket r.place ≡ 0 → ⊥
no_keys s r e is =
    let f : IsInOrder small before_books = kept_at small before sound_small runs_before in
    in_four (λ s. (r : Pointer) → latest before_books.index s ≡ Some r → small.bucket r.place ≡ 0 → ⊥)
    (far (record { kind = Clean; place = 5; version = 300 }) (λ x. cc)) (λ r e is. cc) (far (record { kind = Clean; place = 2; version = 300 }) (λ x. cc)) (λ r e is. cc)
    s (f.known.keys before_books.index.count s (newest small before_books f) r e).inside r e is
  where
    some_same : (a b : Pointer) → Some a ≡ Some b → a ≡ b
    some_same a b e = cc

    far : (q : Pointer) → (small.bucket q.place ≡ 0 → ⊥) → (r : Pointer) → Some q ≡ Some r → small.bucket r.place ≡ 0
        → ⊥
    far q away r e is = away (ap (λ (x : Pointer). small.bucket x.place) (some_same q r e) ∙ is)

pub law_collects : LawCollects
law_collects = record {
  run = run_both small k0 before (Begin ∷ Walk 0 ∷ End
      ∷ []) runs_before (refl, (refl, (record { going = refl; walked = λ s lt. refl; firm = omega arith }, tt)));
  quiet = (tt, tt);
  idle = record { no_list = λ p e. cc; not_raised = λ e. cc; not_held = λ i h. let e = h.1 in cc; unpinned = unpinned_zero _ (λ p. p) (λ p. p); young = λ s r e is. absurd (no_keys s r e is) };
  reclaimable = record { unpinned = unpinned_zero _ (λ p. p) (λ p. p); not_held = ((λ e. cc), λ i h. let e = h.1 in cc); free = refl; near = omega arith };
  had = record {
    one_round = ((λ e. cc), tt);
    had = (
      record { loose = refl; unpinned = unpinned_zero _ (λ p. p) (λ p. p); no_dirty = λ h. no_keys h.0 h.1.0 h.1.1.0.0 h.1.1.2; no_metadata = no_metadata; young = λ s r e is. absurd (no_keys s r e is) },
      record { loose = refl; unpinned = unpinned_zero _ (λ p. p) (λ p. p); no_dirty = λ h. no_keys h.0 h.1.0 h.1.1.0.0 h.1.1.2; no_metadata = no_metadata; young = λ s r e is. absurd (no_keys s r e is) },
    );
    untouched = refl;
  };
}
  where
    no_metadata : IsMetadata small.fixed before_books.node before_books.chains 0 → ⊥
    no_metadata (inl e) = cc
    no_metadata (inr (inl e)) = cc
    no_metadata (inr (inr e)) = cc

pub law_roomy : LawRoomy
law_roomy = (tt, (tt, (tt, (tt, (tt, (tt, (tt, (tt, (tt, (tt, (tt, (tt, (tt, (tt, (inr ((λ j. 6), (λ i j x y e. omega arith), λ j lt. refl), (tt, (tt, (tt, (tt, (tt, (tt, (tt, (tt, (tt, (tt, (tt, (tt, (tt, (tt, (tt, (tt, (tt, (tt, (inl (λ b. refl), (tt, (tt, (tt, (tt, (tt, tt)))))))))))))))))))))))))))))))))))))))
