-- The victim is the first of the victims.
use Rattle.std.proofs.Common.{◌≡◌, ◌≢◌, ◌⊎◌, inl, inr, ℕ, zero, suc, ◌<◌, ◌≤◌, List, [], ◌∷◌, length, get_or, refl, ap, subst, arith}
use Rattle.std.proofs.lemmas.Bool.{cases_eq, cases_lt}
use Rattle.bc_bucket.specs.Buckets.{Buckets}
use Rattle.bc_alloc.specs.Reserve.{times}
use Rattle.bc_alloc.specs.Reserves.{Reserves, wanted}
use Rattle.bc_alloc.specs.Victims.{AreVictims, IsBefore, IsCandidate, IsVictim}
use Rattle.bc_alloc.proofs.Raising.{place_in}
use Rattle.bc_alloc.proofs.Unique.{never_both}

is_first : (r : Reserves) (b : Buckets) (x : ℕ) (xs : List ℕ) (v : ℕ) → AreVictims r b (x ∷ xs) → IsVictim r b v → x ≡ v
is_first r b x xs v all one = go (cases_eq x v)
  where
    before : x ≢ v → (0 < times v (x ∷ xs)) ⊎ (times v (x ∷ xs) ≤ 0) → IsBefore b.records x v
    before ne (inl there) = let p = place_in v (x ∷ xs) there in at p.0 p.1 p.2
      where
        at : (k : ℕ) → k < length (x ∷ xs) → get_or (x ∷ xs) k 0 ≡ v → IsBefore b.records x v
        at zero lt is = absurd (ne is)
        at (suc k) lt is = subst (λ w. IsBefore b.records x w) is (all.ordered 0 (suc k) (omega arith) lt)
    before ne (inr none) = all.first v one.candidate (omega arith) 0 (omega arith)

    go : (x ≡ v) ⊎ (x ≢ v) → x ≡ v
    go (inl e) = e
    go (inr ne) =
        absurd (never_both b.records x v (before ne (cases_lt 0 (times v (x ∷ xs))))
        (one.first x (all.chosen 0 (omega arith)) ne))

pub next_one : (r : Reserves) (b : Buckets) (vs : List ℕ) (v : ℕ) → AreVictims r b vs → 0 < wanted r → IsVictim r b v → (rest : List ℕ) × (vs ≡ v ∷ rest)
next_one r b [] v all some one = absurd (let there = all.enough some v one.candidate in omega arith)
next_one r b (x ∷ xs) v all some one = (xs, ap (λ w. w ∷ xs) (is_first r b x xs v all one))

pub no_next : (r : Reserves) (b : Buckets) (vs : List ℕ) → AreVictims r b vs → (wanted r ≡ 0) ⊎ ((k : ℕ) → IsCandidate r b k → ⊥) → vs ≡ []
no_next r b [] all none = refl
no_next r b (x ∷ xs) all (inl full) = absurd (let few = all.few in omega arith)
no_next r b (x ∷ xs) all (inr none) = absurd (none x (all.chosen 0 (omega arith)))
