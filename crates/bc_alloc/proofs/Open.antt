-- The first of the buckets that may be given up.
use Rattle.std.proofs.Common.{◌≡◌, ◌≢◌, ◌⊎◌, inl, inr, ℕ, ◌+◌, ◌<◌, ◌≤◌, Bool, List, Option, Some, None, sym, ap, subst, arith}
use Rattle.std.specs.Prelude.{MatchOption}
use Rattle.std.proofs.lemmas.Bool.{cases_eq, cases_lt}
use Rattle.bc_bucket.specs.declared.bucket.Bucket.{Bucket}
use Rattle.bc_alloc.specs.Victims.{IsBefore, IsOpen, priority_of}

-- the first of those below n
abbrev pub IsFirstBelow : List Bucket → List Bool → ℕ → ℕ → Type 0
IsFirstBelow records listed n v = (v < n) × IsOpen records listed v × ((k : ℕ) → k < n → IsOpen records listed k → k ≢ v → IsBefore records v k)

abbrev pub NoneBelow : List Bucket → List Bool → ℕ → Type 0
NoneBelow records listed n = (k : ℕ) → k < n → IsOpen records listed k → ⊥

abbrev pub FirstBelow : List Bucket → List Bool → ℕ → Option ℕ → Type 0
FirstBelow records listed n first = MatchOption first (NoneBelow records listed n) (λ v. IsFirstBelow records listed n v)

-- the next one takes its place
pub takes_place : (records : List Bucket) (listed : List Bool) (n : ℕ) (first : Option ℕ) → FirstBelow records listed n first → IsOpen records listed n → MatchOption first (Unit {0}) (λ v. priority_of records n < priority_of records v) → IsFirstBelow records listed (n + 1) n
takes_place records listed n None h own lower = (omega arith, own, λ k lt free ne. absurd (h k (omega (arith, ne)) free))
takes_place records listed n (Some v) h own lower = (omega arith, own, λ k lt free ne. inl (at k free ne (omega (arith, ne)) (cases_eq k v)))
  where
    at : (k : ℕ) → IsOpen records listed k → k ≢ n → k < n → (k ≡ v) ⊎ (k ≢ v) → priority_of records n < priority_of records k
    at k free ne below (inl e) = subst (λ (j : ℕ). priority_of records n < priority_of records j) (sym e) lower
    at k free ne below (inr other) = by (h.2 k below free other)
      where
        by : IsBefore records v k → priority_of records n < priority_of records k
        by (inl lt) = omega arith
        by (inr eq) = let e = eq.0 in omega arith

-- the next one doesn't
pub keeps_place : (records : List Bucket) (listed : List Bool) (n : ℕ) (first : Option ℕ) → FirstBelow records listed n first → (IsOpen records listed n → MatchOption first ⊥ (λ v. priority_of records v ≤ priority_of records n)) → FirstBelow records listed (n + 1) first
keeps_place records listed n None h later = λ k lt free. at k lt free (cases_eq k n)
  where
    at : (k : ℕ) → k < n + 1 → IsOpen records listed k → (k ≡ n) ⊎ (k ≢ n) → ⊥
    at k lt free (inl e) = later (subst (λ (j : ℕ). IsOpen records listed j) e free)
    at k lt free (inr ne) = h k (omega (arith, ne)) free
keeps_place records listed n (Some v) h later = (omega (arith, h.0), h.1, λ k lt free ne. at k lt free ne (cases_eq k n))
  where
    at : (k : ℕ) → k < n + 1 → IsOpen records listed k → k ≢ v → (k ≡ n) ⊎ (k ≢ n) → IsBefore records v k
    at k lt free ne (inl e) = by (cases_lt (priority_of records v) (priority_of records k))
      where
        by : (priority_of records v < priority_of records k) ⊎ (priority_of records k ≤ priority_of records v) → IsBefore records v k
        by (inl less) = inl less
        by (inr le) = let most = later (subst (λ (j : ℕ). IsOpen records listed j) e free) in
            let same = ap (λ (j : ℕ). priority_of records j) e in
            inr (omega arith, let low = h.0 in omega arith)
    at k lt free ne (inr other) = h.2 k (omega (arith, other)) free ne
