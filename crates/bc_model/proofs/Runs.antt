-- Runs of values: the one file of this crate whose proofs test sector numbers.
use Rattle.std.proofs.Common.{◌≡◌, ℕ, suc, ◌+◌, ◌<◌, ◌≤◌, List, [], ◌∷◌, length, Option, Some, None, if◌then◌else◌, refl, arith}
use Rattle.bc_model.specs.Sector.{Value, at_run}
use Rattle.bc_model.proofs.Cases.{by_test}

-- a sector that the run gives a value to lies in its range
pub at_range : (first : ℕ) (vs : List Value) (s : ℕ) (v : Value) → at_run first vs s ≡ Some v → (first ≤ s) × (s < first + length vs)
at_range first [] s v h = absurd (cc)
at_range first (x ∷ xs) s v h =
    let rest = at_range (suc first) xs s v in
    by_test first s (λ b. (if b then Some x else at_run (suc first) xs s) ≡ Some v → (first ≤ s) × (s < first + suc (length xs)))
    (λ e k. (omega arith, omega arith))
    (λ e k. let r = rest k in (omega arith, omega arith)) h

pub none_if : (o : Option Value) → ((v : Value) → o ≡ Some v → ⊥) → o ≡ None
none_if None never = refl
none_if (Some v) never = absurd (never v refl)

-- outside its range it gives nothing
pub at_miss : (first : ℕ) (vs : List Value) (s : ℕ) → ((first ≤ s) × (s < first + length vs) → ⊥) → at_run first vs s ≡ None
at_miss first vs s out = none_if (at_run first vs s) (λ v h. out (at_range first vs s v h))

-- inside it gives some value
pub at_hit : (first : ℕ) (vs : List Value) (s : ℕ) → first ≤ s → s < first + length vs → (v : Value) × (at_run first vs s ≡ Some v)
at_hit first [] s low high = absurd (omega arith)
at_hit first (x ∷ xs) s low high =
    by_test first s (λ b. (v : Value) × ((if b then Some x else at_run (suc first) xs s) ≡ Some v))
    (λ e. (x, refl))
    (λ ne. at_hit (suc first) xs s (next ne) (omega arith))
  where
    next : (first ≡ s → ⊥) → suc first ≤ s
    next ne = grind (arith, ne)
