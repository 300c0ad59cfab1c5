-- Runs of values.
use Rattle.std.proofs.Common.{◌≡◌, ◌⊎◌, inl, inr, ℕ, zero, suc, ◌+◌, ◌<◌, ◌≤◌, List, [], ◌∷◌, length, Option, Some, None, if◌then◌else◌, refl, ap, ◌∙◌, arith}
use Rattle.bc_model.specs.Sector.{Value, at_run}
use Rattle.bc_model.proofs.Cases.{by_test}
use Rattle.bc_books.specs.Index.{run_place}
use Rattle.bc_disk.specs.Device.{Content, Among, Only, instead, besides, written}

pub at_range : (first : ℕ) (vs : List Value) (s : ℕ) (v : Value) → at_run first vs s ≡ Some v
    → (first ≤ s) × (s < first + length vs)
at_range first [] s v h = absurd (cc)
at_range first (x ∷ xs) s v h =
    let ih = at_range (suc first) xs s v in
    by_test first s (λ b. (if b then Some x else at_run (suc first) xs s) ≡ Some v → (first ≤ s)
    × (s < first + suc (length xs)))
    (λ e k. (omega arith, omega arith))
    (λ e k. let r = ih k in (omega arith, omega arith)) h

-- the sectors of a run that have places
pub sector_range : (first place n s p : ℕ) → run_place first place n s ≡ Some p → (first ≤ s)
    × (s < first + n)
sector_range first place zero s p e = absurd (cc)
sector_range first place (suc n) s p e =
    by_test first s (λ b. (if b then Some place else run_place (suc first) (suc place) n s) ≡ Some p
    → (first ≤ s) × (s < first + suc n))
    (λ is _. (omega arith, omega arith))
    (λ _ h. let r = sector_range (suc first) (suc place) n s p h in let r0 = r.0 in let r1 = r.1 in
    (omega arith, omega arith)) e

pub miss : (o : Option Value) → ((v : Value) → o ≡ Some v → ⊥) → o ≡ None
miss None no_ = refl
miss (Some v) no_ = absurd (no_ v refl)

pub at_miss : (first : ℕ) (vs : List Value) (s : ℕ) → ((first ≤ s) × (s < first + length vs) → ⊥)
    → at_run first vs s ≡ None
at_miss first vs s out = miss (at_run first vs s) (λ v h. out (at_range first vs s v h))

pub some_value : (a b : Value) → Some a ≡ Some b → a ≡ b
some_value a b e = cc

pub only_one : (v : Value) → Only v (v ∷ [])
only_one v x (inl e) = e
only_one v x (inr n) = absurd n

pub reads_there : (d : Content) (first : ℕ) (vs : List Value) (t : ℕ) (v : Value)
    → at_run first vs t ≡ Some v → (written first vs d).reads t ≡ v ∷ []
reads_there d first vs t v h = ap (λ (o : Option Value). instead o (d.reads t)) h

pub instead_only : (o : Option Value) (old : List Value) (v : Value)
    → ((x : Value) → o ≡ Some x → x ≡ v) → (o ≡ None → Only v old) → Only v (instead o old)
instead_only None old v new same = same refl
instead_only (Some x) old v new same = only
  where
    only : (y : Value) → (y ≡ x) ⊎ ⊥ → y ≡ v
    only y (inl e) = e ∙ new x refl
    only y (inr n) = absurd n

pub besides_only : (o : Option Value) (old : List Value) (v : Value)
    → ((x : Value) → o ≡ Some x → x ≡ v) → Only v old → Only v (besides o old)
besides_only None old v new same = same
besides_only (Some x) old v new same = only
  where
    only : (y : Value) → (y ≡ x) ⊎ Among y old → y ≡ v
    only y (inl e) = e ∙ new x refl
    only y (inr n) = same y n
