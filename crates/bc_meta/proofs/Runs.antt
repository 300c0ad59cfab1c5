-- Runs of values: the only file whose proofs test sector numbers.
use Rattle.std.proofs.Common.{◌≡◌, ◌≢◌, ◌⊎◌, inl, inr, ℕ, suc, ◌+◌, ◌<◌, ◌≤◌, Bool, true, false, List, [], ◌∷◌, length, Option, Some, None, if◌then◌else◌, ◌==◌, refl, sym, ap, ◌∙◌, subst, arith}
use Rattle.std.proofs.lemmas.Bool.Decides.{eqb_tells}
use Rattle.bc_model.specs.Sector.{Value, at_run}
use Rattle.bc_disk.specs.Device.{Content, Only, besides, instead, written}

-- cases on a test of two numbers
pub by_test : (a b : ℕ) (P : Bool → Type 0) → (a ≡ b → P true) → (a ≢ b → P false) → P (a == b)
by_test a b P yes_ no_ = go (eqb_tells a b)
  where
    go : (((a == b) ≡ true) × (a ≡ b)) ⊎ (((a == b) ≡ false) × (a ≢ b)) → P (a == b)
    go (inl t) = subst P (sym t.0) (yes_ t.1)
    go (inr t) = subst P (sym t.0) (no_ t.1)

pub at_range : (first : ℕ) (vs : List Value) (s : ℕ) (v : Value) → at_run first vs s ≡ Some v → (first ≤ s) × (s < first + length vs)
at_range first [] s v h = absurd (cc)
at_range first (x ∷ xs) s v h =
    let ih = at_range (suc first) xs s v in
    by_test first s (λ b. (if b then Some x else at_run (suc first) xs s) ≡ Some v → (first ≤ s) × (s < first + suc (length xs)))
    (λ e k. (omega arith, omega arith))
    (λ e k. let r = ih k in (omega arith, omega arith)) h

pub miss : (o : Option Value) → ((v : Value) → o ≡ Some v → ⊥) → o ≡ None
miss None no_ = refl
miss (Some v) no_ = absurd (no_ v refl)

pub at_miss : (first : ℕ) (vs : List Value) (s : ℕ) → ((first ≤ s) × (s < first + length vs) → ⊥) → at_run first vs s ≡ None
at_miss first vs s out = miss (at_run first vs s) (λ v h. out (at_range first vs s v h))

-- outside a write's range nothing changes
pub reads_other : (d : Content) (first : ℕ) (vs : List Value) (t : ℕ) → ((first ≤ t) × (t < first + length vs) → ⊥) → (written first vs d).reads t ≡ d.reads t
reads_other d first vs t out = ap (λ (o : Option Value). instead o (d.reads t)) (at_miss first vs t out)

pub leaves_other : (d : Content) (first : ℕ) (vs : List Value) (t : ℕ) → ((first ≤ t) × (t < first + length vs) → ⊥) → (written first vs d).leaves t ≡ d.leaves t
leaves_other d first vs t out = ap (λ (o : Option Value). besides o (d.leaves t)) (at_miss first vs t out)

pub instead_only : (o : Option Value) (old : List Value) (v : Value) → ((x : Value) → o ≡ Some x → x ≡ v) → (o ≡ None → Only v old) → Only v (instead o old)
instead_only None old v new same = same refl
instead_only (Some x) old v new same = only
  where
    only : (y : Value) → (y ≡ x) ⊎ ⊥ → y ≡ v
    only y (inl e) = e ∙ new x refl
    only y (inr n) = absurd n
