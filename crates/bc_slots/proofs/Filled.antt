-- Slots that are filled from the first one on.
use Rattle.std.proofs.Common.{◌≡◌, ℕ, zero, suc, ◌+◌, ◌<◌, ◌≤◌, List, [], ◌∷◌, ◌++◌, length, replicate, Option, Some, None, refl, sym, ap, ◌∙◌, subst, arith}
use Rattle.std.specs.Prelude.{slice_get, slice_set}
use Rattle.bc_cache.specs.declared.slots.Cached.{Cached}
use Rattle.bc_slots.specs.Parts.{AreFilled}

length_none : (n : ℕ) → length (replicate {A = Option Cached} n None) ≡ n
length_none zero = refl
length_none (suc n) = let rest = length_none n in omega (arith, rest)

get_none : (n k : ℕ) → k < n → slice_get (replicate {A = Option Cached} n None) k ≡ Some None
get_none zero k low = absurd (omega (arith, low))
get_none (suc n) zero low = refl
get_none (suc n) (suc k) low = get_none n k (omega (arith, low))

not_none : (n k : ℕ) (c : Cached) → slice_get (replicate {A = Option Cached} n None) k ≡ Some (Some c) → ⊥
not_none zero zero c at = absurd (cc)
not_none zero (suc k) c at = absurd (cc)
not_none (suc n) zero c at = absurd (cc)
not_none (suc n) (suc k) c at = not_none n k c at

module _ (P : ℕ → Cached → Type 0) where
  pub filled_put : (js : List ℕ) (rest i : ℕ) (c : Cached) (slots : List (Option Cached)) → AreFilled P js (suc rest) slots → P i c → AreFilled P (js ++ i ∷ []) rest (slice_set slots (length js) (Some c))
  filled_put [] rest i c slots is here = subst (λ (ss : List (Option Cached)). AreFilled P (i ∷ []) rest (slice_set ss 0 (Some c))) (sym is) (here, refl)
  filled_put (j ∷ js) rest i c [] is here = absurd is
  filled_put (j ∷ js) rest i c (None ∷ slots) is here = absurd is
  filled_put (j ∷ js) rest i c (Some d ∷ slots) is here = (is.0, filled_put js rest i c slots is.1 here)

  pub filled_length : (js : List ℕ) (rest : ℕ) (slots : List (Option Cached)) → AreFilled P js rest slots → length slots ≡ length js + rest
  filled_length [] rest slots is = let long = ap length is ∙ length_none rest in omega (arith, long)
  filled_length (j ∷ js) rest [] is = absurd is
  filled_length (j ∷ js) rest (None ∷ slots) is = absurd is
  filled_length (j ∷ js) rest (Some d ∷ slots) is = let more = filled_length js rest slots is.1 in omega (arith, more)

  pub filled_rest : (js : List ℕ) (rest k : ℕ) (slots : List (Option Cached)) → AreFilled P js rest slots → length js ≤ k → k < length js + rest → slice_get slots k ≡ Some None
  filled_rest [] rest k slots is from low = subst (λ (ss : List (Option Cached)). slice_get ss k ≡ Some None) (sym is) (get_none rest k (omega (arith, low)))
  filled_rest (j ∷ js) rest k [] is from low = absurd is
  filled_rest (j ∷ js) rest k (None ∷ slots) is from low = absurd is
  filled_rest (j ∷ js) rest zero (Some d ∷ slots) is from low = absurd (omega (arith, from))
  filled_rest (j ∷ js) rest (suc k) (Some d ∷ slots) is from low = filled_rest js rest k slots is.1 (omega (arith, from)) (omega (arith, low))

  pub filled_at : (js : List ℕ) (rest k : ℕ) (c : Cached) (slots : List (Option Cached)) → AreFilled P js rest slots → slice_get slots k ≡ Some (Some c) → (j : ℕ) × (slice_get js k ≡ Some j) × P j c
  filled_at [] rest k c slots is at = absurd (not_none rest k c (subst (λ (ss : List (Option Cached)). slice_get ss k ≡ Some (Some c)) is at))
  filled_at (j ∷ js) rest k c [] is at = absurd is
  filled_at (j ∷ js) rest k c (None ∷ slots) is at = absurd is
  filled_at (j ∷ js) rest zero c (Some d ∷ slots) is at = (j, refl, subst (P j) (some_same d c at) is.0)
    where
      some_same : (x y : Cached) → Some (Some x) ≡ Some (Some y) → x ≡ y
      some_same x y e = cc
  filled_at (j ∷ js) rest (suc k) c (Some d ∷ slots) is at = filled_at js rest k c slots is.1 at

  pub filled_has : (js : List ℕ) (rest k j : ℕ) (slots : List (Option Cached)) → AreFilled P js rest slots → slice_get js k ≡ Some j → (c : Cached) × (slice_get slots k ≡ Some (Some c)) × P j c
  filled_has [] rest zero j slots is at = absurd (cc)
  filled_has [] rest (suc k) j slots is at = absurd (cc)
  filled_has (i ∷ js) rest k j [] is at = absurd is
  filled_has (i ∷ js) rest k j (None ∷ slots) is at = absurd is
  filled_has (i ∷ js) rest zero j (Some d ∷ slots) is at = (d, refl, subst (λ n. P n d) (some_same i j at) is.0)
    where
      some_same : (x y : ℕ) → Some x ≡ Some y → x ≡ y
      some_same x y e = cc
  filled_has (i ∷ js) rest (suc k) j (Some d ∷ slots) is at = filled_has js rest k j slots is.1 at
