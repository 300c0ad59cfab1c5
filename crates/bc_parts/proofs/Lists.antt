-- Lists and functions that change at a place.
use Rattle.std.proofs.Common.{◌≡◌, ◌≢◌, ◌⊎◌, ℕ, zero, suc, ◌+◌, ◌<◌, ◌≤◌, eqb, ◌&&◌, if◌then◌else◌, List, [], ◌∷◌, ◌++◌, length, set, refl, sym, ap, subst, inl, inr, ⊎_elim, arith, eq-eqb, ne_eqb}
use Rattle.std.specs.Prelude.{sum_by, nat_le, nat_lt}
use Rattle.std.proofs.lemmas.List.Sums.{sum_by-cons}
use Rattle.std.proofs.lemmas.Bool.Decides.{nat_tests}
use Rattle.atomic_table.proofs.Lists.{at_set}
use mathlib.Core.Option.{some, some-ne-none, some-injective}
use lib.ListN.{get_elem?}

-- f, but c at i
pub put : (ℕ → ℕ) → ℕ → ℕ → ℕ → ℕ
put f i c j = if eqb j i then c else f j

pub put-here : (f : ℕ → ℕ) (i c j : ℕ) → j ≡ i → put f i c j ≡ c
unfolding put
put-here f i c j is = ap (λ b. if b then c else f j) (eq-eqb j i is)

pub put-else : (f : ℕ → ℕ) (i c j : ℕ) → j ≢ i → put f i c j ≡ f j
unfolding put
put-else f i c j other = ap (λ b. if b then c else f j) (ne_eqb j i other)

-- f, but c from low up to high
pub spread : (ℕ → ℕ) → ℕ → ℕ → ℕ → ℕ → ℕ
spread f low high c j = if nat_le low j && nat_lt j high then c else f j

pub spread-inside : (f : ℕ → ℕ) (low high c j : ℕ) → low ≤ j → j < high → spread f low high c j ≡ c
unfolding spread
spread-inside f low high c j a b = grind (arith, nat_tests)

pub spread-below : (f : ℕ → ℕ) (low high c j : ℕ) → j < low → spread f low high c j ≡ f j
unfolding spread
spread-below f low high c j a = grind (arith, nat_tests)

pub spread-above : (f : ℕ → ℕ) (low high c j : ℕ) → high ≤ j → spread f low high c j ≡ f j
unfolding spread
spread-above f low high c j a = grind (arith, nat_tests)

module _ {A : Type 0} where
  pub at-below : (l : List A) (i : ℕ) (a : A) → get_elem? l i ≡ some a → i < length l
  at-below [] i a there = absurd (some-ne-none a (sym there))
  at-below (x ∷ xs) zero a there = omega arith
  at-below (x ∷ xs) (suc i) a there = let below = at-below xs i a there in omega arith

  -- what holds of each element holds of each one still after one of them changed
  pub each-set : (Q : ℕ → A → Type 0) (l : List A) (i : ℕ) (w : A) → Q i w → ((j : ℕ) (a : A) → j ≢ i → get_elem? l j ≡ some a → Q j a)
      → (j : ℕ) (a : A) → get_elem? (set l i w) j ≡ some a → Q j a
  each-set Q l i w here others j a there = ⊎_elim (λ (t : (j ≡ i) × (w ≡ a)). subst (λ (z : ℕ × A). Q z.0 z.1) (λ k. (sym t.0 k, t.1 k)) here)
      (λ (t : (j ≢ i) × (get_elem? l j ≡ some a)). others j a t.0 t.1) (at_set l i j w a there)

  -- an element of a list with one more is one of the list, or that one
  pub at-push : (l : List A) (a b : A) (j : ℕ) → get_elem? (l ++ a ∷ []) j ≡ some b → (get_elem? l j ≡ some b) ⊎ ((j ≡ length l) × (a ≡ b))
  at-push [] a b zero there = inr (refl, some-injective a b there)
  at-push [] a b (suc j) there = absurd (some-ne-none b (sym there))
  at-push (x ∷ xs) a b zero there = inl there
  at-push (x ∷ xs) a b (suc j) there = ⊎_elim (λ t. inl t) (λ t. inr (ap suc t.0, t.1)) (at-push xs a b j there)

  pub sum_by-put : (f : A → ℕ) (l : List A) (i : ℕ) (v w : A) → get_elem? l i ≡ some v → sum_by f (set l i w) + f v ≡ sum_by f l + f w
  sum_by-put f [] i v w there = absurd (some-ne-none v (sym there))
  sum_by-put f (x ∷ xs) zero v w there = let is = ap f (some-injective x v there) in omega (arith, sum_by-cons f w xs, sum_by-cons f x xs, is)
  sum_by-put f (x ∷ xs) (suc i) v w there = let tail = sum_by-put f xs i v w there in omega (arith, sum_by-cons f x (set xs i w), sum_by-cons f x xs, tail)

  pub at-le-sum_by : (f : A → ℕ) (l : List A) (i : ℕ) (v : A) → get_elem? l i ≡ some v → f v ≤ sum_by f l
  at-le-sum_by f [] i v there = absurd (some-ne-none v (sym there))
  at-le-sum_by f (x ∷ xs) zero v there = let is = ap f (some-injective x v there) in omega (arith, sum_by-cons f x xs, is)
  at-le-sum_by f (x ∷ xs) (suc i) v there = let tail = at-le-sum_by f xs i v there in omega (arith, sum_by-cons f x xs, tail)
