-- Lists of what is wanted and of what was taken, one more at the end.
use Rattle.std.proofs.Common.{◌≡◌, ◌⊎◌, inl, inr, ℕ, zero, suc, ◌+◌, ◌<◌, ◌≤◌, List, [], ◌∷◌, ◌++◌, length, take, drop, get_or, Some, refl, sym, ap, ◌∙◌, arith}
use Rattle.std.specs.Prelude.{Contains, replicate, slice_get, slice_index_or}
use Rattle.std.proofs.lemmas.List.Elements.{Contains-append_cases}

-- the first so many, and one more
pub take_next : {X : Type 0} (xs : List X) (i : ℕ) (x : X) → slice_get xs i ≡ Some x
    → take (i + 1) xs ≡ take i xs ++ x ∷ []
take_next [] i x is = absurd (cc)
take_next (y ∷ ys) zero x is = let e : y ≡ x = cc in ap (λ z. z ∷ []) e
take_next (y ∷ ys) (suc i) x is =
    let next : suc i + 1 ≡ suc (i + 1) = omega arith in
    ap (λ n. take n (y ∷ ys)) next ∙ ap (λ zs. y ∷ zs) (take_next ys i x is)

-- and so the whole
pub split_next : {X : Type 0} (xs : List X) (i : ℕ) (x : X) → slice_get xs i ≡ Some x
    → xs ≡ take i xs ++ x ∷ drop (i + 1) xs
split_next [] i x is = absurd (cc)
split_next (y ∷ ys) zero x is = let e : y ≡ x = cc in ap (λ z. z ∷ ys) e
split_next (y ∷ ys) (suc i) x is =
    let next : suc i + 1 ≡ suc (i + 1) = omega arith in
    ap (λ zs. y ∷ zs) (split_next ys i x is)
    ∙ ap (λ n. (y ∷ take i ys) ++ x ∷ drop n (y ∷ ys)) (sym next)

in_one : {X : Type 0} (a b : X) → Contains (a ∷ []) b → b ≡ a
in_one a b there = go there.0 there.1 there.2
  where
    go : (i : ℕ) → i < 1 → slice_index_or (a ∷ []) i b ≡ b → b ≡ a
    go zero inside is = sym is
    go (suc i) inside is = absurd (omega (arith, inside))

pub in_push : {X : Type 0} (xs : List X) (x y : X) → Contains (xs ++ x ∷ []) y
    → Contains xs y ⊎ (y ≡ x)
in_push xs x y there = elim (Contains-append_cases xs (x ∷ []) y there) [
  | inl before ↦ inl before
  | inr last ↦ inr (in_one x y last)
]

pub in_rest : {X : Type 0} (x : X) (xs : List X) (y : X) → Contains xs y → Contains (x ∷ xs) y
in_rest x xs y there = (suc there.0, (let inside = there.1 in omega (arith, inside)), there.2)

pub in_first : {X : Type 0} (x : X) (xs : List X) → Contains (x ∷ xs) x
in_first x xs = (zero, omega arith, refl)

-- the one at a place
pub in_place : {X : Type 0} (xs : List X) (i : ℕ) (x : X) → i < length xs → x ≡ get_or xs i x
    → Contains xs x
in_place xs i x inside is = (i, inside, sym is)

-- ---- what is wanted

pub first_wants : {X : Type 0} (n m i : ℕ) (x y : X) → i < n
    → slice_get (replicate n x ++ replicate m y) i ≡ Some x
first_wants zero m i x y less = absurd (omega (arith, less))
first_wants (suc n) m zero x y less = refl
first_wants (suc n) m (suc i) x y less = first_wants n m i x y (omega (arith, less))

only_wants : {X : Type 0} (m i : ℕ) (y : X) → i < m → slice_get (replicate m y) i ≡ Some y
only_wants zero i y less = absurd (omega (arith, less))
only_wants (suc m) zero y less = refl
only_wants (suc m) (suc i) y less = only_wants m i y (omega (arith, less))

pub later_wants : {X : Type 0} (n m i : ℕ) (x y : X) → n ≤ i → i < n + m
    → slice_get (replicate n x ++ replicate m y) i ≡ Some y
later_wants zero m i x y low less = only_wants m i y (omega (arith, less))
later_wants (suc n) m zero x y low less = absurd (omega (arith, low))
later_wants (suc n) m (suc i) x y low less =
    later_wants n m i x y (omega (arith, low)) (omega (arith, less))
