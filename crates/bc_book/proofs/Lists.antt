-- What a list has at its places as it grows.
use Rattle.std.proofs.Common.{◌≡◌, ℕ, zero, suc, List, [], ◌∷◌, ◌++◌, length, Some, refl, subst}
use Rattle.std.specs.Prelude.{slice_get}
use Rattle.bc_book.specs.Filed.{Stays}

-- an item that is put behind the others stands at the next place
pub get_end : {A : Type 0} (xs : List A) (x : A) (n : ℕ) → length xs ≡ n
    → slice_get (xs ++ x ∷ []) n ≡ Some x
get_end [] x n h = subst (λ k. slice_get (x ∷ []) k ≡ Some x) h refl
get_end (y ∷ ys) x n h =
    subst (λ k. slice_get (y ∷ ys ++ x ∷ []) k ≡ Some x) h (get_end ys x (length ys) refl)

pub stays_same : {A : Type 0} (xs : List A) → Stays xs xs
stays_same xs k x h = h

pub stays_more : {A : Type 0} (xs ys : List A) → Stays xs (xs ++ ys)
stays_more [] ys k x h = cc
stays_more (y ∷ xs) ys zero x h = h
stays_more (y ∷ xs) ys (suc k) x h = stays_more xs ys k x h
