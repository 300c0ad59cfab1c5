-- Buckets in which a chain may stand, told by tests that compute.
use Rattle.std.proofs.Common.{◌≡◌, ◌≢◌, ◌==◌, ℕ, Bool, true, false, cond, List, [], ◌∷◌, arith}
use Rattle.std.specs.Prelude.{All, AllPairs}
use Rattle.std.proofs.lemmas.List.Elements.{All-nil, All-cons}
use Rattle.std.proofs.lemmas.List.Kept.{AllPairs-cons}
use Rattle.bc_model.proofs.Cases.{by_test}

abbrev differs : ℕ → List ℕ → Bool
differs x [] = true
differs x (y ∷ ys) = cond (x == y) false (differs x ys)

abbrev pub all_differ : List ℕ → Bool
all_differ [] = true
all_differ (x ∷ xs) = cond (differs x xs) (all_differ xs) false

from_differs : (x : ℕ) (ys : List ℕ) → differs x ys ≡ true → All (λ y. x ≢ y) ys
from_differs x [] h = All-nil (λ y. x ≢ y)
from_differs x (y ∷ ys) h =
    by_test x y (λ b. cond b false (differs x ys) ≡ true → All (λ z. x ≢ z) (y ∷ ys))
    (λ e none. absurd (cc)) (λ apart rest. All-cons (λ z. x ≢ z) y ys apart (from_differs x ys rest)) h

both : (a b : Bool) → cond a b false ≡ true → (a ≡ true) × (b ≡ true)
both true b h = let t : true ≡ true = cc in (t, h)
both false b h = absurd (cc)

pub from_all_differ : (xs : List ℕ) → all_differ xs ≡ true → AllPairs (λ a b. a ≢ b) xs
from_all_differ [] h = λ i j d low inside. absurd (omega arith)
from_all_differ (x ∷ xs) h =
    let two = both (differs x xs) (all_differ xs) h in
    AllPairs-cons (λ a b. a ≢ b) x xs (from_differs x xs two.0) (from_all_differ xs two.1)
