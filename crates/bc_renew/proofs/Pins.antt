-- How many places of a bucket are pinned, and what none says of each.
use Rattle.std.proofs.Common.{◌≡◌, ◌≢◌, ◌⊎◌, inl, inr, ℕ, zero, suc, ◌+◌, ◌<◌, ◌≤◌, refl, ap, arith}
use Rattle.std.proofs.lemmas.Bool.{cases_eq}
use Rattle.bc_books.specs.Shelves.{Fresh, Own, Kept, Spent, Owner, IsPinned}
use Rattle.bc_machine.specs.Containers.{pins_in, pins_of}
use Rattle.bc_shares.specs.Shares.{use_of}

pinned_one : (x : Owner) → IsPinned x → pins_of (use_of x) ≡ 1
pinned_one Fresh is = absurd is
pinned_one (Own i) is = refl
pinned_one (Kept c) is = refl
pinned_one Spent is = absurd is

-- where none is counted, none is pinned
pub none_pinned : (owner : ℕ → Owner) (place n t : ℕ) → pins_in owner place n ≡ 0 → place ≤ t
    → t < place + n → IsPinned (owner t) → ⊥
none_pinned owner place zero t none low high is = absurd (omega (arith, low, high))
none_pinned owner place (suc n) t none low high is = go (cases_eq t (place + n))
    (λ less. none_pinned owner place n t (omega (arith, none)) low less is)
  where
    go : (t ≡ place + n) ⊎ (t ≢ place + n) → (t < place + n → ⊥) → ⊥
    go (inl e) rest =
        let one = ap (λ s. pins_of (use_of (owner s))) e in
        let its = pinned_one (owner t) is in absurd (omega (arith, none, one, its))
    go (inr ne) rest = rest (omega (arith, high, ne))

-- where each is as new, none is counted
pub fresh_pins : (owner : ℕ → Owner) (place n : ℕ)
    → ((t : ℕ) → place ≤ t → t < place + n → owner t ≡ Fresh) → pins_in owner place n ≡ 0
fresh_pins owner place zero fresh = refl
fresh_pins owner place (suc n) fresh =
    let rest = fresh_pins owner place n (λ t low high. fresh t low (omega (arith, high))) in
    let one = ap (λ x. pins_of (use_of x)) (fresh (place + n) (omega arith) (omega arith)) in
    omega (arith, rest, one)

-- where each is as it was, so many are counted as before
pub same_pins : (a b : ℕ → Owner) (place n : ℕ)
    → ((t : ℕ) → place ≤ t → t < place + n → b t ≡ a t) → pins_in b place n ≡ pins_in a place n
same_pins a b place zero same = refl
same_pins a b place (suc n) same =
    let rest = same_pins a b place n (λ t low high. same t low (omega (arith, high))) in
    let one = ap (λ x. pins_of (use_of x)) (same (place + n) (omega arith) (omega arith)) in
    omega (arith, rest, one)
