-- How many places of a bucket are pinned, once a run of fresh ones is.
use Rattle.std.proofs.Common.{◌≡◌, ◌⊎◌, inl, inr, ℕ, zero, suc, ◌+◌, ◌<◌, ◌≤◌, Bool, true, false, refl, ap, arith}
use Rattle.std.specs.Prelude.{if◌then◌else◌, min}
use Rattle.std.proofs.lemmas.Bool.{cases_lt}
use Rattle.bc_books.specs.Index.{within}
use Rattle.bc_books.specs.Shelves.{Fresh, Own, Owner, Spent, put_run}
use Rattle.bc_books.proofs.Cases.{by_within}
use Rattle.bc_shares.specs.Shares.{Pinned, Unused, Use, Used, use_of}
use Rattle.bc_deed.specs.bc_machine.Containers.{pins_in, pins_of}

-- how many of so many places from this one on lie in the run
abbrev pub both_in : (at n place : ℕ) → ℕ → ℕ
both_in at n place zero = 0
both_in at n place (suc m) =
    (if within at n (place + m) then 1 else 0) + both_in at n place m

outside : (at n t : ℕ) → ((at ≤ t) × (t < at + n) → ⊥) → within at n t ≡ false
outside at n t never = by_within at n t (λ b. b ≡ false) (λ is. absurd (never is)) (λ _. refl)

inside : (at n t : ℕ) → at ≤ t → t < at + n → within at n t ≡ true
inside at n t low high = by_within at n t (λ b. b ≡ true) (λ _. refl) (λ never. absurd (never (low, high)))

none_both : (a b : ℕ) → a ≡ 0 → b ≡ 0 → a + b ≡ 0
none_both a b x y = omega (arith, x, y)

pub none_before : (at n place m : ℕ) → place + m ≤ at → both_in at n place m ≡ 0
none_before at n place zero less = refl
none_before at n place (suc m) less =
    none_both _ _ (ap (λ b. if b then 1 else 0)
    (outside at n (place + m) (λ is. let low = is.0 in omega (arith, less, low))))
    (none_before at n place m (omega (arith, less)))

pub none_behind : (at n place m : ℕ) → at + n ≤ place → both_in at n place m ≡ 0
none_behind at n place zero less = refl
none_behind at n place (suc m) less =
    none_both _ _ (ap (λ b. if b then 1 else 0)
    (outside at n (place + m) (λ is. let high = is.1 in omega (arith, less, high))))
    (none_behind at n place m less)

-- all of it that begins here, up to the end
up_to : (at n place m : ℕ) → place ≤ at → at ≤ place + m
    → both_in at n place m + at ≡ min (at + n) (place + m)
up_to at n place zero low high = omega (arith, low, high)
up_to at n place (suc m) low high =
    go (λ from. up_to at n place m low from) (cases_lt (place + m) at) (cases_lt (place + m) (at + n))
  where
    go : (at ≤ place + m → both_in at n place m + at ≡ min (at + n) (place + m))
        → ((place + m < at) ⊎ (at ≤ place + m)) → ((place + m < at + n) ⊎ (at + n ≤ place + m))
        → both_in at n place (suc m) + at ≡ min (at + n) (place + suc m)
    go before (inl less) other =
        let none = none_before at n place (suc m) (omega (arith, less)) in
        omega (arith, none, less, high)
    go before (inr from) (inl less) =
        let one = ap (λ b. (if b then 1 else 0) + both_in at n place m)
        (inside at n (place + m) from less) in
        let rest = before from in omega (arith, one, rest, less)
    go before (inr from) (inr behind) =
        let one = ap (λ b. (if b then 1 else 0) + both_in at n place m)
        (outside at n (place + m) (λ is. let high = is.1 in omega (arith, behind, high))) in
        let rest = before from in omega (arith, one, rest, behind)

pub all_in : (at n place m : ℕ) → place ≤ at → at + n ≤ place + m → both_in at n place m ≡ n
all_in at n place m low high =
    let all = up_to at n place m low (omega (arith, high)) in omega (arith, all, high)

-- a bucket has no more pins than places
pub pins_few : (owner : ℕ → Owner) (place m : ℕ) → pins_in owner place m ≤ m
pins_few owner place zero = omega arith
pins_few owner place (suc m) =
    let rest = pins_few owner place m in
    let one = at_most (use_of (owner (place + m))) in omega (arith, rest, one)
  where
    at_most : (u : Use) → pins_of u ≤ 1
    at_most Unused = omega arith
    at_most Pinned = omega arith
    at_most Used = omega arith

pub pins_after : (owner : ℕ → Owner) (i at n : ℕ)
    → ((t : ℕ) → within at n t ≡ true → owner t ≡ Fresh) → (place m : ℕ)
    → pins_in (put_run owner at n (Own i)) place m
    ≡ both_in at n place m + pins_in owner place m
pins_after owner i at n fresh place zero = refl
pins_after owner i at n fresh place (suc m) =
    go (within at n (place + m)) refl (pins_after owner i at n fresh place m)
  where
    go : (b : Bool) → within at n (place + m) ≡ b
        → pins_in (put_run owner at n (Own i)) place m
        ≡ both_in at n place m + pins_in owner place m
        → pins_of (use_of (if b then Own i else owner (place + m)))
        + pins_in (put_run owner at n (Own i)) place m
        ≡ ((if b then 1 else 0) + both_in at n place m)
        + (pins_of (use_of (owner (place + m))) + pins_in owner place m)
    go true is rest =
        let none = ap (λ o. pins_of (use_of o)) (fresh (place + m) is) in omega (arith, rest, none)
    go false is rest = omega (arith, rest)

-- and so many fewer, once they are let go
pub pins_behind : (owner : ℕ → Owner) (i at n : ℕ)
    → ((t : ℕ) → within at n t ≡ true → owner t ≡ Own i) → (place m : ℕ)
    → both_in at n place m + pins_in (put_run owner at n Spent) place m
    ≡ pins_in owner place m
pins_behind owner i at n own place zero = refl
pins_behind owner i at n own place (suc m) =
    go (within at n (place + m)) refl (pins_behind owner i at n own place m)
  where
    go : (b : Bool) → within at n (place + m) ≡ b
        → both_in at n place m + pins_in (put_run owner at n Spent) place m
        ≡ pins_in owner place m
        → ((if b then 1 else 0) + both_in at n place m)
        + (pins_of (use_of (if b then Spent else owner (place + m)))
        + pins_in (put_run owner at n Spent) place m)
        ≡ pins_of (use_of (owner (place + m))) + pins_in owner place m
    go true is rest =
        let one = ap (λ o. pins_of (use_of o)) (own (place + m) is) in omega (arith, rest, one)
    go false is rest = omega (arith, rest)
