-- One bit of a power of two is set, and of no other number.
use Rattle.std.proofs.Common.{◌≡◌, ℕ, zero, suc, ◌+◌, ◌*◌, ◌/◌, ◌%◌, ◌^◌, ◌<◌, ◌≤◌, ◌⊎◌, inl, inr, ap, arith}
use Rattle.std.specs.Prelude.{count_ones}
use Rattle.std.specs.Int.{IsPowerOfTwo}
use Rattle.std.specs.Int.Count.{ones_step}
use Rattle.std.proofs.Math.Pow.{pow_pos}
use Rattle.std.proofs.Math.Nat.{pow-suc}
use Rattle.std.specs.Fmt.{decimal}
use Rattle.std.proofs.lemmas.Fmt.{decimal_injective}
use Rattle.std.proofs.lemmas.Bool.{cases_eq}
use Rattle.bc_words.specs.Words.{IsSize}
use Rattle.std.proofs.lemmas.Nat.{ones_cat, zero_from_ones, ones_le_self}

-- twice a power, or 1
one_more : (n : ℕ) → count_ones n ≡ 1 → (count_ones (n / 2) ≡ 1 → IsPowerOfTwo (n / 2)) → IsPowerOfTwo n
one_more n one half = go (cases_eq (n % 2) 1)
  where
    step : count_ones n ≡ n % 2 + count_ones (n / 2)
    step = ones_step n

    go : (n % 2 ≡ 1) ⊎ (n % 2 ≡ 1 → ⊥) → IsPowerOfTwo n
    go (inl odd) = let none = zero_from_ones (n / 2) (omega (arith, step)) in (0, omega arith)
    go (inr even) =
        let power = half (omega (arith, step)) in
        (suc power.0, let e = power.1 in let twice = pow-suc 2 power.0 in omega arith)

power_within : (most n : ℕ) → n ≤ most → count_ones n ≡ 1 → IsPowerOfTwo n
power_within zero n le one = let none = ones_le_self n in absurd (omega arith)
power_within (suc most) n le one = one_more n one (λ bit. let some = ones_le_self n in power_within most (n / 2) (omega arith) bit)

pub power_of_one_bit : (n : ℕ) → count_ones n ≡ 1 → IsPowerOfTwo n
power_of_one_bit n = power_within n n (omega arith)

pub one_bit_of_power : (n : ℕ) → IsPowerOfTwo n → count_ones n ≡ 1
one_bit_of_power n is =
    let whole : n ≡ 1 * 2 ^ is.0 + 0 = let e = is.1 in omega arith in
    let cat = ones_cat is.0 1 0 (pow_pos is.0) in
    let bits : count_ones n ≡ count_ones (1 * 2 ^ is.0 + 0) = ap (λ (k : ℕ). count_ones k) whole in
    let one = ones_step 1 in
    let none = ones_le_self 0 in
    omega arith

-- a size has one text
pub size_injective : (least most a b : ℕ) → IsSize least most a → IsSize least most b → most < 2 ^ 64 → decimal a ≡ decimal b → a ≡ b
size_injective least most a b is_a is_b small same = let low = is_a.within.high in let high = is_b.within.high in decimal_injective a b (omega arith) (omega arith) same
