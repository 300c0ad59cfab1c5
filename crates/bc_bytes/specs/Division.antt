-- Polynomials over the field of two elements. A number stands for one: its bit i is the coefficient of x ^ i.
-- The sum of two is the exclusive or of their numbers, and so is their difference.
use Rattle.std.specs.Prelude.{◌≡◌, ℕ, zero, suc, ◌+◌, ◌*◌, ◌^◌, ◌<◌, Bool, List, [], ◌∷◌, length, if◌then◌else◌, bit_xor}
use Rattle.std.specs.Int.{bit_at}

-- x ^ 64 and what the 64 bits of 0x42f0e1eba9ea3693 say, the coefficients of x ^ 63 down to 1
abbrev pub divisor : ℕ
divisor = 2 ^ 64 + 0x42f0_e1eb_a9ea_3693

-- What long division by the divisor leaves. It goes over n places, from x ^ (64 + n - 1) down to x ^ 64:
-- at each the divisor, moved there, is taken away as often as the coefficient says, once or not at all.
unfoldable pub remainder : ℕ → ℕ → ℕ
remainder zero dividend = dividend
remainder (suc n) dividend =
    remainder n (bit_xor dividend (bit_at dividend (64 + n) * (divisor * 2 ^ n)))

-- the product of a polynomial, given by its coefficients from the highest on, with another
abbrev pub product : List Bool → ℕ → ℕ
product [] p = 0
product (coefficient ∷ rest) p =
    bit_xor (if coefficient then p * 2 ^ length rest else 0) (product rest p)

-- What division means: the dividend is a product with the divisor and the rest, which is of lower degree.
abbrev pub IsRemainder : ℕ → ℕ → Type 0
IsRemainder dividend rest =
    (rest < 2 ^ 64) × ((quotient : List Bool) × (dividend ≡ bit_xor (product quotient divisor) rest))
