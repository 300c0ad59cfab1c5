-- The division of a message, byte by byte.
use Rattle.std.proofs.Common.{subst, ◌≡◌, ℕ, zero, suc, ◌+◌, ◌*◌, ◌/◌, ◌%◌, ◌^◌, ◌<◌, List, [], ◌∷◌, ◌++◌, length, get_or, refl, sym, ap, ◌∙◌, arith}
use Rattle.std.proofs.Math.Nat.{zero-mul, mul-one, mul_assoc, mul_comm, add-mul, add_assoc}
use Rattle.std.proofs.lemmas.List.{length-append}
use Rattle.std.proofs.lemmas.Nat.{pow-add, shl_below, xor_lt, xor_comm, mod_below, mul-add-lt}
use Rattle.std.specs.Int.{w64, bit_not}
use Rattle.std.specs.Int.Bits.{bit_xor, xor_assoc, xor_zero_r, xor_shifted}
use Rattle.bc_bytes.specs.Division.{IsRemainder, remainder}
use Rattle.bc_bytes.specs.Checksum.{message, dividend, checksum}
use Rattle.bc_bytes.proofs.DivisionLaws.{IsRemainder-remainder, shifted_sum, remainder_sum, remainder_below, remainder_lt, remainder_goes_on}

abbrev pub IsBytes : List ℕ → Type 0
IsBytes bytes = (k : ℕ) → get_or bytes k 0 < 256

pub IsBytes-one : (byte : ℕ) → byte < 256 → IsBytes (byte ∷ [])
IsBytes-one byte h zero = h
IsBytes-one byte h (suc k) = omega arith

-- what the division of the bytes leaves, before it is inverted
unfoldable pub left_of : ℕ → List ℕ → ℕ
left_of start bytes = remainder (8 * length bytes) (dividend start bytes)

pub message_lt : (bytes : List ℕ) → IsBytes bytes → message bytes < 2 ^ (8 * length bytes)
unfolding message
message_lt [] h = omega arith
message_lt (byte ∷ bytes) h =
    let rest = message_lt bytes (λ k. h (suc k)) in
    let n = 8 * length bytes in
    let widths : 8 * suc (length bytes) ≡ 8 + n = omega arith in
    let e : 2 ^ (8 * suc (length bytes)) ≡ 2 ^ n * 2 ^ 8 = ap (λ k. 2 ^ k) widths ∙ pow-add 2 8 n ∙ mul_comm (2 ^ 8) (2 ^ n) in
    rw e (mul-add-lt byte (2 ^ n) (message bytes) (2 ^ 8) (h 0) rest)

pub message-append : (xs ys : List ℕ) → message (xs ++ ys) ≡ message xs * 2 ^ (8 * length ys) + message ys
unfolding message
message-append [] ys = omega arith
message-append (x ∷ xs) ys =
    let n = 8 * length xs in
    let m = 8 * length ys in
    let widths : 8 * length (xs ++ ys) ≡ n + m = omega (arith, length-append xs ys) in
    ap (λ k. x * 2 ^ k + message (xs ++ ys)) widths
    ∙ ap (λ k. x * 2 ^ (n + m) + k) (message-append xs ys)
    ∙ ap (λ k. x * k + (message xs * 2 ^ m + message ys)) (pow-add 2 n m)
    ∙ ap (λ k. k + (message xs * 2 ^ m + message ys)) (sym (mul_assoc x (2 ^ n) (2 ^ m)))
    ∙ sym (add_assoc (x * 2 ^ n * 2 ^ m) (message xs * 2 ^ m) (message ys))
    ∙ ap (λ k. k + message ys) (sym (add-mul (x * 2 ^ n) (message xs) (2 ^ m)))

-- of no bytes the start is left
pub left_of-nil : (start : ℕ) → left_of start [] ≡ start
unfolding left_of dividend message remainder
left_of-nil start = ap (bit_xor (start * 1)) (zero-mul (2 ^ 64)) ∙ xor_zero_r (start * 1) ∙ mul-one start

-- the division of bytes goes on from what it has left of those before
pub left_of-append : (start : ℕ) (xs ys : List ℕ) → IsBytes ys → left_of start (xs ++ ys) ≡ left_of (left_of start xs) ys
unfolding left_of dividend
left_of-append start xs ys h =
    let n = 8 * length xs in
    let m = 8 * length ys in
    let widths : 8 * length (xs ++ ys) ≡ n + m = omega (arith, length-append xs ys) in
    let ys_small = message_lt ys h in
    let rest : message ys * 2 ^ 64 < 2 ^ (64 + m) = subst (λ k. message ys * 2 ^ 64 < 2 ^ k) (omega arith) (shl_below (message ys) m 64 ys_small) in
    let started : start * 2 ^ (n + m) ≡ start * 2 ^ n * 2 ^ m = ap (λ k. start * k) (pow-add 2 n m) ∙ sym (mul_assoc start (2 ^ n) (2 ^ m)) in
    let turned : message xs * 2 ^ m * 2 ^ 64 ≡ message xs * 2 ^ 64 * 2 ^ m = mul_assoc (message xs) (2 ^ m) (2 ^ 64) ∙ ap (λ k. message xs * k) (mul_comm (2 ^ m) (2 ^ 64)) ∙ sym (mul_assoc (message xs) (2 ^ 64) (2 ^ m)) in
    let sent : message (xs ++ ys) * 2 ^ 64 ≡ bit_xor (message xs * 2 ^ 64 * 2 ^ m) (message ys * 2 ^ 64) =
    ap (λ k. k * 2 ^ 64) (message-append xs ys ∙ sym (xor_shifted (message xs) m (message ys) ys_small))
    ∙ shifted_sum 64 (message xs * 2 ^ m) (message ys) ∙ ap (λ k. bit_xor k (message ys * 2 ^ 64)) turned in
    ap (λ k. remainder k (bit_xor (start * 2 ^ k) (message (xs ++ ys) * 2 ^ 64))) widths
    ∙ ap (remainder (n + m))
    (ap (λ k. bit_xor k (message (xs ++ ys) * 2 ^ 64)) started ∙ ap (bit_xor (start * 2 ^ n * 2 ^ m)) sent
    ∙ sym (xor_assoc (start * 2 ^ n * 2 ^ m) (message xs * 2 ^ 64 * 2 ^ m) (message ys * 2 ^ 64))
    ∙ ap (λ k. bit_xor k (message ys * 2 ^ 64)) (sym (shifted_sum m (start * 2 ^ n) (message xs * 2 ^ 64))))
    ∙ remainder_goes_on n m (dividend start xs) (message ys * 2 ^ 64) rest

-- the division at one byte, of a start of 64 bits: the start moves up by 8 places, and the byte that falls out of it joins the message
pub left_of-byte : (start byte : ℕ) → start < 2 ^ 64 → left_of start (byte ∷ []) ≡ bit_xor (start * 2 ^ 8 % 2 ^ 64) (remainder 8 (bit_xor (start / 2 ^ 56) byte * 2 ^ 64))
unfolding left_of dividend message remainder
left_of-byte start byte small =
    let high = start / 2 ^ 56 * 2 ^ 64 in
    let low = start * 2 ^ 8 % 2 ^ 64 in
    let low_small : low < 2 ^ 64 = mod_below (start * 2 ^ 8) (2 ^ 64) (omega arith) in
    let split : start * 2 ^ 8 ≡ bit_xor high low = (omega arith) ∙ sym (xor_shifted (start / 2 ^ 56) 64 low low_small) in
    let sent : (byte * 1 + 0) * 2 ^ 64 ≡ byte * 2 ^ 64 = omega arith in
    let sum : bit_xor (bit_xor high low) (byte * 2 ^ 64) ≡ bit_xor low (bit_xor (start / 2 ^ 56) byte * 2 ^ 64) =
    ap (λ k. bit_xor k (byte * 2 ^ 64)) (xor_comm high low) ∙ xor_assoc low high (byte * 2 ^ 64)
    ∙ ap (bit_xor low) (sym (shifted_sum 64 (start / 2 ^ 56) byte)) in
    ap (remainder 8) (ap (bit_xor (start * 2 ^ 8)) sent ∙ ap (λ k. bit_xor k (byte * 2 ^ 64)) split ∙ sum)
    ∙ remainder_sum 8 low (bit_xor (start / 2 ^ 56) byte * 2 ^ 64)
    ∙ ap (λ k. bit_xor k (remainder 8 (bit_xor (start / 2 ^ 56) byte * 2 ^ 64))) (remainder_below 8 0 low low_small)

-- the checksum by what is left
pub checksum_is : (start : ℕ) (bytes : List ℕ) → checksum start bytes ≡ bit_not w64 (left_of start bytes)
unfolding checksum left_of
checksum_is start bytes = refl

-- the dividend has as many places as the division goes over, and 64 more
dividend_lt : (start : ℕ) (bytes : List ℕ) → start < 2 ^ 64 → IsBytes bytes → dividend start bytes < 2 ^ (64 + 8 * length bytes)
unfolding dividend
dividend_lt start bytes small h =
    let n = 8 * length bytes in
    let turned : n + 64 ≡ 64 + n = omega arith in
    xor_lt (64 + n) _ _ (shl_below start 64 n small) (subst (λ k. message bytes * 2 ^ 64 < 2 ^ k) turned (shl_below (message bytes) n 64 (message_lt bytes h)))

pub left_of-lt : (start : ℕ) (bytes : List ℕ) → start < 2 ^ 64 → IsBytes bytes → left_of start bytes < 2 ^ 64
unfolding left_of
left_of-lt start bytes small h = remainder_lt (8 * length bytes) (dividend start bytes) (dividend_lt start bytes small h)

is_remainder : (start : ℕ) (bytes : List ℕ) → start < 2 ^ 64 → IsBytes bytes → IsRemainder (dividend start bytes) (left_of start bytes)
unfolding left_of
is_remainder start bytes small h = IsRemainder-remainder (8 * length bytes) (dividend start bytes) (dividend_lt start bytes small h)

-- what is left is the remainder, whose inverse's inverse it is
pub left_of-IsRemainder : (start : ℕ) (bytes : List ℕ) → start < 2 ^ 64 → IsBytes bytes → IsRemainder (dividend start bytes) (bit_not w64 (checksum start bytes))
left_of-IsRemainder start bytes small h =
    let fits = left_of-lt start bytes small h in
    let twice : left_of start bytes ≡ bit_not w64 (checksum start bytes) = omega (arith, checksum_is start bytes) in
    subst (IsRemainder (dividend start bytes)) twice (is_remainder start bytes small h)
