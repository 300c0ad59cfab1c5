-- Long division is linear, and goes on from what it has left.
use Rattle.std.proofs.Common.{◌==◌, if◌then◌else◌, Bool, List, [], ◌∷◌, length, mul-add, subst, ◌≡◌, ℕ, zero, suc, ◌+◌, ◌*◌, ◌/◌, ◌%◌, ◌^◌, ◌<◌, refl, sym, ap, ◌∙◌, arith}
use Rattle.std.proofs.Math.Nat.{add-zero, zero-mul, one-mul, mul_assoc, add-mul, mod-eq_of_lt, suc-add, zero-add}
use Rattle.std.proofs.lemmas.Nat.{pow-add, pow_pos, shr_split, shr_below, shl_below, xor_block, xor_lt, xor_comm, mod_below}
use Rattle.std.proofs.lemmas.Nat.Bits.{bit_at_xor, bit_at-lt, bit_at_above, bit_at_cat_high}
use Rattle.std.specs.Int.{bit_at}
use Rattle.std.specs.Int.Bits.{bit_xor, xor_assoc, xor_self, xor_zero_r}
use Rattle.bc_bytes.specs.Division.{divisor, remainder, product, IsRemainder}

-- ---- sums of polynomials

pub interchange : (a b c d : ℕ) → bit_xor (bit_xor a b) (bit_xor c d) ≡ bit_xor (bit_xor a c) (bit_xor b d)
interchange a b c d =
    xor_assoc a b (bit_xor c d)
    ∙ ap (bit_xor a) (sym (xor_assoc b c d) ∙ ap (λ x. bit_xor x d) (xor_comm b c) ∙ xor_assoc c b d)
    ∙ sym (xor_assoc a c (bit_xor b d))

-- a sum k places up
pub shifted_sum : (k a b : ℕ) → bit_xor a b * 2 ^ k ≡ bit_xor (a * 2 ^ k) (b * 2 ^ k)
shifted_sum k a b = sym (simp add-zero at (xor_block k a b 0 0 (pow_pos k) (pow_pos k)))

-- a polynomial taken as often as the sum of two coefficients says
times_sum : (x y d : ℕ) → x < 2 → y < 2 → (x + y) % 2 * d ≡ bit_xor (x * d) (y * d)
times_sum zero zero d hx hy = simp zero-mul
times_sum zero (suc zero) d hx hy = simp (zero-mul, one-mul)
times_sum (suc zero) zero d hx hy = simp (zero-mul, one-mul, xor_zero_r)
times_sum (suc zero) (suc zero) d hx hy = simp (zero-mul, one-mul, xor_self)
times_sum zero (suc (suc y)) d hx hy = absurd (omega arith)
times_sum (suc zero) (suc (suc y)) d hx hy = absurd (omega arith)
times_sum (suc (suc x)) y d hx hy = absurd (omega arith)

-- ---- one place of the division

reduced : ℕ → ℕ → ℕ
reduced n d = bit_xor d (bit_at d (64 + n) * (divisor * 2 ^ n))

reduced_sum : (n a b : ℕ) → reduced n (bit_xor a b) ≡ bit_xor (reduced n a) (reduced n b)
unfolding reduced
reduced_sum n a b =
    ap (λ x. bit_xor (bit_xor a b) (x * (divisor * 2 ^ n))) (bit_at_xor a b (64 + n))
    ∙ ap (bit_xor (bit_xor a b)) (times_sum (bit_at a (64 + n)) (bit_at b (64 + n)) (divisor * 2 ^ n) (bit_at-lt a (64 + n)) (bit_at-lt b (64 + n)))
    ∙ interchange a b _ _

-- nothing is taken where the coefficient is 0
reduced_zero : (n d : ℕ) → bit_at d (64 + n) ≡ 0 → reduced n d ≡ d
unfolding reduced
reduced_zero n d e = ap (λ x. bit_xor d (x * (divisor * 2 ^ n))) e ∙ ap (bit_xor d) (zero-mul (divisor * 2 ^ n)) ∙ xor_zero_r d

-- a place further up
reduced_shifted : (n m a : ℕ) → reduced (n + m) (a * 2 ^ m) ≡ reduced n a * 2 ^ m
unfolding reduced
reduced_shifted n m a =
    let bit : bit_at (a * 2 ^ m) (64 + (n + m)) ≡ bit_at a (64 + n) =
    ap (λ x. bit_at x (64 + (n + m))) (sym (add-zero (a * 2 ^ m)))
    ∙ bit_at_cat_high a m 0 (64 + (n + m)) (pow_pos m) (omega arith)
    ∙ ap (bit_at a) (omega arith) in
    let taken : bit_at a (64 + n) * (divisor * 2 ^ (n + m)) ≡ bit_at a (64 + n) * (divisor * 2 ^ n) * 2 ^ m =
    ap (λ x. bit_at a (64 + n) * (divisor * x)) (pow-add 2 n m)
    ∙ ap (λ x. bit_at a (64 + n) * x) (sym (mul_assoc divisor (2 ^ n) (2 ^ m)))
    ∙ sym (mul_assoc (bit_at a (64 + n)) (divisor * 2 ^ n) (2 ^ m)) in
    ap (λ x. bit_xor (a * 2 ^ m) (x * (divisor * 2 ^ (n + m)))) bit
    ∙ ap (bit_xor (a * 2 ^ m)) taken
    ∙ sym (shifted_sum m a (bit_at a (64 + n) * (divisor * 2 ^ n)))

-- the highest coefficient is taken away, by a multiple of the divisor that has it
top_taken : (c k r p : ℕ) → r < 2 ^ k → c * p < 2 ^ k → bit_xor (c * 2 ^ k + r) (c * (2 ^ k + p)) < 2 ^ k
top_taken c k r p low small =
    let e : bit_xor (c * 2 ^ k + r) (c * (2 ^ k + p)) ≡ bit_xor r (c * p) =
    ap (bit_xor (c * 2 ^ k + r)) (mul-add c (2 ^ k) p)
    ∙ xor_block k c c r (c * p) low small
    ∙ ap (λ x. x * 2 ^ k + bit_xor r (c * p)) (xor_self c)
    ∙ ap (λ x. x + bit_xor r (c * p)) (zero-mul (2 ^ k)) ∙ zero-add (bit_xor r (c * p)) in
    rw e (xor_lt k r (c * p) low small)

coefficient_small : (c p k : ℕ) → c < 2 → p < 2 ^ k → c * p < 2 ^ k
coefficient_small zero p k h small = rw zero-mul (omega arith)
coefficient_small (suc zero) p k h small = rw one-mul small
coefficient_small (suc (suc c)) p k h small = absurd (omega arith)

reduced_lt : (n d : ℕ) → d < 2 ^ (64 + suc n) → reduced n d < 2 ^ (64 + n)
unfolding reduced
reduced_lt n d h =
    let k = 64 + n in
    let c = d / 2 ^ k in
    let r = d % 2 ^ k in
    let p = 0x42f0_e1eb_a9ea_3693 * 2 ^ n in
    let widths : 64 + suc n ≡ 1 + k = omega arith in
    let c_small : c < 2 = shr_below d 1 k (subst (λ x. d < 2 ^ x) widths h) in
    let p_small : p < 2 ^ k = shl_below 0x42f0_e1eb_a9ea_3693 64 n (omega arith) in
    let parts : divisor * 2 ^ n ≡ 2 ^ k + p =
    add-mul (2 ^ 64) 0x42f0_e1eb_a9ea_3693 (2 ^ n) ∙ ap (λ x. x + p) (sym (pow-add 2 64 n)) in
    let taken = ap (bit_xor d) (ap (λ x. x * (divisor * 2 ^ n)) (mod-eq_of_lt c_small) ∙ ap (λ x. c * x) parts) in
    let split = ap (λ x. bit_xor x (c * (2 ^ k + p))) (shr_split d k) in
    subst (λ x. x < 2 ^ k) (split ∙ sym taken) (top_taken c k r p (mod_below d (2 ^ k) (pow_pos k)) (coefficient_small c p k c_small p_small))

-- ---- the division

pub remainder_sum : (n a b : ℕ) → remainder n (bit_xor a b) ≡ bit_xor (remainder n a) (remainder n b)
unfolding remainder reduced
remainder_sum zero a b = refl
remainder_sum (suc n) a b = ap (remainder n) (reduced_sum n a b) ∙ remainder_sum n (reduced n a) (reduced n b)

-- places above the highest coefficient change nothing
pub remainder_below : (m n d : ℕ) → d < 2 ^ (64 + n) → remainder (m + n) d ≡ remainder n d
unfolding remainder reduced
remainder_below zero n d h = ap (λ k. remainder k d) (zero-add n)
remainder_below (suc m) n d h =
    ap (λ k. remainder k d) (suc-add m n)
    ∙ ap (remainder (m + n)) (reduced_zero (m + n) d (bit_at_above d (64 + n) (64 + (m + n)) h (omega arith)))
    ∙ remainder_below m n d h

pub remainder_lt : (n d : ℕ) → d < 2 ^ (64 + n) → remainder n d < 2 ^ 64
unfolding remainder reduced
remainder_lt zero d h = h
remainder_lt (suc n) d h = remainder_lt n (reduced n d) (reduced_lt n d h)

-- the first n places and then m more
pub remainder_goes_on : (n m a b : ℕ) → b < 2 ^ (64 + m) → remainder (n + m) (bit_xor (a * 2 ^ m) b) ≡ remainder m (bit_xor (remainder n a * 2 ^ m) b)
unfolding remainder reduced
remainder_goes_on zero m a b h = ap (λ k. remainder k (bit_xor (a * 2 ^ m) b)) (zero-add m)
remainder_goes_on (suc n) m a b h =
    ap (λ k. remainder k (bit_xor (a * 2 ^ m) b)) (suc-add n m)
    ∙ ap (remainder (n + m))
    (reduced_sum (n + m) (a * 2 ^ m) b
    ∙ ap (bit_xor (reduced (n + m) (a * 2 ^ m))) (reduced_zero (n + m) b (bit_at_above b (64 + m) (64 + (n + m)) h (omega arith)))
    ∙ ap (λ x. bit_xor x b) (reduced_shifted n m a))
    ∙ remainder_goes_on n m (reduced n a) b h

-- ---- what division means

-- a coefficient of a number as a truth
bit_taken : (c p : ℕ) → c < 2 → c * p ≡ (if c == 1 then p else 0)
bit_taken zero p h = zero-mul p
bit_taken (suc zero) p h = one-mul p
bit_taken (suc (suc c)) p h = absurd (omega arith)

-- n coefficients of a quotient
pub quotient_of : (n d : ℕ) → (quotient : List Bool) × (length quotient ≡ n) × (d ≡ bit_xor (product quotient divisor) (remainder n d))
unfolding remainder reduced
quotient_of zero d = ([], refl, refl)
quotient_of (suc n) d =
    let c = bit_at d (64 + n) in
    let moved = divisor * 2 ^ n in
    let rest = quotient_of n (reduced n d) in
    let again : d ≡ bit_xor (c * moved) (reduced n d) =
    sym (xor_zero_r d) ∙ ap (bit_xor d) (sym (xor_self (c * moved))) ∙ sym (xor_assoc d (c * moved) (c * moved)) ∙ xor_comm (reduced n d) (c * moved) in
    let taken : c * moved ≡ (if c == 1 then divisor * 2 ^ length rest.0 else 0) =
    bit_taken c moved (bit_at-lt d (64 + n)) ∙ ap (λ k. if c == 1 then divisor * 2 ^ k else 0) (sym rest.1) in
    let joined : d ≡ bit_xor (bit_xor (if c == 1 then divisor * 2 ^ length rest.0 else 0) (product rest.0 divisor)) (remainder n (reduced n d)) =
    again ∙ ap (λ x. bit_xor x (reduced n d)) taken ∙ ap (bit_xor (if c == 1 then divisor * 2 ^ length rest.0 else 0)) rest.2
    ∙ sym (xor_assoc (if c == 1 then divisor * 2 ^ length rest.0 else 0) (product rest.0 divisor) (remainder n (reduced n d))) in
    ((c == 1) ∷ rest.0, ap suc rest.1, joined)

pub IsRemainder-remainder : (n d : ℕ) → d < 2 ^ (64 + n) → IsRemainder d (remainder n d)
IsRemainder-remainder n d h = let q = quotient_of n d in (remainder_lt n d h, (q.0, q.2))
