-- Bit ranges of words.
use Rattle.std.proofs.Common.{Bool, true, false, ◌≡◌, ℕ, ◌+◌, ◌*◌, ◌%◌, ◌^◌, ◌<◌, ◌≤◌, refl, sym, ap, ◌∙◌, arith}
use Rattle.std.proofs.Math.Nat.{lt_of_lt_of_le, pow-le-pow_right}
use Rattle.std.proofs.lemmas.Nat.{or_shifted, shl_below, shl_whole}
use mir.Val.{bool_byte}
use Rattle.std.specs.Int.Bits.{bit_or}
use Rattle.bc_key.specs.Words.{bit_of}

-- to set bits below those of a multiple adds them
pub or_below : (a k x b : ℕ) → x ≡ a * 2 ^ k → b < 2 ^ k → bit_or x b ≡ x + b
or_below a k x b e h = ap (λ y. bit_or y b) e ∙ or_shifted a k b h ∙ ap (λ y. y + b) (sym e)

-- the same of a number of j bits that is shifted to its place
or_placed : (a k x b j m : ℕ) → x ≡ a * 2 ^ k → b < 2 ^ j → j + m ≤ k → k ≤ 64 → bit_or x (b * 2 ^ m % 2 ^ 64) ≡ x + b * 2 ^ m
or_placed a k x b j m e small low high =
    let below : b * 2 ^ m < 2 ^ k = lt_of_lt_of_le (shl_below b j m small) (pow-le-pow_right {n = 2} (omega arith) low) in
    ap (bit_or x) (shl_whole b j m 64 small (omega arith)) ∙ or_below a k x (b * 2 ^ m) e below

-- the word that a pointer's fields make
pub ptr_or : (dev offset generation : ℕ) → dev < 2 ^ 12 → offset < 2 ^ 43 → generation < 2 ^ 8 → bit_or (bit_or (dev * 2 ^ 51 % 2 ^ 64) (offset * 2 ^ 8 % 2 ^ 64)) generation ≡ dev * 2 ^ 51 + offset * 2 ^ 8 + generation
ptr_or dev offset generation d o g =
    ap (λ x. bit_or (bit_or x (offset * 2 ^ 8 % 2 ^ 64)) generation) (shl_whole dev 12 51 64 d (omega arith))
    ∙ ap (λ x. bit_or x generation) (or_placed dev 51 (dev * 2 ^ 51) offset 43 8 refl o (omega arith) (omega arith))
    ∙ or_below (dev * 2 ^ 43 + offset) 8 (dev * 2 ^ 51 + offset * 2 ^ 8) generation (omega arith) g

-- the first word that a key's fields make
pub high_or : (count csum dirty size inode : ℕ) → count < 2 ^ 3 → csum < 2 ^ 2 → dirty < 2 ^ 1 → size < 2 ^ 16 → inode < 2 ^ 20
    → bit_or (bit_or (bit_or (bit_or (bit_or (2 ^ 63) (count * 2 ^ 60 % 2 ^ 64)) (csum * 2 ^ 56 % 2 ^ 64)) (dirty * 2 ^ 36 % 2 ^ 64)) (size * 2 ^ 20 % 2 ^ 64)) inode
    ≡ 2 ^ 63 + count * 2 ^ 60 + csum * 2 ^ 56 + dirty * 2 ^ 36 + size * 2 ^ 20 + inode
high_or count csum dirty size inode n c d s i =
    let first = 2 ^ 63 + count * 2 ^ 60 in
    let second = first + csum * 2 ^ 56 in
    let third = second + dirty * 2 ^ 36 in
    let fourth = third + size * 2 ^ 20 in
    ap (λ x. bit_or (bit_or (bit_or (bit_or x (csum * 2 ^ 56 % 2 ^ 64)) (dirty * 2 ^ 36 % 2 ^ 64)) (size * 2 ^ 20 % 2 ^ 64)) inode) (or_placed 1 63 (2 ^ 63) count 3 60 refl n (omega arith) (omega arith))
    ∙ ap (λ x. bit_or (bit_or (bit_or x (dirty * 2 ^ 36 % 2 ^ 64)) (size * 2 ^ 20 % 2 ^ 64)) inode) (or_placed (2 ^ 3 + count) 60 first csum 2 56 (omega arith) c (omega arith) (omega arith))
    ∙ ap (λ x. bit_or (bit_or x (size * 2 ^ 20 % 2 ^ 64)) inode) (or_placed (2 ^ 7 + count * 2 ^ 4 + csum) 56 second dirty 1 36 (omega arith) d (omega arith) (omega arith))
    ∙ ap (λ x. bit_or x inode) (or_placed (2 ^ 27 + count * 2 ^ 24 + csum * 2 ^ 20 + dirty) 36 third size 16 20 (omega arith) s (omega arith) (omega arith))
    ∙ or_below (2 ^ 43 + count * 2 ^ 40 + csum * 2 ^ 36 + dirty * 2 ^ 16 + size) 20 fourth inode (omega arith) i

pub few_ptrs : (count : ℕ) → count ≤ 6 → count < 2 ^ 3
few_ptrs count h = omega arith

pub bit_small : (b : Bool) → bit_of b < 2 ^ 1
bit_small true = omega arith
bit_small false = omega arith

pub bit_is : (b : Bool) → bool_byte b ≡ bit_of b
bit_is true = refl
bit_is false = refl
