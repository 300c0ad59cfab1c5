-- Bytes at places of a list of bytes, and what a number written elsewhere leaves of them.
use Rattle.std.proofs.Common.{◌≡◌, inr, ℕ, ◌+◌, ◌≤◌, List, drop, get_or, slice_index, sym, ap, ◌∙◌, arith}
use Rattle.std.proofs.lemmas.List.{get_or-drop}
use Rattle.bc_bytes.specs.Fields.{number_at, SameOutside}

byte_at : (xs : List ℕ) (k : ℕ) → number_at 1 xs k ≡ slice_index xs k
unfolding number_at
byte_at xs k = let moved : k + 0 ≡ k = omega arith in omega (arith, get_or-drop k xs 0 0 ∙ ap (slice_index xs) moved)

pub byte_behind : (n : ℕ) (old new : List ℕ) (at k : ℕ) → SameOutside n old new at → at + n ≤ k → slice_index new k ≡ slice_index old k
byte_behind n old new at k same behind = sym (byte_at new k) ∙ same.numbers 1 k (inr behind) ∙ byte_at old k

-- a number in bytes of zeros
pub zeros_at : (xs : List ℕ) (from at : ℕ) → from ≤ at → ((k : ℕ) → from ≤ k → slice_index xs k ≡ 0) → number_at 4 xs at ≡ 0
unfolding number_at
zeros_at xs from at low zero =
    let each : (i : ℕ) → get_or (drop at xs) i 0 ≡ 0 = λ i. get_or-drop at xs i 0 ∙ zero (at + i) (omega arith) in
    omega (arith, each 0, each 1, each 2, each 3)
