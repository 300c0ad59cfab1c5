-- Numbers in a list of bytes, the lowest byte first.
use Rattle.std.specs.Prelude.{◌≡◌, ℕ, ◌+◌, ◌≤◌, ◌⊎◌, List, ◌++◌, take, drop, slice_range}
use Rattle.byteorder.specs.Endian.{little_number, little_bytes}

-- the number in the n bytes from a place
unfoldable pub number_at : ℕ → List ℕ → ℕ → ℕ
number_at n bytes at = little_number n (drop at bytes)

-- the bytes with a number in the n bytes from a place, and each other byte as it was
unfoldable pub with_number : ℕ → List ℕ → ℕ → ℕ → List ℕ
with_number n bytes at value = take at bytes ++ little_bytes n value ++ drop (at + n) bytes

-- what has no byte among the n from a place is in both alike: numbers of any width, and parts
pub record SameOutside (n : ℕ) (old new : List ℕ) (at : ℕ) : Type 0 where
  pub numbers : (m k : ℕ) → (k + m ≤ at) ⊎ (at + n ≤ k) → number_at m new k ≡ number_at m old k
  pub parts : (i j : ℕ) → (j ≤ at) ⊎ (at + n ≤ i) → slice_range new i j ≡ slice_range old i j
