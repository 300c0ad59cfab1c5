-- What is kept in a word, or in a few bits, is small.
use Rattle.std.proofs.Common.{ℕ, ◌<◌, ◌≤◌, ◌%◌, ◌/◌, ◌^◌, arith, lit<}
use Rattle.std.proofs.Math.Nat.{mod-lt}

pub dev_small : (word : ℕ) → word / 2 ^ 51 % 2 ^ 12 < 2 ^ 12
dev_small word = mod-lt (word / 2 ^ 51) (lit< tt)

pub offset_small : (word : ℕ) → word / 2 ^ 8 % 2 ^ 43 < 2 ^ 43
offset_small word = mod-lt (word / 2 ^ 8) (lit< tt)

pub generation_small : (word : ℕ) → word % 2 ^ 8 < 2 ^ 8
generation_small word = mod-lt word (lit< tt)

pub csum_small : (tags : ℕ) → tags % 4 < 4
csum_small tags = mod-lt tags (lit< tt)

pub count_small : (tags : ℕ) → tags < 28 → tags / 4 ≤ 6
count_small tags small = omega arith
