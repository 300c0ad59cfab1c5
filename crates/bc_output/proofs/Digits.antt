-- How long the decimal text of a number is.
use Rattle.std.proofs.Common.{ℕ, ◌<◌, ◌≤◌, ◌^◌, length, arith, length-append}
use Rattle.std.specs.Fmt.{decimal}
use Rattle.std.proofs.lemmas.Fmt.{length-decimal-le}

pub few_digits : (n : ℕ) → n < 2 ^ 32 → length (decimal n) ≤ 10
few_digits n small = length-decimal-le 10 n (omega arith) (omega arith) (omega arith)

pub few_of_byte : (n : ℕ) → n < 2 ^ 8 → length (decimal n) ≤ 3
few_of_byte n small = length-decimal-le 3 n (omega arith) (omega arith) (omega arith)

pub ruleset room = (length-append, few_digits, few_of_byte)
