use Rattle.std.proofs.Common.{◌≡◌, ℕ, ◌<◌, ◌%◌, ◌-◌, true, false, length, get_or}
use Rattle.bc_spine.proofs.numbers.alike_unset.Given as goal

abbrev pub invariant-loop-number : goal.invariant-loop-number
invariant-loop-number l = record {
  alike : l.number % l.parts ≡ l.rest;
  before : (k : ℕ) → k % l.parts ≡ l.rest → k < l.number → get_or l.flags k false ≡ true;
}

abbrev pub decreases-loop-number : goal.decreases-loop-number
decreases-loop-number l = length l.flags - l.number
