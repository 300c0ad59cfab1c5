use Rattle.std.proofs.Common.{◌≡◌, ℕ, ◌<◌, ◌≤◌, ◌-◌, true, false, length, get_or}
use Rattle.bc_spine.proofs.numbers.first_unset.Given as goal

abbrev pub invariant-loop-number : goal.invariant-loop-number
invariant-loop-number l = record {
  from : l.from ≤ l.number;
  within : l.number ≤ length l.flags;
  before : (k : ℕ) → l.from ≤ k → k < l.number → get_or l.flags k false ≡ true;
}

abbrev pub decreases-loop-number : goal.decreases-loop-number
decreases-loop-number l = length l.flags - l.number
