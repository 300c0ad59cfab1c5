use Rattle.std.proofs.Common.{◌≡◌, ℕ, ◌-◌, ◌<◌, ◌≤◌, Some}
use Rattle.bc_plain_nodes.specs.Look.{look_of}
use Rattle.bc_plain_nodes.proofs.keys.end_of.Given as goal

abbrev pub invariant-loop-end : goal.invariant-loop-end
invariant-loop-end l = record {
  behind : l.sector < l.end;
  within : l.end ≤ l.whole.end;
  all : (s : ℕ) → l.sector ≤ s → s < l.end → look_of l.bare l.keys s ≡ Some l.whole;
}

abbrev pub decreases-loop-end : goal.decreases-loop-end
decreases-loop-end l = l.whole.end - l.end
