use Rattle.std.proofs.Common.{◌+◌, ◌-◌, ◌≤◌}
use Rattle.bc_bypass.specs.Empty.{AreEmpty}
use Rattle.bc_bypass.proofs.keys.empty_keys.Given as goal

abbrev pub invariant-loop-done : goal.invariant-loop-done
invariant-loop-done l = record {
  most : l.done ≤ l.count;
  keys : AreEmpty l.bucket l.first (l.first + l.done) l.keys.items;
}

abbrev pub decreases-loop-done : goal.decreases-loop-done
decreases-loop-done l = l.count - l.done
