use Rattle.std.proofs.Common.{◌≤◌}
use Rattle.bc_key.specs.Key.{start_of}
use Rattle.bc_install.proofs.Touching.{HasTouchedTo}
use Rattle.bc_install.proofs.buckets.touch_key.Given as goal

abbrev pub invariant-loop-sector : goal.invariant-loop-sector
invariant-loop-sector l = record {
  from : start_of l.key ≤ l.sector;
  touched : HasTouchedTo l.first l.key l.sector l.initial.part l.part;
}
