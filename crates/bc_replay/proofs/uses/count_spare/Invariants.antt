use Rattle.std.proofs.Common.{◌≤◌}
use Rattle.bc_replay.specs.Marks.{CountsNone}
use Rattle.bc_replay.proofs.uses.count_spare.Given as goal

abbrev pub invariant-loop-bucket : goal.invariant-loop-bucket
invariant-loop-bucket l = record {
  counts : CountsNone l.uses l.bucket l.count;
  most : l.count ≤ l.bucket;
}
