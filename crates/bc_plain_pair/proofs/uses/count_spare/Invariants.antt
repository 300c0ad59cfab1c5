use Rattle.std.proofs.Common.{◌≤◌}
use Rattle.bc_plain_pair.specs.Uses.{SpareBelow}
use Rattle.bc_plain_pair.proofs.uses.count_spare.Given as goal

abbrev pub invariant-loop-bucket : goal.invariant-loop-bucket
invariant-loop-bucket l = record {
  below : SpareBelow l.v.geometry l.v.reading l.bucket l.count;
  few : l.count ≤ l.bucket;
}
