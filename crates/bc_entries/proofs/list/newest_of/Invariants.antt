use Rattle.std.proofs.Common.{◌<◌, length, drop}
use Rattle.bc_entries.specs.Lists.{IsNewestAt}
use Rattle.bc_entries.proofs.list.newest_of.Given as goal

abbrev pub invariant-loop-at : goal.invariant-loop-at
invariant-loop-at l = record {
  within : l.at < length l.all;
  inside : l.newest < length l.all;
  newest : IsNewestAt l.all (drop l.at l.all) l.newest;
}

abbrev pub decreases-loop-at : goal.decreases-loop-at
decreases-loop-at l = l.at
