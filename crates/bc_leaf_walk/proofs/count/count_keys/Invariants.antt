use Rattle.std.proofs.Common.{◌≡◌, length, take}
use Rattle.bc_leaf_walk.specs.Pieces.{AreKeysCounted}
use Rattle.bc_leaf_walk.proofs.count.count_keys.Given as goal

abbrev pub invariant-loop-i : goal.invariant-loop-i
invariant-loop-i l = (length l.walk ≡ length l.buckets.records)
    × AreKeysCounted l.buckets l.before (take l.i l.keys.keys) l.initial.walk l.walk
