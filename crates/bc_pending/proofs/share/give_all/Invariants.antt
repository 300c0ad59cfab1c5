use Rattle.std.proofs.Common.{◌-◌, length}
use Rattle.bc_pending.proofs.Sharing.{SharedSoFar}
use Rattle.bc_pending.proofs.share.give_all.Given as goal

abbrev pub invariant-loop-i : goal.invariant-loop-i
invariant-loop-i l = SharedSoFar l.leaves l.key l.initial.lists l.lists l.i

abbrev pub decreases-loop-i : goal.decreases-loop-i
decreases-loop-i l = length l.leaves - l.i
