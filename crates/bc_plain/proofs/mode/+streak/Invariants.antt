use Rattle.std.proofs.Common.{length}
use Rattle.bc_plain.proofs.mode.+streak.Given as goal

abbrev pub decreases-streak : goal.decreases-streak
decreases-streak l = length l.earlier.now
