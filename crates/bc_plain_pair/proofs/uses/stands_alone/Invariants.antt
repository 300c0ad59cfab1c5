use Rattle.bc_plain_pair.proofs.Aparts.{AloneUpTo}
use Rattle.bc_plain_pair.proofs.uses.stands_alone.Given as goal

abbrev pub invariant-loop-j : goal.invariant-loop-j
invariant-loop-j l = AloneUpTo l.g l.nodes l.i l.j
