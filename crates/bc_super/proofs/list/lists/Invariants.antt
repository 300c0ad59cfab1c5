use Rattle.bc_super.specs.Cache.{Lists}
use Rattle.bc_super.proofs.list.lists.Given as goal

abbrev pub invariant-loop-i : goal.invariant-loop-i
invariant-loop-i l = Lists l.bytes l.first l.i
