use Rattle.bc_set.proofs.SetLaws.{InOrderBelow}
use Rattle.bc_set.proofs.order.are_in_order.Given as goal

abbrev pub invariant-loop-i : goal.invariant-loop-i
invariant-loop-i l = InOrderBelow l.kind l.keys l.i
