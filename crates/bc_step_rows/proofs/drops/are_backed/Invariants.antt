use Rattle.bc_step_rows.specs.Drop.{AreBacked}
use Rattle.bc_step_rows.proofs.drops.are_backed.Given as goal

abbrev pub invariant-loop-i : goal.invariant-loop-i
invariant-loop-i l = AreBacked l.leaf l.first l.i
