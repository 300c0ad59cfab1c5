use Rattle.bc_bypass.specs.Backed.{AreBacked}
use Rattle.bc_bypass.proofs.backed.are_backed.Given as goal

abbrev pub invariant-loop-done : goal.invariant-loop-done
invariant-loop-done l = AreBacked l.leaf l.first l.done
