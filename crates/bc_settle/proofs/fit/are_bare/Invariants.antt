use Rattle.bc_settle.specs.Fits.{AreBare}
use Rattle.bc_settle.proofs.fit.are_bare.Given as goal

abbrev pub invariant-loop-done : goal.invariant-loop-done
invariant-loop-done l = AreBare l.leaf l.first l.done
