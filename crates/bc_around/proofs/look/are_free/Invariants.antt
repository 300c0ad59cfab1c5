use Rattle.bc_around.specs.Look.{AreFree}
use Rattle.bc_around.proofs.look.are_free.Given as goal

abbrev pub invariant-loop-done : goal.invariant-loop-done
invariant-loop-done l = AreFree l.leaf l.first l.done
