use Rattle.bc_spine.specs.Leaves.{AreCounted}
use Rattle.bc_spine_bench.proofs.filled.Given as goal

abbrev pub invariant-loop-i : goal.invariant-loop-i
invariant-loop-i l = AreCounted 0 l.leaves.leaves
