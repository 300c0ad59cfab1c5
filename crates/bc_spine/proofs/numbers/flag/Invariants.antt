use Rattle.bc_spine.proofs.Flags.{AreFlags}
use Rattle.bc_spine.proofs.numbers.flag.Given as goal

abbrev pub invariant-loop-leaf : goal.invariant-loop-leaf
invariant-loop-leaf l = AreFlags l.leaves l.leaf-index l.flags
