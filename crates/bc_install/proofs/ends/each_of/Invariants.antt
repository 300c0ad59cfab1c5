use Rattle.std.proofs.Common.{take}
use Rattle.bc_install.proofs.ends.each_of.Given as goal
use Rattle.bc_install.specs.Ended.{AreEach}

abbrev pub invariant-loop-number : goal.invariant-loop-number
invariant-loop-number l = AreEach (take l.number-index l.all) l.each.items
