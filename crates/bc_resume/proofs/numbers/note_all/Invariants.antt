use Rattle.std.proofs.Common.{take}
use Rattle.bc_resume.specs.Numbers.{AreNewest}
use Rattle.bc_resume.proofs.numbers.note_all.Given as goal

abbrev pub invariant-loop-e : goal.invariant-loop-e
invariant-loop-e l = AreNewest l.g (take l.e-index l.all) l.numbers
