use Rattle.std.proofs.Common.{take}
use Rattle.bc_reader.specs.Runs.{LieWithin}
use Rattle.bc_reader.proofs.look.are_within.Given as goal

abbrev pub invariant-loop-run : goal.invariant-loop-run
invariant-loop-run l = LieWithin (take l.run-index l.runs) l.end
