use Rattle.std.proofs.Common.{take}
use Rattle.bc_reader.specs.Noted.{AreNoted}
use Rattle.bc_reader.proofs.noted.note_uses.Given as goal

abbrev pub invariant-loop-run : goal.invariant-loop-run
invariant-loop-run l = AreNoted (take l.run-index l.runs) l.buckets l.noted.items
