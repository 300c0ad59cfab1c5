use Rattle.bc_disk.specs.Bytes.{image_of}
use Rattle.bc_jset.specs.Entries.{StandIn}
use Rattle.bc_plain.proofs.journal.all_entries.Given as goal

abbrev pub invariant-loop-i : goal.invariant-loop-i
invariant-loop-i l = StandIn l.g (image_of l.image) l.i l.all.items
