use Rattle.std.proofs.Common.{take}
use Rattle.bc_pending.specs.Entries.{keys_in}
use Rattle.bc_pending.specs.Pieces.{GoOn}
use Rattle.bc_pending.proofs.pending.give_entries.Given as goal

abbrev pub invariant-loop-i : goal.invariant-loop-i
invariant-loop-i l = GoOn l.leaves (keys_in (take l.i l.journal.entries)) l.initial.lists l.lists
