use Rattle.std.proofs.Common.{take}
use Rattle.std.specs.Prelude.{map}
use Rattle.bc_pending.specs.Pieces.{GoOn, numbered}
use Rattle.bc_pending.proofs.pending.give_entry.Given as goal

abbrev pub invariant-loop-key : goal.invariant-loop-key
invariant-loop-key l = GoOn l.leaves (map (numbered l.entry.item.seq) (take l.key-index l.keys)) l.initial.lists l.lists
