use Rattle.std.proofs.Common.{take}
use Rattle.bc_plain_pair.specs.Rooms.{IsBehind}
use Rattle.bc_plain_pair.proofs.ring.place_behind.Given as goal

abbrev pub invariant-loop-entry : goal.invariant-loop-entry
invariant-loop-entry l = IsBehind l.g (take l.entry-index l.entries) l.bucket l.next
