use Rattle.bc_entries.proofs.Rooms.{NextSoFar}
use Rattle.bc_entries.proofs.room.next_place.Given as goal

abbrev pub invariant-loop-place : goal.invariant-loop-place
invariant-loop-place l = NextSoFar l.g l.all l.order l.newest l.next l.place-index
