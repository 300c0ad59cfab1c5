use Rattle.std.proofs.Common.{◌≡◌, []}
use Rattle.bc_deed.specs.bc_hand.Seats.{Works, empty, note}
use Rattle.bc_deed.specs.Flushed.{HasDone}
use Rattle.bc_job.proofs.claims.claim_range.Given as goal

-- nothing is in hand and nothing was done, and the room is what it was
abbrev pub invariant-loop : goal.invariant-loop
invariant-loop g l = Works g.C.Disk.facts g.B.Disk.facts l.parts l.seat l.hand
    × (l.hand ≡ empty) × HasDone g.C.Disk.facts g.B.Disk.facts [] l.initial.seat l.seat
    × (l.seat.promises ≡ l.initial.seat.promises)
    × ((note g.C.Disk.facts g.B.Disk.facts l.seat).range.count ≡ 0)
