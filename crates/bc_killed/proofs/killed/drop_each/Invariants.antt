use Rattle.std.proofs.Common.{◌≡◌, ◌≤◌, ◌+◌, ℕ, List, Some, length}
use Rattle.bc_candidate.specs.Noted.{KeepsAll}
use Rattle.bc_candidate.specs.bc_deed.Flushed.{HasDone}
use Rattle.bc_candidate.specs.bc_hand.Seats.{Works}
use Rattle.bc_candidate.specs.bc_machine.declared.part.BucketsPart.{BucketsPart}
use Rattle.bc_flight.specs.Flight.{InFlight}
use Rattle.bc_killed.specs.Killed.{drops}
use Rattle.bc_killed.proofs.killed.drop_each.Given as goal

abbrev pub invariant-loop : goal.invariant-loop
invariant-loop g l = Works g.C.Disk.facts g.B.Disk.facts l.parts l.seat l.hand
    × ((f : InFlight) × (l.hand.flight ≡ Some f) × (length f.candidates + l.counter ≤ 64))
    × ((b : BucketsPart) × (l.hand.buckets ≡ Some b))
    × (l.hand ≡ record l.initial.hand { flight = l.hand.flight; buckets = l.hand.buckets })
    × (l.seat.promises + l.counter ≡ l.initial.seat.promises)
    × ((ns : List ℕ) × HasDone g.C.Disk.facts g.B.Disk.facts (drops ns) l.initial.seat l.seat)
    × KeepsAll g.C.Disk.facts g.B.Disk.facts l.initial.seat l.seat
