use Rattle.std.proofs.Common.{◌≡◌, ◌+◌, ◌-◌, ◌<◌, ℕ, length}
use Rattle.bc_append.specs.bc_hand.Seats.{Works, empty, world}
use Rattle.bc_append.specs.bc_machine.World.{FromEach}
use Rattle.bc_append.specs.bc_place.Written.{KeepsPlaces}
use Rattle.bc_turn.specs.Need.{IsToCome, PartNeedsFrom}
use Rattle.bc_turn.specs.Part.{HasWrittenSets}
use Rattle.bc_turn.proofs.parts.empty_leaves.Given as goal

abbrev pub invariant-loop-part : goal.invariant-loop-part
invariant-loop-part g l = Works g.C.Disk.facts g.B.Disk.facts l.parts l.seat l.hand
    × (l.hand ≡ empty)
    × FromEach (world g.C.Disk.facts g.B.Disk.facts l.seat) (IsToCome l.low)
    × (l.seat.promises ≡ l.initial.seat.promises)
    × HasWrittenSets g.C.Disk.facts g.B.Disk.facts l.parts l.low l.initial.seat l.seat
    × ((j : ℕ) → 6 + j < l.part → FromEach (world g.C.Disk.facts g.B.Disk.facts l.seat)
    (PartNeedsFrom (length l.parts.run.start - 6) j l.low))
    × KeepsPlaces g.C.Disk.facts g.B.Disk.facts l.initial.seat l.seat
