use Rattle.std.proofs.Common.{◌≡◌, ◌+◌, ◌-◌, ◌≤◌, length, take}
use Rattle.std.specs.Prelude.{vec_capacity}
use Rattle.bc_held.specs.Taken.{KeepsHeld, TiesBuckets}
use Rattle.bc_held.specs.bc_hand.Seats.{Works, kinds, world}
use Rattle.bc_held.specs.bc_machine.Containers.{SameRest}
use Rattle.bc_held.specs.bc_machine.World.{FromEach}
use Rattle.bc_held.specs.bc_place.Place.{HasBefore}
use Rattle.bc_held.specs.bc_place.Written.{KeepsPlaces}
use Rattle.bc_held_all.proofs.Going.{AreNew}
use Rattle.bc_held_all.specs.All.{AreHeld, HaveTaken, wants_of}
use Rattle.bc_held_all.proofs.all.take_buckets.Given as goal

abbrev pub invariant-loop-done : goal.invariant-loop-done
invariant-loop-done g l = Works g.C.Disk.facts g.B.Disk.facts l.parts l.seat l.hand
    × (kinds l.hand ≡ kinds l.initial.hand)
    × (l.hand ≡ record l.initial.hand { buckets = l.hand.buckets })
    × (l.done ≡ length l.into.items)
    × (l.done ≤ l.needs.tree + l.needs.moving)
    × (l.needs.tree + l.needs.moving ≤ vec_capacity l.into)
    × (l.initial.seat.promises ≤ l.seat.promises + l.done)
    × FromEach (world g.C.Disk.facts g.B.Disk.facts l.seat) (HasBefore l.before)
    × HaveTaken g.C.Disk.facts g.B.Disk.facts l.before (take l.done (wants_of l.needs))
    l.into.items l.initial.seat l.seat
    × AreHeld g.C.Disk.facts g.B.Disk.facts l.into.items l.seat
    × AreNew g.C.Disk.facts g.B.Disk.facts l.into.items l.initial.seat l.seat
    × KeepsHeld g.C.Disk.facts g.B.Disk.facts l.initial.seat l.seat
    × KeepsPlaces g.C.Disk.facts g.B.Disk.facts l.initial.seat l.seat
    × (l.count ≡ l.needs.tree + l.needs.moving)
    × TiesBuckets l.initial.hand l.hand SameRest
    × (l.done ≡ 0 → l.hand ≡ l.initial.hand)

abbrev pub decreases-loop-done : goal.decreases-loop-done
decreases-loop-done g l = l.needs.tree + l.needs.moving - l.done
