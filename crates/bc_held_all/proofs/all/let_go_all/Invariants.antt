use Rattle.std.proofs.Common.{◌≡◌, ◌+◌, ◌≤◌, drop, take}
use Rattle.bc_held.specs.bc_hand.Seats.{Works, kinds, world}
use Rattle.bc_held.specs.Taken.{TiesBuckets}
use Rattle.bc_held.specs.bc_machine.Containers.{SameRest}
use Rattle.bc_held.specs.bc_machine.World.{FromEach}
use Rattle.bc_held.specs.bc_place.Place.{HasBefore}
use Rattle.bc_held.specs.bc_place.Written.{KeepsPlaces}
use Rattle.bc_held_all.specs.All.{AreHeld, HaveLetGo, KeepsHeldApart}
use Rattle.bc_held_all.proofs.all.let_go_all.Given as goal

abbrev pub invariant-loop-bucket : goal.invariant-loop-bucket
invariant-loop-bucket g l = Works g.C.Disk.facts g.B.Disk.facts l.parts l.seat l.hand
    × (kinds l.hand ≡ kinds l.initial.hand)
    × (l.hand ≡ record l.initial.hand { buckets = l.hand.buckets })
    × (l.initial.seat.promises ≤ l.seat.promises + l.bucket-index)
    × FromEach (world g.C.Disk.facts g.B.Disk.facts l.seat) (HasBefore l.before)
    × AreHeld g.C.Disk.facts g.B.Disk.facts (drop l.bucket-index l.buckets) l.seat
    × HaveLetGo g.C.Disk.facts g.B.Disk.facts l.before (take l.bucket-index l.buckets)
    l.initial.seat l.seat
    × KeepsHeldApart g.C.Disk.facts g.B.Disk.facts l.buckets l.initial.seat l.seat
    × KeepsPlaces g.C.Disk.facts g.B.Disk.facts l.initial.seat l.seat
    × TiesBuckets l.initial.hand l.hand SameRest
    × (l.bucket-index ≡ 0 → l.hand ≡ l.initial.hand)
