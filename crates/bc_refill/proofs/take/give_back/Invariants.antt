use Rattle.std.proofs.Common.{◌≡◌, ◌+◌, ◌≤◌, true, List, ◌++◌, length, vec_len}
use Rattle.std.specs.Prelude.{is_some, reverse}
use Rattle.bc_new_chain.specs.Beside.{KeepsHeldBeside}
use Rattle.bc_new_chain.specs.bc_hand.Seats.{Works, kinds, world}
use Rattle.bc_new_chain.specs.bc_held.Taken.{TiesBuckets}
use Rattle.bc_new_chain.specs.bc_held.declared.held.HeldBucket.{HeldBucket}
use Rattle.bc_new_chain.specs.bc_machine.World.{FromEach}
use Rattle.bc_new_chain.specs.bc_place.Place.{HasBefore}
use Rattle.bc_new_chain.specs.bc_place.Written.{KeepsPlaces}
use Rattle.bc_refill.specs.Taken.{AreMine, HaveLetGo, numbers_of}
use Rattle.bc_refill.proofs.Going.{WithBuckets}
use Rattle.bc_refill.proofs.take.give_back.Given as goal

abbrev pub invariant-loop-bucket : goal.invariant-loop-bucket
invariant-loop-bucket g l = (gone : List HeldBucket)
    × (l.initial.taken.items ≡ l.taken.items ++ gone)
    × Works g.C.Disk.facts g.B.Disk.facts l.parts l.seat l.hand
    × (kinds l.hand ≡ kinds l.initial.hand)
    × WithBuckets l.initial.hand l.hand
    × (is_some l.hand.buckets ≡ true)
    × FromEach (world g.C.Disk.facts g.B.Disk.facts l.seat) (HasBefore l.before)
    × TiesBuckets l.initial.hand l.hand (λ p q. HaveLetGo g.C.Disk.facts g.B.Disk.facts l.before
    (reverse gone) p q l.initial.seat l.seat)
    × AreMine g.C.Disk.facts g.B.Disk.facts l.taken.items l.seat
    × (l.initial.seat.promises ≤ l.seat.promises + length gone)
    × KeepsPlaces g.C.Disk.facts g.B.Disk.facts l.initial.seat l.seat
    × KeepsHeldBeside g.C.Disk.facts g.B.Disk.facts (numbers_of l.initial.taken.items)
    l.initial.seat l.seat

abbrev pub decreases-loop-bucket : goal.decreases-loop-bucket
decreases-loop-bucket g l = vec_len l.taken
