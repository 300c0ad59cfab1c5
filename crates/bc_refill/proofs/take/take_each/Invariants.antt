use Rattle.std.proofs.Common.{◌≡◌, ◌+◌, ◌-◌, ◌≤◌, length}
use Rattle.std.specs.Prelude.{All, vec_capacity}
use Rattle.bc_disk.specs.Chain.{sets_in_chain}
use Rattle.bc_new_chain.specs.bc_hand.Seats.{Works, kinds}
use Rattle.bc_new_chain.specs.bc_held.Taken.{TiesBuckets}
use Rattle.bc_refill.specs.Hands.{HasAll}
use Rattle.bc_refill.specs.Taken.{HasMine, HaveTaken, IsForSet}
use Rattle.bc_refill.proofs.Going.{WithBuckets}
use Rattle.bc_refill.proofs.take.take_each.Given as goal

abbrev pub invariant-loop-done : goal.invariant-loop-done
invariant-loop-done g l = Works g.C.Disk.facts g.B.Disk.facts l.parts l.seat l.hand
    × (kinds l.hand ≡ kinds l.initial.hand)
    × WithBuckets l.initial.hand l.hand
    × HasAll l.g l.hand
    × (l.done ≡ length l.into.items)
    × (l.done ≤ sets_in_chain l.g)
    × (sets_in_chain l.g ≤ vec_capacity l.into)
    × (l.initial.seat.promises ≤ l.seat.promises + l.done)
    × TiesBuckets l.initial.hand l.hand (λ p q. HaveTaken g.C.Disk.facts g.B.Disk.facts
    l.g.first_bucket l.into.items p q l.initial.seat l.seat)
    × All (IsForSet l.g) l.into.items
    × HasMine g.C.Disk.facts g.B.Disk.facts l.into.items l.initial.seat l.seat
    × (l.count ≡ sets_in_chain l.g)
    × (l.before ≡ l.g.first_bucket)

abbrev pub decreases-loop-done : goal.decreases-loop-done
decreases-loop-done g l = sets_in_chain l.g - l.done
