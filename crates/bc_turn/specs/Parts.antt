-- All leaves, of which nothing is to be pending of entries below a number.
use Rattle.std.specs.Prelude.{ℕ, length}
use Rattle.bc_disk.specs.Disk.{DiskFacts}
use Rattle.bc_append.specs.bc_hand.Seats.{View, Works, core, world}
use Rattle.bc_append.specs.bc_hand.declared.hand.Hand.{Hand}
use Rattle.bc_append.specs.bc_machine.declared.part.CorePart.{CorePart}
use Rattle.bc_parts.specs.Seat.{PartsView}
use Rattle.bc_seats.specs.Seats.{Waited}
use Rattle.bc_turn.specs.Part.{HasWrittenSets, IsLeftIn}
use Rattle.bc_turn.specs.declared.error.Left.{Left}

-- A leaf was left, as a seat had its part in hand; since then it has only waited.
pub record WasLeft {C B : Type 0} (cache_facts : C → DiskFacts) (backing_facts : B → DiskFacts)
    (p : PartsView (CorePart C B)) (sectors low : ℕ) (v w : View cache_facts backing_facts)
    (left : Left) : Type 0 where
  pub then : View cache_facts backing_facts
  pub hand : Hand C B
  pub works : Works cache_facts backing_facts p then hand
  pub in_hand : IsLeftIn hand (world cache_facts backing_facts then) sectors
      (length p.run.start) low left
  pub before : HasWrittenSets cache_facts backing_facts p low v then
  pub since : Waited (core cache_facts backing_facts) then w
