-- A run over the backing device alone, as it begins.
use Rattle.std.specs.Prelude.{◌≡◌, ℕ, ◌<◌, ◌≤◌, List, [], ◌∷◌, ◌++◌}
use Rattle.bc_disk.specs.Disk.{DiskFacts}
use Rattle.bc_flight.specs.Flight.{InFlight}
use Rattle.bc_parts.specs.Machine.{events_by}
use Rattle.bc_parts.specs.Seat.{PartsView}
use Rattle.bc_events.specs.declared.event.Event.{Event}
use Rattle.bc_hand.specs.bc_machine.declared.part.BackingPart.{BackingPart}
use Rattle.bc_hand.specs.bc_machine.declared.part.CorePart.{CorePart}
use Rattle.bc_hand.specs.bc_machine.declared.part.CorePart.TheVariants as part
use Rattle.bc_hand.specs.Seats.{View, Works, core, empty}

-- how many parts it has
abbrev pub part_count : ℕ
part_count = 6

abbrev pub opening_parts : {C B : Type 0} → InFlight → BackingPart B → List (CorePart C B)
opening_parts flight backing = part.Absent ∷ part.Flight flight ∷ part.Absent ∷ part.Absent
    ∷ part.Absent ∷ part.Backing backing ∷ []

-- the backing device stands at its place among the parts
abbrev pub HasBacking : {C B : Type 0} → List (CorePart C B) → BackingPart B → Type 0
HasBacking {C} {B} ps backing =
    (a b c d e : CorePart C B) × (ps ≡ a ∷ b ∷ c ∷ d ∷ e ∷ part.Backing backing ∷ [])

-- the one seat of the run has all numbers and nothing in hand, and nothing has happened yet
pub record HasBegun {C B : Type 0} (cache_facts : C → DiskFacts) (backing_facts : B → DiskFacts)
    (backing : BackingPart B) (parts : PartsView (CorePart C B))
    (seat : View cache_facts backing_facts) : Type 0 where
  pub start : (flight : InFlight) × (parts.run.start ≡ opening_parts flight backing)
  pub seats : parts.seats ≡ 320
  pub first : seat.first ≡ 0
  pub end : seat.end ≡ 320
  pub seen : seat.seen ≡ []
  pub promises : seat.promises ≡ 0
  pub works : Works cache_facts backing_facts parts seat empty

-- a seat w that was v has the numbers of o too, and has seen what both had, each of them all of its own
pub record HasJoined {C B : Type 0} (cache_facts : C → DiskFacts) (backing_facts : B → DiskFacts)
    (v o w : View cache_facts backing_facts) : Type 0 where
  pub run : w.run ≡ v.run
  pub first : w.first ≡ v.first
  pub end : w.end ≡ o.end
  pub seen : (more : List Event) × (w.seen ≡ o.seen ++ more)
  pub own : (n : ℕ) → v.first ≤ n → n < v.end
      → events_by (core cache_facts backing_facts) n w.seen ≡ events_by (core cache_facts backing_facts) n v.seen
  pub others : (n : ℕ) → o.first ≤ n → n < o.end
      → events_by (core cache_facts backing_facts) n w.seen ≡ events_by (core cache_facts backing_facts) n o.seen
