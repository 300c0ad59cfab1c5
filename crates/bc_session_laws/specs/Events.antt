-- The events of a run over a pair that was opened, and its devices behind them.
use Rattle.std.specs.Prelude.{◌≡◌, false, List, [], ◌∷◌, ◌++◌}
use Rattle.bc_disk.specs.Disk.{DiskFacts}
use Rattle.bc_events.specs.declared.event.Event.{Event}
use Rattle.bc_plain_laws.specs.bc_hand.Seats.{View, core}
use Rattle.bc_recoverable.specs.bc_machine.World.{IsBacking, IsCache, World, opening}
use Rattle.bc_recoverable.specs.bc_machine.declared.part.BackingPart.{BackingPart}
use Rattle.bc_recoverable.specs.bc_machine.declared.part.CorePart.{CorePart}
use Rattle.bc_parts.specs.Machine.{IsRun, state_after}
use Rattle.bc_parts.specs.Seat.{PartsView}
use Rattle.bc_recoverable.specs.Made.{brings}

-- none of them brings keys, or seals an entry
abbrev pub BringNothing : List Event → Type 0
BringNothing [] = Unit {0}
BringNothing (e ∷ es) = (brings e.deed ≡ false) × BringNothing es

module _ {C B : Type 0} (cache_facts : C → DiskFacts) (backing_facts : B → DiskFacts) where
  -- what these events leave of a run with such parts
  abbrev pub left_by : PartsView (CorePart C B) → List Event → World
  left_by parts events = state_after (core cache_facts backing_facts) parts.run.start events

  -- All events of a run, from its beginning on, and both devices as they are behind them.
  pub record HasGone (parts : PartsView (CorePart C B)) (events : List Event) (cache : C)
      (backing : BackingPart B) : Type 0 where
    pub run : IsRun (core cache_facts backing_facts)
        (opening cache_facts backing_facts parts.run.start) events
    pub cache_is : IsCache {C = C} {B = B} cache_facts backing_facts cache (left_by parts events)
    pub backing_is : IsBacking {C = C} {B = B} cache_facts backing_facts backing
        (left_by parts events)

  -- behind the opening's own, each brings nothing
  pub record OnlyReads (seat : View cache_facts backing_facts) (events : List Event) : Type 0 where
    pub more : List Event
    pub is : events ≡ seat.seen ++ more
    pub nothing : BringNothing more
