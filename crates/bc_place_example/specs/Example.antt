-- A run in which a seat has a place with a value that it wrote there.
use Rattle.std.specs.Prelude.{◌≡◌, ◌==◌, ℕ, false, List, [], ◌∷◌, None, Some, if◌then◌else◌}
use Rattle.bc_model.specs.Sector.{Value}
use Rattle.bc_events.specs.Run.{IsRun, State, run, start}
use Rattle.bc_events.specs.declared.event.Event.{Event}
use Rattle.bc_fill.specs.declared.fill.Placed.{Placed}
use Rattle.bc_insert.specs.Write.{AreReady}
use Rattle.bc_known.specs.Laws.{IsSound}
use Rattle.bc_insert.specs.bc_machine.World.{Origin}
use Rattle.bc_insert.specs.bc_place.Named.{IsFilled}
use Rattle.bc_insert.specs.bc_place.Place.{IsOwn}
use Rattle.bc_insert.specs.bc_place.Written.{HasWritten}

-- The place has more than one sector; the first holds this value, which a write of this sector wants.
-- With that alone the place is ready for a write of one sector.
pub record HasPlace (o : Origin) (st : State) : Type 0 where
  pub seat : ℕ
  pub place : Placed
  pub two : place.count ≡ 2
  pub own : IsOwn seat place o st
  pub value : Value
  pub written : HasWritten seat (λ t. if t == place.ptr.offset then Some value else None) o st
  pub filled : IsFilled seat 0 (λ s. if s == 0 then Some value else None) place o st
  pub ready : AreReady seat 0 (value ∷ []) (record place { count = 1 } ∷ []) o st

pub record IsExample (o : Origin) (es : List Event) : Type 0 where
  pub cached : o.opening.machine.flow.plain ≡ false
  pub sound : IsSound o.opening.machine o.parts
  pub course : IsRun o.opening (start o.opening o.parts o.next_seq) es
  pub place : HasPlace o (run o.opening (start o.opening o.parts o.next_seq) es)

abbrev pub HasExample : Type 0
HasExample = (o : Origin) × (es : List Event) × IsExample o es
