-- The same of runs of events.
use Rattle.std.specs.Prelude.{ℕ, List}
use Rattle.bc_leaves.specs.Parts as parts
use Rattle.bc_image.specs.Pair.{Pair}
use Rattle.bc_image.specs.Reading.{View}
use Rattle.bc_image.specs.Sound.{IsSoundButForItsNumber}
use Rattle.bc_facts.specs.Torn.{NoTornRecord}
use Rattle.bc_events.specs.Run.{Opening, IsRun, machine_events, run, start}
use Rattle.bc_events.specs.declared.event.Event.{Event}
use Rattle.bc_opened.specs.Opening.{IsSoundOpeningOf}
use Rattle.bc_ranges.specs.Made.{AreWellMade}
use Rattle.bc_ranges.specs.Laws.{frame_of}
use Rattle.bc_sound.specs.Laws.{IsLeftOf, IsSoundAgain}

-- A run of events from an opening of a pair; what its acts bring is well made, and no torn record
-- matched by chance.
pub record AreEventsOf (p : Pair) (v : View) (w : Opening) (x : parts.State) (next_seq : ℕ)
    (es : List Event) : Type 0 where
  pub opening : IsSoundOpeningOf p v w.machine x
  pub course : IsRun w (start w x next_seq) es
  pub made : AreWellMade (frame_of p v) w.machine (start w x next_seq).machine
      (machine_events w (start w x next_seq) es)
  pub no_torn : NoTornRecord v.geometry w.machine.store.image
      (run w (start w x next_seq) es).machine.whole.store.places

abbrev pub LawEvents : Type 0
LawEvents =
    (p : Pair) (v : View) (w : Opening) (x : parts.State) (next_seq : ℕ) (es : List Event)
    → AreEventsOf p v w x next_seq es → (left : Pair)
    → IsLeftOf p v.backing.data_offset (run w (start w x next_seq) es).machine left
    → IsSoundAgain left v × IsSoundButForItsNumber left
