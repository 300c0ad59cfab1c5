-- What a run leaves of the sound pair that it was opened on, wherever its devices stop.
use Rattle.std.specs.Prelude.{ℕ, List}
use Rattle.bc_chosen.specs.Parts.{ArePartsOf, Parts, choices_of}
use Rattle.bc_events.specs.Laws.{HaveWorkers}
use Rattle.bc_events.specs.Run.{history_of}
use Rattle.bc_events.specs.declared.event.Event.{Event}
use Rattle.bc_facts.specs.Layout.{IsLayoutOf}
use Rattle.bc_image.specs.Pair.{Pair}
use Rattle.bc_image.specs.Reading.{IsView, Reading, View}
use Rattle.bc_image.specs.Shown.{shown_by}
use Rattle.bc_image.specs.Sound.{HasSoundParts}
use Rattle.bc_known.specs.Laws.{IsSound}
use Rattle.bc_dirty_laws.specs.bc_machine.World.{IsCourseOf, Origin, replay}
use Rattle.bc_meta.specs.Layout.{Layout}
use Rattle.bc_model.specs.History.{Allowed, IsLegal}
use Rattle.bc_model.specs.declared.history.Entry.{Entry}
use Rattle.bc_opening.specs.Opening.{IsOpeningOf}
use Rattle.bc_reopened.specs.bc_ranges.Laws.{frame_of}
use Rattle.bc_reopened.specs.bc_sound.Laws.{IsLeftOf, view_with}
use Rattle.bc_recoverable.specs.Made.{AreMade}

-- The events of a run on a sound pair, seen from an opening that stands for the parts that were
-- read of it; the last event comes first. No torn record matched by chance on the way, and what the
-- events bring is well made.
pub record IsRunFrom (p : Pair) (v : View) (layout : Layout) (x : Parts) (o : Origin)
    (es : List Event) : Type 0 where
  pub view : IsView p v
  pub sound : HasSoundParts p v
  pub divided : IsLayoutOf v.geometry layout
  pub read : ArePartsOf v.geometry v.reading x
  pub opened : IsOpeningOf p v layout (choices_of v.geometry v.reading x) o.opening.machine o.parts
  pub starts : IsSound o.opening.machine o.parts
  pub workers : HaveWorkers o.opening
  pub course : IsCourseOf o es
  pub made : AreMade (frame_of p v) o es

-- A sound pair, with the superblocks of the other, which shows of each sector what the history
-- allows.
pub record Recovers (p : Pair) (v : View) (history : List Entry) (left : Pair) : Type 0 where
  pub reading : Reading
  pub view : IsView left (view_with v reading)
  pub sound : HasSoundParts left (view_with v reading)
  pub shows : (s : ℕ) → Allowed (shown_by p v) history s (shown_by left (view_with v reading) s)

-- Each answer in the history is that of the last write before it, over what the pair showed; and
-- whatever a crash leaves is such a pair.
pub record IsKept (p : Pair) (v : View) (o : Origin) (es : List Event) : Type 0 where
  pub legal : IsLegal (shown_by p v) (history_of o.opening (replay o es))
  pub left : (left : Pair) → IsLeftOf p v.backing.data_offset (replay o es).machine left
      → Recovers p v (history_of o.opening (replay o es)) left

abbrev pub LawRuns : Type 0
LawRuns = (p : Pair) (v : View) (layout : Layout) (x : Parts) (o : Origin) (es : List Event)
    → IsRunFrom p v layout x o es → IsKept p v o es
