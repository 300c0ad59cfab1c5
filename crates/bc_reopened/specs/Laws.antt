-- Runs on a device, one after the other.
use Rattle.std.specs.Prelude.{◌≡◌, ℕ, List}
use Rattle.bc_model.specs.History.{Allowed}
use Rattle.bc_leaves.specs.Parts as parts
use Rattle.bc_meta.specs.Layout.{Layout}
use Rattle.bc_facts.specs.Layout.{IsLayoutOf}
use Rattle.bc_facts.specs.Torn.{NoTornRecord}
use Rattle.bc_image.specs.Pair.{Pair}
use Rattle.bc_image.specs.Reading.{View, IsView}
use Rattle.bc_image.specs.Shown.{shown_by}
use Rattle.bc_image.specs.Sound.{HasSoundParts}
use Rattle.bc_whole.specs.State as whole
use Rattle.bc_events.specs.Run.{Opening, State, IsRun, history_of, machine_events, run, start}
use Rattle.bc_events.specs.Laws.{HaveWorkers}
use Rattle.bc_events.specs.declared.event.Event.{Event}
use Rattle.bc_opened.specs.Opening.{IsSoundOpeningOf}
use Rattle.bc_opening.specs.Choices.{Choices, MayBeChosen}
use Rattle.bc_opening.specs.Opening.{IsOpenedAs}
use Rattle.bc_ranges.specs.Laws.{frame_of}
use Rattle.bc_ranges.specs.Made.{AreWellMade}
use Rattle.bc_sound.specs.Laws.{IsLeftOf}

-- a sound pair, opened by what may be chosen
abbrev pub IsOpenedBy : Pair → View → Layout → Choices → whole.Opening → parts.State → Type 0
IsOpenedBy p v layout c w x = IsOpenedAs p v layout c w x × MayBeChosen v.geometry v.reading c

-- what was read and chosen says all that a run asks of its opening
abbrev pub LawOpened : Type 0
LawOpened =
    (p : Pair) (v : View) (layout : Layout) (c : Choices) (w : whole.Opening) (x : parts.State)
    → IsOpenedBy p v layout c w x → IsSoundOpeningOf p v w x

-- A run of events on a sound pair, opened by some choices; what its acts bring is well made, no torn
-- record matched by chance, and its seats have workers of their own.
pub record AreEventsOn (p : Pair) (v : View) (layout : Layout) (c : Choices) (w : Opening)
    (x : parts.State) (next_seq : ℕ) (es : List Event) : Type 0 where
  pub opened : IsOpenedBy p v layout c w.machine x
  pub course : IsRun w (start w x next_seq) es
  pub made : AreWellMade (frame_of p v) w.machine (start w x next_seq).machine
      (machine_events w (start w x next_seq) es)
  pub no_torn : NoTornRecord v.geometry w.machine.store.image
      (run w (start w x next_seq) es).machine.whole.store.places
  pub workers : HaveWorkers w

-- What is left is a sound pair of a device that is divided as before, which shows what was allowed;
-- and each choice opens it as a pair that a run may begin on.
pub record IsReopened (p : Pair) (v : View) (w : Opening) (st : State) (left : Pair) : Type 0 where
  pub later : View
  pub geometry : later.geometry ≡ v.geometry
  pub view : IsView left later
  pub sound : HasSoundParts left later
  pub shows : (s : ℕ) → Allowed (shown_by p v) (history_of w st) s (shown_by left later s)
  pub choices : (c : Choices) × MayBeChosen later.geometry later.reading c
  pub opens : (layout : Layout) (c : Choices) → IsLayoutOf later.geometry layout
      → MayBeChosen later.geometry later.reading c
      → (w : whole.Opening) × (x : parts.State) × IsOpenedBy left later layout c w x

-- at the end of every run, and so at every state of one
abbrev pub LawAgain : Type 0
LawAgain =
    (p : Pair) (v : View) (layout : Layout) (c : Choices) (w : Opening) (x : parts.State)
    (next_seq : ℕ) (es : List Event) → AreEventsOn p v layout c w x next_seq es
    → let st = run w (start w x next_seq) es in
    (left : Pair) → IsLeftOf p v.backing.data_offset st.machine left → IsReopened p v w st left
