-- What a run leaves whose last insertion is durable and whose backing device is settled, as behind a
-- good closing.
use Rattle.std.specs.Prelude.{◌≡◌, ℕ, ◌+◌, List}
use Rattle.bc_chosen.specs.Parts.{Parts}
use Rattle.bc_crash.specs.Laws.{IsClosed}
use Rattle.bc_dirty_laws.specs.Dirty.{IsNoneDirty}
use Rattle.bc_events.specs.Run.{history_of}
use Rattle.bc_events.specs.declared.event.Event.{Event}
use Rattle.bc_image.specs.Pair.{Pair}
use Rattle.bc_image.specs.Reading.{IsView, Reading, View}
use Rattle.bc_image.specs.Shown.{shown_by}
use Rattle.bc_image.specs.Sound.{HasSoundParts}
use Rattle.bc_dirty_laws.specs.bc_machine.World.{Origin, replay}
use Rattle.bc_meta.specs.Layout.{Layout}
use Rattle.bc_model.specs.History.{now}
use Rattle.bc_model.specs.declared.history.Entry.{Entry}
use Rattle.bc_reopened.specs.bc_sound.Laws.{IsLeftOf, view_with}
use Rattle.bc_recoverable.specs.Runs.{IsRunFrom}

-- A sound pair, with the superblocks of the other, which shows of each sector its last write.
pub record ShowsNow (p : Pair) (v : View) (history : List Entry) (left : Pair) : Type 0 where
  pub reading : Reading
  pub view : IsView left (view_with v reading)
  pub sound : HasSoundParts left (view_with v reading)
  pub shows : (s : ℕ)
      → shown_by left (view_with v reading) s ≡ now (shown_by p v) history s

-- Whatever a crash leaves is such a pair; and where no sector's last key is dirty, the backing device
-- has each last write by itself.
pub record IsEnded (p : Pair) (v : View) (o : Origin) (es : List Event) : Type 0 where
  pub left : (left : Pair) → IsLeftOf p v.backing.data_offset (replay o es).machine left
      → ShowsNow p v (history_of o.opening (replay o es)) left
  pub backed : IsNoneDirty o (replay o es) → (left : Pair)
      → IsLeftOf p v.backing.data_offset (replay o es).machine left → (s : ℕ)
      → left.backing (v.backing.data_offset + s)
      ≡ now (shown_by p v) (history_of o.opening (replay o es)) s

abbrev pub LawEnded : Type 0
LawEnded = (p : Pair) (v : View) (layout : Layout) (x : Parts) (o : Origin) (es : List Event)
    → IsRunFrom p v layout x o es → IsClosed (replay o es).machine.whole.flow → IsEnded p v o es
