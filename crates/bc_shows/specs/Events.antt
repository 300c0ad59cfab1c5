-- The same of runs of events.
use Rattle.std.specs.Prelude.{ℕ, List}
use Rattle.bc_key.specs.declared.key.Key.{Key}
use Rattle.bc_model.specs.Sector.{Image}
use Rattle.bc_model.specs.History.{Allowed}
use Rattle.bc_disk.specs.declared.geometry.Geometry.{Geometry}
use Rattle.bc_meta.specs.Facts.{In}
use Rattle.bc_leaves.specs.Parts as parts
use Rattle.bc_facts.specs.Torn.{NoTornRecord}
use Rattle.bc_image.specs.Pointers.{PointsIntoData}
use Rattle.bc_image.specs.Reading.{Reading}
use Rattle.bc_known.specs.Laws.{IsSound}
use Rattle.bc_events.specs.Run.{Opening, State, start, history_of, IsRun, run, machine_events}
use Rattle.bc_events.specs.Laws.{HaveWorkers, MayBeLeft}
use Rattle.bc_events.specs.declared.event.Event.{Event}
use Rattle.bc_origin.specs.Keys.{WasThere, new_keys}
use Rattle.bc_shows.specs.On.{IsMachineOf}
use Rattle.bc_shows.specs.Laws.{Shows, value_of}

-- A run of events from an opening; all that its keys point to lies in data whole, and no torn
-- record matched by chance.
pub record AreEventsOn (g : Geometry) (w : Opening) (x : parts.State) (next_seq : ℕ)
    (es : List Event) : Type 0 where
  pub machine : IsMachineOf g w.machine
  pub sound : IsSound w.machine x
  pub course : IsRun w (start w x next_seq) es
  pub old_keys : (key : Key) → WasThere w.machine key → PointsIntoData g key
  pub keys : (key : Key) → In key (new_keys (machine_events w (start w x next_seq) es))
      → PointsIntoData g key
  pub no_torn : NoTornRecord g w.machine.store.image
      (run w (start w x next_seq) es).machine.whole.store.places

-- and the history by workers allows the same
pub record ShowsEvents (g : Geometry) (w : Opening) (st : State) (c b : Image)
    (r : Reading) : Type 0 where
  pub shows : Shows g w.machine st.machine c b r
  pub workers : HaveWorkers w → (s : ℕ)
      → Allowed w.machine.flow.image (history_of w st) s (value_of g r c b s)

abbrev pub LawEvents : Type 0
LawEvents =
    (g : Geometry) (w : Opening) (x : parts.State) (next_seq : ℕ) (es : List Event)
    → AreEventsOn g w x next_seq es → let st = run w (start w x next_seq) es in
    (c b : Image) → MayBeLeft st c b → (r : Reading) × ShowsEvents g w st c b r
