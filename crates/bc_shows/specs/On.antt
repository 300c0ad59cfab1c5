-- A run of the machine on the cache device that is so divided.
use Rattle.std.specs.Prelude.{◌≡◌, ℕ, List}
use Rattle.bc_key.specs.declared.key.Key.{Key}
use Rattle.bc_disk.specs.declared.geometry.Geometry.{Geometry}
use Rattle.bc_meta.specs.Facts.{In}
use Rattle.bc_leaves.specs.Parts as parts
use Rattle.bc_facts.specs.Layout.{IsLayoutOf}
use Rattle.bc_facts.specs.Torn.{NoTornRecord}
use Rattle.bc_image.specs.Pointers.{PointsIntoData}
use Rattle.bc_whole.specs.State.{Opening}
use Rattle.bc_known.specs.Acts.{Event}
use Rattle.bc_known.specs.Run.{IsRun, run, start}
use Rattle.bc_known.specs.Laws.{IsSound}
use Rattle.bc_origin.specs.Keys.{WasThere, new_keys}

-- The machine lays out records as the formats do, and counts its buckets from the journal's first
-- one on.
pub record IsMachineOf (g : Geometry) (w : Opening) : Type 0 where
  pub layout : IsLayoutOf g w.layout
  pub before : w.before ≡ g.first_bucket

-- a run from an opening; all that its keys point to lies in data whole, and no torn record matched
-- by chance
pub record IsRunOn (g : Geometry) (w : Opening) (x : parts.State) (next_seq : ℕ)
    (es : List Event) : Type 0 where
  pub machine : IsMachineOf g w
  pub sound : IsSound w x
  pub course : IsRun w (start w x next_seq) es
  pub old_keys : (key : Key) → WasThere w key → PointsIntoData g key
  pub keys : (key : Key) → In key (new_keys es) → PointsIntoData g key
  pub no_torn : NoTornRecord g w.store.image (run w (start w x next_seq) es).whole.store.places
