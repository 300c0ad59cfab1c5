-- A condition that is needed.
use Rattle.std.specs.Prelude.{◌≢◌, ℕ, Some}
use Rattle.bc_model.specs.Sector.{Value, Image}
use Rattle.bc_disk.specs.Gens.{Gens}
use Rattle.bc_disk.specs.declared.geometry.Geometry.{Geometry}
use Rattle.bc_record.specs.Places.{bucket_at}
use Rattle.bc_key.specs.declared.key.Key.{Key}
use Rattle.bc_key.specs.Key.{Covers}
use Rattle.bc_image.specs.Shown.{generation_of, value_by}
use Rattle.bc_remains.specs.Means.{ref_of}
use Rattle.bc_whole.specs.Laws.{shown_by}

-- a sector of a key that lies in two buckets: by one chain of generations, the format has it on one
-- device, and the machine on the other
abbrev pub NeedsOneBucket : Type 0
NeedsOneBucket =
    (g : Geometry) × (gens : Gens) × (key : Key) × (s : ℕ) × (c : Image)
    × ((v : Value) × Covers key s
    × (value_by g gens c (Some key) s v
    ≢ shown_by (bucket_at g) (generation_of gens) (ref_of (Some key) s) c v))
