-- Which device a table of uuids names first.
use Rattle.std.specs.Prelude.{◌≡◌, ℕ, List, slice_index_or}
use Rattle.bc_disk.specs.declared.geometry.Geometry.{Geometry}
use Rattle.bc_image.specs.Pointers.{PointsInto}
use Rattle.bc_key.specs.declared.key.Key.{Key}
use Rattle.bc_model.specs.Sector.{Image}
use Rattle.bc_uuid.specs.declared.entry.UuidEntry.{UuidEntry}
use Rattle.bc_uuid.specs.Table.{TableIn}

-- the table in the bucket that a key points to has this uuid first
pub record NamesFirst (g : Geometry) (image : Image) (key : Key) (uuid : List ℕ) : Type 0 where
  pub bucket : ℕ
  pub place : PointsInto g key bucket
  pub entries : List UuidEntry
  pub table : TableIn g image bucket entries
  pub first : (d : UuidEntry) → (slice_index_or entries 0 d).uuid ≡ uuid
