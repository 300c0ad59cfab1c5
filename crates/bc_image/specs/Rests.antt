-- The sectors on which a reading rests.
use Rattle.std.specs.Prelude.{◌≡◌, ◌⊎◌, ℕ, ◌+◌, ◌*◌, ◌<◌, ◌≤◌, Some, All, Contains}
use Rattle.bc_disk.specs.declared.geometry.Geometry.{Geometry}
use Rattle.bc_model.specs.Sector.{Image}
use Rattle.bc_key.specs.declared.ptr.Ptr.{Ptr}
use Rattle.bc_key.specs.Key.{pointer_of}
use Rattle.bc_record.specs.Sectors.{AgreeOn}
use Rattle.bc_jset.specs.Entries.{bucket_start}
use Rattle.bc_image.specs.Tree.{Node}
use Rattle.bc_image.specs.Reading.{Reading}

-- both images have the same sectors of a bucket, and of a node
abbrev pub SameBucket : Geometry → Image → Image → ℕ → Type 0
SameBucket g a b bucket = AgreeOn a b (g.bucket * bucket) (g.bucket * bucket + g.bucket)

abbrev pub SameNode : Geometry → Image → Image → Node → Type 0
SameNode g a b n = (ptr : Ptr) → pointer_of n.key ≡ Some ptr → AgreeOn a b ptr.offset (ptr.offset + g.node_sectors)

-- the same generations and nodes, whatever stands in the journal
pub record SameRest (g : Geometry) (a b : Image) (r : Reading) : Type 0 where
  pub gens : (bucket : ℕ) → Contains r.gens.chain bucket → SameBucket g a b bucket
  pub nodes : All (SameNode g a b) r.nodes

-- the images differ in sectors of the journal alone
abbrev pub SameButJournal : Geometry → Image → Image → Type 0
SameButJournal g a b = (s : ℕ) → (s < bucket_start g 0) ⊎ (bucket_start g g.journal ≤ s) → a s ≡ b s
