-- What the buckets of a cache device are used for.
use Rattle.std.specs.Prelude.{◌≡◌, ℕ, ◌+◌, ◌<◌, ◌≤◌, true, Some, Any, Contains}
use Rattle.bc_disk.specs.declared.geometry.Geometry.{Geometry}
use Rattle.bc_key.specs.declared.key.Key.{Key}
use Rattle.bc_key.specs.Key.{place_at}
use Rattle.bc_record.specs.Places.{bucket_at}
use Rattle.bc_image.specs.Pointers.{PointsInto}
use Rattle.bc_image.specs.Reading.{Reading, key_of}
use Rattle.bc_image.specs.Shown.{is_live}

pub data Use : Type 0 where
  Super Journal Priority Uuid Node Data : Use

-- the sector's key is live, and its place lies in this bucket
pub record LiesLive (g : Geometry) (r : Reading) (sector : ℕ) (key : Key) (bucket : ℕ) : Type 0 where
  pub last : key_of r sector ≡ Some key
  pub live : is_live g r.gens key ≡ true
  pub place : bucket_at g (place_at key 0 sector) ≡ bucket

-- Each bucket below the journal's is the superblock's. A bucket has data where some sector's key is live in it.
abbrev pub IsUsedFor : Geometry → Reading → Use → ℕ → Type 0
IsUsedFor g r Super bucket = bucket < g.first_bucket
IsUsedFor g r Journal bucket = (g.first_bucket ≤ bucket) × (bucket < g.first_bucket + g.journal)
IsUsedFor g r Priority bucket = Contains r.gens.chain bucket
IsUsedFor g r Uuid bucket = PointsInto g r.newest.item.uuid_bucket bucket
IsUsedFor g r Node bucket = Any (λ n. PointsInto g n.key bucket) r.nodes
IsUsedFor g r Data bucket = (sector : ℕ) × (key : Key) × LiesLive g r sector key bucket

-- nothing uses the bucket
abbrev pub IsSpare : Geometry → Reading → ℕ → Type 0
IsSpare g r bucket = (bucket < g.nbuckets) × ((what : Use) → IsUsedFor g r what bucket → ⊥)

-- some sector's data in the bucket is all that there is of it
abbrev pub IsLiveDirty : Geometry → Reading → ℕ → Type 0
IsLiveDirty g r bucket = (sector : ℕ) × (key : Key) × LiesLive g r sector key bucket × (key.dirty ≡ true)
