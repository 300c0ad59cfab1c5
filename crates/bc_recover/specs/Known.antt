-- What the keys of a pair say of its buckets.
use Rattle.std.specs.Prelude.{◌≡◌, ◌⊎◌, ℕ, ◌+◌, ◌-◌, ◌<◌, ◌≤◌, ◌^◌, min, Some}
use Rattle.std.specs.Prelude.{false, length, replicate, slice_index_or}
use Rattle.bc_bucket.specs.Buckets.{Buckets, bucket_of}
use Rattle.bc_bucket.specs.declared.bucket.Bucket.{Bucket}
use Rattle.bc_bucket.specs.declared.bucket.Mark.{Mark}
use Rattle.bc_bucket.specs.declared.bucket.Mark.TheVariants as marks
use Rattle.bc_counts.specs.Counts.{IsCount, IsLiveIn}
use Rattle.bc_disk.specs.declared.geometry.Geometry.{Geometry}
use Rattle.bc_image.specs.Reading.{Reading, key_of}
use Rattle.bc_image.specs.Shown.{generation_of, no_record}
use Rattle.bc_image.specs.Uses.{Use, Super, Journal, Priority, Uuid, Node, Data}
use Rattle.bc_image.specs.Uses.{IsUsedFor, IsLiveDirty}
use Rattle.bc_key.specs.Generation.{behind}
use Rattle.bc_key.specs.Key.{pointer_of}
use Rattle.bc_key.specs.declared.key.Key.{Key}
use Rattle.bc_key.specs.declared.ptr.Ptr.{Ptr}
use Rattle.bc_record.specs.Places.{bucket_at}

-- the bucket has no data, but something of the cache itself
abbrev pub IsMetadata : Geometry → Reading → ℕ → Type 0
IsMetadata g r k =
    IsUsedFor g r Super k ⊎ (IsUsedFor g r Journal k ⊎ (IsUsedFor g r Priority k
    ⊎ (IsUsedFor g r Uuid k ⊎ IsUsedFor g r Node k)))

-- Which mark the bucket has: one for metadata, one where some data in it is all that there is of it,
-- one where all of its data stands on the backing device too, and one where nothing uses it.
abbrev pub IsMarkOf : Geometry → Reading → ℕ → Mark → Type 0
IsMarkOf g r k marks.Metadata = IsMetadata g r k
IsMarkOf g r k marks.Dirty = IsLiveDirty g r k
IsMarkOf g r k marks.Reclaimable = IsUsedFor g r Data k × ¬ (IsLiveDirty g r k)
IsMarkOf g r k marks.None = (what : Use) → ¬ (IsUsedFor g r what k)

-- a sector's last key points into the bucket, whether it is live or not
pub record PointsFrom (g : Geometry) (r : Reading) (k sector : ℕ) (key : Key) (ptr
    : Ptr) : Type 0 where
  pub last : key_of r sector ≡ Some key
  pub points : pointer_of key ≡ Some ptr
  pub place : bucket_at g ptr.offset ≡ k

-- no such key's generation lies further behind the bucket's own than this one, which is one of theirs,
-- or the bucket's own
pub record IsOldestKey (g : Geometry) (r : Reading) (k generation : ℕ) : Type 0 where
  pub none_older : (sector : ℕ) (key : Key) (ptr : Ptr) → PointsFrom g r k sector key ptr
      → behind (generation_of r.gens k) ptr.generation ≤ behind (generation_of r.gens k) generation
  pub one : (generation ≡ generation_of r.gens k) ⊎ ((sector : ℕ) × (key : Key) × (ptr : Ptr)
      × PointsFrom g r k sector key ptr × (ptr.generation ≡ generation))

-- the priority of metadata, or the one that the pair has
abbrev pub IsPriorityOf : Geometry → Reading → ℕ → ℕ → Type 0
IsPriorityOf g r k priority =
    (IsMetadata g r k × (priority ≡ 65535))
    ⊎ (¬ (IsMetadata g r k) × (priority ≡ (slice_index_or r.gens.records k no_record).priority))

-- The bucket as the pair has it; its used count is that of the sectors whose keys are live in it, as
-- far as it counts. Nobody uses it yet, and it was not raised.
pub record IsKnownAs (g : Geometry) (r : Reading) (k : ℕ) (b : Bucket) : Type 0 where
  pub generation : b.generation ≡ generation_of r.gens k
  pub durable : b.durable ≡ generation_of r.gens k
  pub priority : IsPriorityOf g r k b.priority
  pub mark : IsMarkOf g r k b.mark
  pub live : ℕ
  pub count : IsCount (IsLiveIn g r k) live
  pub used : b.used ≡ min live (2 ^ 32 - 1)
  pub oldest : IsOldestKey g r k b.last_gc
  pub unused : (b.uses ≡ 0) × (b.pins ≡ 0) × (b.held ≡ false)

-- so is each bucket, and no key was added since
pub record AreKnown (g : Geometry) (r : Reading) (buckets : Buckets) : Type 0 where
  pub each : length buckets.records ≡ g.nbuckets
  pub size : buckets.size ≡ g.bucket
  pub data_from : buckets.data_from ≡ g.first_bucket + g.journal
  pub touched : buckets.touched ≡ replicate g.nbuckets false
  pub known : (k : ℕ) → k < g.nbuckets → IsKnownAs g r k (bucket_of buckets k)

-- ---- what no pair has to tell

-- there are so many buckets, and nobody holds one
pub record AreUnheld (count : ℕ) (buckets : Buckets) : Type 0 where
  pub each : length buckets.records ≡ count
  pub not_held : (k : ℕ) → k < count → (bucket_of buckets k).held ≡ false
