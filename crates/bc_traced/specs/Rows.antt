-- What the rows of an index say of the buckets into which they point.
use Rattle.std.specs.Prelude.{◌≡◌, ℕ, ◌+◌, ◌<◌, ◌++◌, ◌==◌, false, List, [], ◌∷◌, length, replicate, slice_index_or, Option, Some, None, if◌then◌else◌}
use Rattle.bc_bucket.specs.Bucket.{opened}
use Rattle.bc_bucket.specs.Buckets.{Buckets, bucket_of, oldest_or}
use Rattle.bc_bucket.specs.Meaning.{IsFound}
use Rattle.bc_bucket.specs.Walk.{found_at}
use Rattle.bc_bucket.specs.declared.bucket.Bucket.{Bucket}
use Rattle.bc_bucket.specs.declared.walk.Found.{Found}
use Rattle.bc_bucket.specs.declared.walk.Reference.{Reference}
use Rattle.bc_disk.specs.declared.gens.BucketRecord.{BucketRecord}
use Rattle.bc_disk.specs.declared.geometry.Geometry.{Geometry}
use Rattle.bc_key.specs.Key.{pointer_of}
use Rattle.bc_key.specs.declared.key.Key.{Key}
use Rattle.bc_key.specs.declared.ptr.Ptr.{Ptr}
use Rattle.bc_record.specs.Places.{bucket_at}

-- the row's pointer, as the bucket into which it points sees it
abbrev pub reference_of : Key → Ptr → Reference
reference_of row ptr = record { generation = ptr.generation; sectors = row.size; dirty = row.dirty }

abbrev pub pointed : Geometry → ℕ → Key → Option Ptr → List Reference
pointed g bucket row None = []
pointed g bucket row (Some ptr) = if bucket_at g ptr.offset == bucket then reference_of row ptr ∷ [] else []

-- the row's first pointer, if it leads into the bucket
abbrev pub reference_in : Geometry → ℕ → Key → List Reference
reference_in g bucket row = pointed g bucket row (pointer_of row)

-- those of all rows
abbrev pub references : Geometry → ℕ → List Key → List Reference
references g bucket [] = []
references g bucket (row ∷ rows) = reference_in g bucket row ++ references g bucket rows

-- the walk has for each bucket what these rows say of it
pub record AreWalked (g : Geometry) (buckets : Buckets) (rows : List Key) (walk : List Found) : Type 0 where
  pub each : length walk ≡ g.nbuckets
  pub found : (k : ℕ) → k < g.nbuckets → IsFound (bucket_of buckets k).generation (references g k rows) (found_at walk k)

abbrev pub no_record : BucketRecord
no_record = record { priority = 0; generation = 0 }

-- a bucket of this record, with what was found of it
abbrev pub traced : BucketRecord → Found → Bucket
traced r found = record (opened r.priority r.generation) { last_gc = oldest_or r.generation found.last_gc; mark = found.mark; used = found.used }

-- the bucket is so, as these rows say
pub record IsTraced (g : Geometry) (r : BucketRecord) (rows : List Key) (k : ℕ) (b : Bucket) : Type 0 where
  pub found : Found
  pub says : IsFound r.generation (references g k rows) found
  pub is : b ≡ traced r found

-- so is each bucket of a device, and no key was added since
pub record AreTraced (g : Geometry) (records : List BucketRecord) (rows : List Key) (buckets : Buckets) : Type 0 where
  pub each : length buckets.records ≡ g.nbuckets
  pub size : buckets.size ≡ g.bucket
  pub data_from : buckets.data_from ≡ g.first_bucket + g.journal
  pub touched : buckets.touched ≡ replicate g.nbuckets false
  pub traced : (k : ℕ) → k < g.nbuckets → IsTraced g (slice_index_or records k no_record) rows k (bucket_of buckets k)
