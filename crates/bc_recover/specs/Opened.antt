-- The buckets of a pair that is opened.
use Rattle.std.specs.Prelude.{◌≡◌, ◌⊎◌, ℕ, ◌+◌, ◌<◌, Bool, true, false, List, length, replicate, slice_index_or, if◌then◌else◌}
use Rattle.bc_bucket.specs.Buckets.{Buckets, bucket_of}
use Rattle.bc_bucket.specs.declared.bucket.Bucket.{Bucket}
use Rattle.bc_bucket.specs.declared.bucket.Mark.TheVariants as marks
use Rattle.bc_disk.specs.declared.gens.BucketRecord.{BucketRecord}
use Rattle.bc_disk.specs.declared.geometry.Geometry.{Geometry}
use Rattle.bc_image.specs.Reading.{Reading}
use Rattle.bc_key.specs.declared.key.Key.{Key}
use Rattle.bc_replay.specs.declared.uses.Use.{Use}
use Rattle.bc_replay.specs.declared.uses.Use.TheVariants as uses
use Rattle.bc_recover.specs.Known.{IsMetadata}
use Rattle.bc_traced.specs.Rows.{IsTraced, no_record}

-- one of the uses that aren't data
abbrev pub is_metadata : Use → Bool
is_metadata uses.None = false
is_metadata uses.Data = false
is_metadata kind = true

-- the bucket with the mark and the priority of metadata; its used count stays
abbrev pub as_metadata : Bucket → Bucket
as_metadata b = record b { mark = marks.Metadata; priority = 65535 }

abbrev pub marked_if : Bool → Bucket → Bucket
marked_if is b = if is then as_metadata b else b

abbrev pub marked_by : List Use → ℕ → Bucket → Bucket
marked_by table k b = marked_if (is_metadata (slice_index_or table k uses.None)) b

-- The bucket as the rows of the index say, which give each sector its last key; one of metadata is marked so.
pub record IsOpened (g : Geometry) (r : Reading) (rows : List Key) (k : ℕ) (b : Bucket) : Type 0 where
  pub before : Bucket
  pub traced : IsTraced g (slice_index_or r.gens.records k no_record) rows k before
  pub marked : (IsMetadata g r k × (b ≡ as_metadata before)) ⊎ (¬ (IsMetadata g r k) × (b ≡ before))

-- so is each bucket
pub record AreOpened (g : Geometry) (r : Reading) (rows : List Key) (buckets : Buckets) : Type 0 where
  pub each : length buckets.records ≡ g.nbuckets
  pub size : buckets.size ≡ g.bucket
  pub data_from : buckets.data_from ≡ g.first_bucket + g.journal
  pub touched : buckets.touched ≡ replicate g.nbuckets false
  pub opened : (k : ℕ) → k < g.nbuckets → IsOpened g r rows k (bucket_of buckets k)

-- ---- by a table of uses

pub record AreMarked (g : Geometry) (records : List BucketRecord) (rows : List Key) (table : List Use) (buckets : Buckets) : Type 0 where
  pub each : length buckets.records ≡ g.nbuckets
  pub size : buckets.size ≡ g.bucket
  pub data_from : buckets.data_from ≡ g.first_bucket + g.journal
  pub touched : buckets.touched ≡ replicate g.nbuckets false
  pub opened : (k : ℕ) → k < g.nbuckets → (before : Bucket) × IsTraced g (slice_index_or records k no_record) rows k before × (bucket_of buckets k ≡ marked_by table k before)
