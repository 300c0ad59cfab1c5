-- All buckets of a device.
use Rattle.std.specs.Prelude.{slice_index, ◌+◌, ◌%◌, ◌<◌, ◌≡◌, ℕ, Bool, true, false, List, length, slice_index_or, slice_set, Option, Some, None, if◌then◌else◌}
use Rattle.bc_disk.specs.declared.gens.BucketRecord.{BucketRecord}
use Rattle.bc_bucket.specs.declared.bucket.Bucket.{Bucket}
use Rattle.bc_bucket.specs.declared.walk.Found.{Found}
use Rattle.bc_bucket.specs.Bucket.{no_bucket, opened, is_metadata}
use Rattle.bc_bucket.specs.Walk.{none_found}

-- what a `Buckets` is seen as
pub record Buckets : Type 0 where
  -- the sectors of a bucket
  pub size : ℕ
  -- the first bucket behind superblock and journal
  pub data_from : ℕ
  -- the record of each bucket, by its number
  pub records : List Bucket
  -- for each bucket, whether a key into it was added since the trace round began
  pub touched : List Bool

abbrev pub bucket_of : Buckets → ℕ → Bucket
bucket_of b k = slice_index_or b.records k no_bucket

-- one bucket has changed so
abbrev pub changed : (Bucket → Bucket) → ℕ → Buckets → Buckets
changed f k b = record b { records = slice_set b.records k (f (bucket_of b k)) }

-- each bucket has changed so, by its number
pub record EachChanged (f : ℕ → Bucket → Bucket) (old new : Buckets) : Type 0 where
  pub each : (k : ℕ) → k < length old.records → bucket_of new k ≡ f k (bucket_of old k)
  pub same_count : length new.records ≡ length old.records
  pub same_size : new.size ≡ old.size
  pub same_data : new.data_from ≡ old.data_from
  pub same_touched : new.touched ≡ old.touched

-- what a priority set says of the bucket
abbrev pub shown_on_disk : Bucket → BucketRecord
shown_on_disk b = record { priority = b.priority; generation = b.generation }

abbrev pub opened_by : BucketRecord → Bucket
opened_by r = opened r.priority r.generation

-- the bucket's own generation where no key was found
abbrev pub oldest_or : ℕ → Option ℕ → ℕ
oldest_or own None = own
oldest_or own (Some oldest) = oldest

-- what a round makes of a bucket that no new key touched: the mark Metadata doesn't come from keys,
-- and stays
abbrev pub settled : Found → Bucket → Bucket
settled found b =
    if is_metadata b.mark then record b { last_gc = oldest_or b.generation found.last_gc }
    else record b { last_gc = oldest_or b.generation found.last_gc; mark = found.mark; used = found.used }

abbrev pub settled_unless : Bool → Found → Bucket → Bucket
settled_unless true found b = b
settled_unless false found b = settled found b

abbrev pub settled_at : List Bool → List Found → ℕ → Bucket → Bucket
settled_at touched walk k b = settled_unless (slice_index_or touched k false) (slice_index_or walk k none_found) b

-- a bucket's generation is the one that it had at the opening and its uses since, modulo 256
abbrev pub IsCounted : List ℕ → Buckets → Type 0
IsCounted opening b = (k : ℕ) → k < length b.records → (bucket_of b k).generation ≡ (slice_index opening k + (bucket_of b k).uses) % 256
