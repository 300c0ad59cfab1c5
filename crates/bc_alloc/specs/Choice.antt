-- How a search for victims orders them.
use Rattle.std.specs.Prelude.{◌≡◌, ◌⊎◌, ℕ, ◌+◌, ◌*◌, ◌^◌, ◌%◌, ◌<◌, ◌≤◌, Bool, List, length, slice_index}
use Rattle.bc_bucket.specs.declared.bucket.Bucket.{Bucket}
use Rattle.bc_alloc.specs.Reserve.{times}
use Rattle.bc_alloc.specs.Victims.{IsBefore, IsOpen, priority_of}

-- the less, the earlier a bucket is given up
abbrev pub rank_of : ℕ → ℕ → ℕ
rank_of priority k = priority * 2 ^ 32 + k

abbrev pub rank_at : List Bucket → ℕ → ℕ
rank_at records k = rank_of (priority_of records k) k

-- the bucket with this rank
abbrev pub number_of : ℕ → ℕ
number_of rank = rank % 2 ^ 32

-- this bucket comes behind as many as are asked for: those with these ranks, and those taken already
pub record IsBehind (records : List Bucket) (most : ℕ) (kept taken : List ℕ) (k : ℕ) : Type 0 where
  pub enough : most ≤ length kept + length taken
  pub above_kept : (x : ℕ) → 0 < times x kept → x < rank_at records k
  pub above_taken : (i : ℕ) → i < length taken → IsBefore records (slice_index taken i) k

-- of the open buckets below n the first ones were chosen, `most` at most: these are taken, the last
-- one first, and these are the ranks of the others
pub record AreChosen (records : List Bucket) (listed : List Bool) (n most : ℕ) (kept taken : List ℕ) : Type 0 where
  pub small : n ≤ 2 ^ 32
  pub few : length kept + length taken ≤ most
  pub chosen : (i : ℕ) → i < length taken → IsOpen records listed (slice_index taken i) × (slice_index taken i < n)
  pub ordered : (i j : ℕ) → i < j → j < length taken → IsBefore records (slice_index taken j) (slice_index taken i)
  pub below : (x : ℕ) → 0 < times x kept → (i : ℕ) → i < length taken → x < rank_at records (slice_index taken i)
  pub only : (x : ℕ) → 0 < times x kept → (j : ℕ) × (j < n) × IsOpen records listed j × (x ≡ rank_at records j)
  pub all : (j : ℕ) → j < n → IsOpen records listed j → (0 < times (rank_at records j) kept) ⊎ (0 < times j taken) ⊎ IsBehind records most kept taken j
  pub once : (x : ℕ) → times x kept ≤ 1
