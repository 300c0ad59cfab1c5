-- Which buckets are given up next.
use Rattle.std.specs.Prelude.{◌≡◌, ◌≢◌, ◌⊎◌, ℕ, ◌<◌, ◌≤◌, false, Bool, List, length, slice_index, slice_index_or}
use Rattle.bc_bucket.specs.declared.bucket.Bucket.{Bucket}
use Rattle.bc_bucket.specs.Bucket.{no_bucket, IsReclaimable}
use Rattle.bc_bucket.specs.Buckets.{Buckets, bucket_of}
use Rattle.bc_alloc.specs.Reserve.{times}
use Rattle.bc_alloc.specs.Reserves.{Reserves, times_listed, wanted}

-- it may be given up, and isn't listed already
pub record IsCandidate (r : Reserves) (b : Buckets) (k : ℕ) : Type 0 where
  pub there : k < length b.records
  pub reclaimable : IsReclaimable (bucket_of b k)
  pub loose : times_listed r k ≡ 0

abbrev pub priority_of : List Bucket → ℕ → ℕ
priority_of records k = (slice_index_or records k no_bucket).priority

-- the one with the lower priority is given up first, and of two with the same the one with the
-- lower number
abbrev pub IsBefore : List Bucket → ℕ → ℕ → Type 0
IsBefore records j k =
    (priority_of records j < priority_of records k) ⊎ ((priority_of records j ≡ priority_of records k) × (j < k))

-- the first of all candidates
pub record IsVictim (r : Reserves) (b : Buckets) (v : ℕ) : Type 0 where
  pub candidate : IsCandidate r b v
  pub first : (k : ℕ) → IsCandidate r b k → k ≢ v → IsBefore b.records v k

-- the first ones, in order, of the buckets with a property: so many, or all where there are fewer
pub record AreFirst (P : ℕ → Type 0) (records : List Bucket) (most : ℕ) (vs : List ℕ) : Type 0 where
  pub chosen : (i : ℕ) → i < length vs → P (slice_index vs i)
  pub ordered : (i j : ℕ) → i < j → j < length vs → IsBefore records (slice_index vs i) (slice_index vs j)
  pub first : (k : ℕ) → P k → times k vs ≡ 0 → (i : ℕ) → i < length vs → IsBefore records (slice_index vs i) k
  pub few : length vs ≤ most
  pub enough : length vs < most → (k : ℕ) → P k → 0 < times k vs

-- the candidates that a refill raises
abbrev pub AreVictims : Reserves → Buckets → List ℕ → Type 0
AreVictims r b vs = AreFirst (IsCandidate r b) b.records (wanted r) vs

-- by its record and the flag that says whether it is listed
pub record IsOpen (records : List Bucket) (listed : List Bool) (k : ℕ) : Type 0 where
  pub there : k < length records
  pub reclaimable : IsReclaimable (slice_index_or records k no_bucket)
  pub unlisted : slice_index_or listed k false ≡ false
