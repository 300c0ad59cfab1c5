-- What an install makes of the buckets in memory.
use Rattle.std.specs.Prelude.{◌≡◌, ℕ, ◌+◌, ◌-◌, ◌/◌, ◌<◌, ◌≤◌, List, [], ◌∷◌, length, slice_set, true}
use Rattle.bc_alloc.specs.Reserve.{times}
use Rattle.bc_change.specs.bc_machine.declared.part.BucketsPart.{BucketsPart}
use Rattle.bc_fill.specs.Fill.{bucket_numbers}
use Rattle.bc_grouped.specs.Grouped.{HasMade, HasUnmade, SameLists}
use Rattle.bc_grouped.specs.Touched.{AreTouchedBy, keys_in}
use Rattle.bc_key.specs.declared.key.Key.{Key}
use Rattle.bc_node.specs.Leaf.{Leaf}

-- only which buckets are touched has changed
pub record HasTouches (p q : BucketsPart) : Type 0 where
  pub beside : SameLists p q
  pub buckets : q.buckets ≡ record p.buckets { touched = q.buckets.touched }

-- the bucket in which a place lies, as the core counts it
abbrev pub bucket_at : (size first place : ℕ) → ℕ
bucket_at size first place = place / size - first + first

-- it is touched, where it is one of the device
pub record TouchesAt (first place : ℕ) (p q : BucketsPart) : Type 0 where
  pub same : HasTouches p q
  pub inside : bucket_at p.buckets.size first place < length p.buckets.records
      → q.buckets.touched
      ≡ slice_set p.buckets.touched (bucket_at p.buckets.size first place) true
  pub outside : length p.buckets.records ≤ bucket_at p.buckets.size first place
      → q.buckets.touched ≡ p.buckets.touched

-- Those into which these keys point are. Each bucket has an answer whether it is touched.
pub record HasTouched (first : ℕ) (keys : List Key) (p q : BucketsPart) : Type 0 where
  pub same : HasTouches p q
  pub touched : length p.buckets.touched ≡ length p.buckets.records
      → AreTouchedBy p.buckets.size first keys p.buckets.touched q.buckets.touched

-- A bucket of the device got a node, which uses all of it, or lost it; one of another number is
-- none. One that is open for data gets none: a hold that it has isn't the seat's whose node comes.
pub record IfMade (n : ℕ) (p q : BucketsPart) : Type 0 where
  pub inside : n < length p.buckets.records → times n (bucket_numbers p.fill) ≡ 0
      → HasMade p.buckets.size n p q
  pub outside : length p.buckets.records ≤ n → q ≡ p
  pub «open» : 0 < times n (bucket_numbers p.fill) → q ≡ p

pub record IfUnmade (n : ℕ) (p q : BucketsPart) : Type 0 where
  pub inside : n < length p.buckets.records → HasUnmade n p q
  pub outside : length p.buckets.records ≤ n → q ≡ p

-- so did each of these, one behind the other
abbrev pub HaveMade : (before : ℕ) → List ℕ → BucketsPart → BucketsPart → Type 0
HaveMade before [] p q = q ≡ p
HaveMade before (b ∷ bs) p q =
    (r : BucketsPart) × IfMade (before + b) p r × HaveMade before bs r q

abbrev pub HaveUnmade : (before : ℕ) → List ℕ → BucketsPart → BucketsPart → Type 0
HaveUnmade before [] p q = q ≡ p
HaveUnmade before (b ∷ bs) p q =
    (r : BucketsPart) × IfUnmade (before + b) p r × HaveUnmade before bs r q

-- The buckets of new keys were touched, what comes was made nodes, and what goes isn't any more.
pub record HasBucketsWith (first : ℕ) (leaves : List Leaf) (come gone : List ℕ)
    (p q : BucketsPart) : Type 0 where
  pub touched : BucketsPart
  pub made : BucketsPart
  pub keys : HasTouched first (keys_in leaves) p touched
  pub come_made : HaveMade first come touched made
  pub gone_unmade : HaveUnmade first gone made q
