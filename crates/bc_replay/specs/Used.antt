-- What buckets are used for, as a reader knows it of a pair whose index may meet a node twice.
use Rattle.std.specs.Prelude.{◌≡◌, ◌≢◌, ◌⊎◌, ℕ, zero, suc, ◌+◌, ◌<◌, ◌≤◌, true, List, [], ◌∷◌, length, slice_index_or, Some, Contains}
use Rattle.bc_disk.specs.Gens.{Gens}
use Rattle.bc_disk.specs.declared.geometry.Geometry.{Geometry}
use Rattle.bc_extent.specs.LastKey.{last_key}
use Rattle.bc_image.specs.Pointers.{PointsInto}
use Rattle.bc_image.specs.Shown.{is_live}
use Rattle.bc_key.specs.Key.{place_at}
use Rattle.bc_key.specs.declared.key.Key.{Key}
use Rattle.bc_record.specs.Places.{bucket_at}
use Rattle.bc_walk.specs.Walk.{IsVisited}
use Rattle.bc_walk.specs.declared.visit.Visit.{Visit}
use Rattle.bc_walk.specs.declared.visit.Visit.TheVariants as visits
use Rattle.bc_replay.specs.declared.uses.Use.{Use}
use Rattle.bc_replay.specs.declared.uses.Use.TheVariants as uses

-- what is known once the index was read: the walk's visits, and all keys of data
pub record Held : Type 0 where
  pub geometry : Geometry
  pub gens : Gens
  pub uuid_bucket : Key
  pub seen : List Visit
  pub keys : List Key

-- the sector's key is live, and its place lies in this bucket
pub record LiesIn (h : Held) (sector : ℕ) (key : Key) (bucket : ℕ) : Type 0 where
  pub last : last_key h.keys sector ≡ Some key
  pub live : is_live h.geometry h.gens key ≡ true
  pub place : bucket_at h.geometry (place_at key 0 sector) ≡ bucket

abbrev pub IsUse : Held → Use → ℕ → Type 0
IsUse h uses.None bucket = ⊥
IsUse h uses.Super bucket = bucket < h.geometry.first_bucket
IsUse h uses.Journal bucket = (h.geometry.first_bucket ≤ bucket) × (bucket < h.geometry.first_bucket + h.geometry.journal)
IsUse h uses.Priority bucket = Contains h.gens.chain bucket
IsUse h uses.Uuid bucket = PointsInto h.geometry h.uuid_bucket bucket
IsUse h uses.Node bucket = IsVisited h.geometry h.seen bucket
IsUse h uses.Data bucket = (sector : ℕ) × (key : Key) × LiesIn h sector key bucket

-- a walk came to a node of this bucket that it had read before
abbrev pub IsMetTwice : Geometry → List Visit → ℕ → Type 0
IsMetTwice g [] bucket = ⊥
IsMetTwice g (visits.Met level from key ∷ seen) bucket = IsMetTwice g seen bucket
IsMetTwice g (visits.Barred key ∷ seen) bucket = IsMetTwice g seen bucket
IsMetTwice g (visits.Again key ∷ seen) bucket = PointsInto g key bucket ⊎ IsMetTwice g seen bucket

-- the bucket has two kinds of use, or two nodes
pub data IsTwice (h : Held) (bucket : ℕ) : Type 0 where
  kinds : (a b : Use) → IsUse h a bucket → IsUse h b bucket → a ≢ b → IsTwice h bucket
  nodes : IsMetTwice h.geometry h.seen bucket → IsTwice h bucket

abbrev pub HasNoTwice : Held → Type 0
HasNoTwice h = (bucket : ℕ) → ¬ (IsTwice h bucket)

-- the least such bucket
pub record IsLeastTwice (h : Held) (bucket : ℕ) : Type 0 where
  pub twice : IsTwice h bucket
  pub least : (k : ℕ) → k < bucket → ¬ (IsTwice h k)

-- nothing uses the bucket
abbrev pub HasNoUse : Held → ℕ → Type 0
HasNoUse h bucket = (kind : Use) → ¬ (IsUse h kind bucket)

-- so many of the first n buckets have no use
abbrev pub CountsSpare : Held → ℕ → ℕ → Type 0
CountsSpare h zero count = count ≡ 0
CountsSpare h (suc n) count = (less : ℕ) × CountsSpare h n less × ((HasNoUse h n × (count ≡ suc less)) ⊎ (¬ (HasNoUse h n) × (count ≡ less)))

-- ---- a table with a use for each bucket

-- the bucket has this use; None is that it has none
abbrev pub IsListed : Held → Use → ℕ → Type 0
IsListed h uses.None bucket = HasNoUse h bucket
IsListed h kind bucket = IsUse h kind bucket

pub record AreUses (h : Held) (table : List Use) : Type 0 where
  pub each : length table ≡ h.geometry.nbuckets
  pub told : (bucket : ℕ) → bucket < h.geometry.nbuckets → IsListed h (slice_index_or table bucket uses.None) bucket
