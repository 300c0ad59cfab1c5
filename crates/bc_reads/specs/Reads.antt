-- From where a sector is read.
use Rattle.std.specs.Prelude.{◌≡◌, ◌≢◌, ◌⊎◌, ℕ, ◌+◌, ◌-◌, ◌/◌, ◌<◌, ◌≤◌, true, false, List, [], ◌∷◌, Option, Some, None, length}
use Rattle.bc_bucket.specs.Buckets.{Buckets, bucket_of}
use Rattle.bc_key.specs.Key.{pointer_of}
use Rattle.bc_key.specs.declared.key.Key.{Key}
use Rattle.bc_meta.specs.Keys.{Ref, ref_by}
use Rattle.bc_node.specs.Leaf.{Leaf}
use Rattle.bc_sight.specs.Sight.{said_in}
use Rattle.bc_reads.specs.declared.runs.ReadRun.{ReadRun}
use Rattle.bc_reads.specs.declared.source.ReadFrom.{ReadFrom}
use Rattle.bc_reads.specs.declared.source.ReadFrom.TheVariants.{Backing, Cache}

-- The place lies in a bucket for data, which has this generation.
pub record IsLiveAt (b : Buckets) (place generation : ℕ) : Type 0 where
  pub for_data : b.data_from ≤ place / b.size
  pub known : place / b.size < length b.records
  pub live : generation ≡ (bucket_of b (place / b.size)).generation

-- what a key says of a sector
abbrev pub said_of : Key → ℕ → Option Ref
said_of key s = ref_by key s (pointer_of key)

-- Where this is said of a sector, it is read from there: from the backing device where nothing is
-- said, or it is of clean data whose bucket was used anew.
abbrev pub IsReadBy : Option Ref → Buckets → ReadFrom → Type 0
IsReadBy said b Backing = (said ≡ None) ⊎ ((ref : Ref) × (said ≡ Some ref) × (ref.dirty ≡ false)
    × ¬ (IsLiveAt b ref.place ref.generation))
IsReadBy said b (Cache at dirty) = (ref : Ref) × (said ≡ Some ref) × (ref.place ≡ at)
    × (ref.dirty ≡ dirty) × IsLiveAt b at ref.generation

-- dirty data of a bucket that was used anew since
abbrev pub IsLostBy : Option Ref → Buckets → Type 0
IsLostBy said b = (ref : Ref) × (said ≡ Some ref) × (ref.dirty ≡ true)
    × ¬ (IsLiveAt b ref.place ref.generation)

-- by the leaf's last key
abbrev pub IsReadFrom : Leaf → Buckets → ℕ → ReadFrom → Type 0
IsReadFrom leaf b s from = IsReadBy (said_in leaf s) b from

abbrev pub IsLost : Leaf → Buckets → ℕ → Type 0
IsLost leaf b s = IsLostBy (said_in leaf s) b

-- ---- runs

-- so many sectors further
abbrev pub moved : ReadFrom → ℕ → ReadFrom
moved Backing k = Backing
moved (Cache at dirty) k = Cache (at + k) dirty

-- each of the run's sectors is read from where the first one is, as many sectors further
abbrev pub IsRun : Leaf → Buckets → ReadRun → Type 0
IsRun leaf b r = (s : ℕ) → r.first ≤ s → s < r.first + r.count
    → IsReadFrom leaf b s (moved r.from (s - r.first))

-- runs of the sectors from one up to another, in order
abbrev pub AreRuns : Leaf → Buckets → ℕ → ℕ → List ReadRun → Type 0
AreRuns leaf b s end [] = s ≡ end
AreRuns leaf b s end (r ∷ rs) =
    (r.first ≡ s) × (0 < r.count) × IsRun leaf b r × AreRuns leaf b (s + r.count) end rs

-- the sector behind the run isn't read from where the run would go on
abbrev pub EndsThere : Leaf → Buckets → ReadRun → Type 0
EndsThere leaf b r = ¬ (IsReadFrom leaf b (r.first + r.count) (moved r.from r.count))

-- the run behind this one, if there is one, isn't where this one would go on
abbrev pub EndsBefore : ReadRun → List ReadRun → Type 0
EndsBefore r [] = Unit {0}
EndsBefore r (next ∷ rs) = next.from ≢ moved r.from r.count

-- each run is as long as it can be: no two neighbouring ones could be one
abbrev pub AreLongest : List ReadRun → Type 0
AreLongest [] = Unit {0}
AreLongest (r ∷ rs) = EndsBefore r rs × AreLongest rs

-- one of these sectors is lost
abbrev pub HasLost : Leaf → Buckets → ℕ → ℕ → Type 0
HasLost leaf b first end = (s : ℕ) × (first ≤ s) × (s < end) × IsLost leaf b s
