-- The entries of a cache device, as an image of it has them in its journal buckets, and as the kernel's `journal.c` reads them.
use Rattle.std.specs.Prelude.{◌≡◌, ◌⊎◌, ℕ, zero, suc, ◌+◌, ◌*◌, ◌<◌, ◌≤◌, ◌==◌, List, [], ◌∷◌, ◌++◌, length, slice_index_or, All, Option, Some, None}
use Rattle.std.specs.List.{find}
use Rattle.bc_model.specs.Sector.{Image}
use Rattle.bc_disk.specs.declared.geometry.Geometry.{Geometry}
use Rattle.bc_record.specs.Kind.{AreFound}
use Rattle.bc_record.specs.Places.{placed}
use Rattle.bc_record.specs.declared.placed.Placed.{Placed}
use Rattle.bc_jset.specs.declared.entry.JEntry.{JEntry}
use Rattle.bc_jset.specs.Records.{entry_kind, entry_sectors, EntryFound}

-- an entry and the sector at which it was found
abbrev pub FoundEntry : Type 0
FoundEntry = Placed JEntry

-- the first sector of a journal bucket, and the one behind its last
abbrev pub bucket_start : Geometry → ℕ → ℕ
bucket_start g i = g.bucket * (g.first_bucket + i)

abbrev pub bucket_end : Geometry → ℕ → ℕ
bucket_end g i = bucket_start g i + g.bucket

-- What is found in the first n journal buckets, in a lower bucket first. In a bucket these are the entry in its first sector and those
-- that follow, each at the first block behind the one before, up to the first place that has none.
abbrev pub StandIn : Geometry → Image → ℕ → List FoundEntry → Type 0
StandIn g image zero all = all ≡ []
StandIn g image (suc n) all =
    (before : List FoundEntry) × (here : List JEntry) × StandIn g image n before
    × AreFound (entry_kind g) image (bucket_end g n) (bucket_start g n) here × (all ≡ before ++ placed (entry_kind g) (bucket_start g n) here)

-- of the entries with a number the one in the lowest place
abbrev pub first_with : ℕ → List FoundEntry → Option FoundEntry
first_with number all = find (λ e. e.item.seq == number) all

-- the entry with the greatest number
pub record IsNewest (all : List FoundEntry) (newest : FoundEntry) : Type 0 where
  pub counts : first_with newest.item.seq all ≡ Some newest
  pub greatest : All (λ e. e.item.seq ≤ newest.item.seq) all

-- entries with the numbers from one on up to the one before the next, each number once
abbrev pub AreNumbered : List FoundEntry → ℕ → List FoundEntry → ℕ → Type 0
AreNumbered all low [] next = low ≡ next
AreNumbered all low (e ∷ es) next = (first_with low all ≡ Some e) × AreNumbered all (suc low) es next

-- The entries of a device, oldest first: the newest one, and before it those with the numbers from its `last_seq` on. There are none such
-- where no entry is found, a number is missing, or the `last_seq` is above the newest one's own number.
pub record AreEntries (g : Geometry) (image : Image) (es : List FoundEntry) : Type 0 where
  pub all : List FoundEntry
  pub stand : StandIn g image g.journal all
  pub newest : FoundEntry
  pub is_newest : IsNewest all newest
  pub reaches : newest.item.last_seq ≤ newest.item.seq
  pub numbered : AreNumbered all newest.item.last_seq es (suc newest.item.seq)

-- ---- a device without such a list

-- no entry is found
abbrev pub HasNoJournal : Geometry → Image → Type 0
HasNoJournal g image = StandIn g image g.journal []

-- an entry with the number is found, or none is
abbrev pub IsThere : List FoundEntry → ℕ → Type 0
IsThere all number = (e : FoundEntry) × (first_with number all ≡ Some e)

abbrev pub IsMissing : List FoundEntry → ℕ → Type 0
IsMissing all number = first_with number all ≡ None

-- the first gap in the numbers from one on: all numbers before it are there, each of its own is missing, and the next one is there
pub record IsGap (all : List FoundEntry) (low from to : ℕ) : Type 0 where
  pub begins : low ≤ from
  pub order : from ≤ to
  pub before : (k : ℕ) → low ≤ k → k < from → IsThere all k
  pub missing : (k : ℕ) → from ≤ k → k ≤ to → IsMissing all k
  pub behind : IsThere all (suc to)

-- the newest entry needs one that is newer than itself
pub record NeedsNewer (newest : FoundEntry) (from to : ℕ) : Type 0 where
  pub newer : newest.item.seq < newest.item.last_seq
  pub first : from ≡ newest.item.seq
  pub last : to ≡ newest.item.last_seq

-- entries are found, and they have a gap
pub record HasGap (g : Geometry) (image : Image) (from to : ℕ) : Type 0 where
  pub all : List FoundEntry
  pub stand : StandIn g image g.journal all
  pub newest : FoundEntry
  pub is_newest : IsNewest all newest
  pub gap : NeedsNewer newest from to ⊎ IsGap all newest.item.last_seq from to

-- ---- what that comes to

-- the numbers count up from the `last_seq` of the last entry to its own number
pub record CountUp (es : List FoundEntry) : Type 0 where
  pub older : List FoundEntry
  pub newest : FoundEntry
  pub parts : es ≡ older ++ newest ∷ []
  pub numbers : (k : ℕ) (d : FoundEntry) → k < length es → (slice_index_or es k d).item.seq ≡ newest.item.last_seq + k

-- the entry stands in a journal bucket, at the beginning of a block and whole
abbrev pub StandsInJournal : Geometry → Image → FoundEntry → Type 0
StandsInJournal g image e =
    (i k : ℕ) × (i < g.journal) × (e.place ≡ bucket_start g i + g.block * k) × EntryFound g image (bucket_end g i) e.place e.item
    × (e.place + entry_sectors g e.item ≤ bucket_end g i)
