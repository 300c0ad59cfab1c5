-- Whole entries in the journal's buckets that could be taken for live or coming ones.
use Rattle.std.specs.Prelude.{◌≡◌, ℕ, ◌+◌, ◌-◌, ◌*◌, ◌<◌, ◌≤◌, List, Option, Some, None, length, Contains, slice_index_or}
use Rattle.bc_disk.specs.declared.geometry.Geometry.{Geometry}
use Rattle.bc_entries.specs.Journal.{Journal, HasJournal}
use Rattle.bc_image.specs.Reading.{Reading}
use Rattle.bc_jset.specs.Entries.{FoundEntry, StandsInJournal, bucket_start, bucket_end}
use Rattle.bc_jset.specs.EntryBytes.{StandsAt}
use Rattle.bc_jset.specs.Records.{EntryFound}
use Rattle.bc_jset.specs.declared.entry.JEntry.{JEntry}
use Rattle.bc_model.specs.Sector.{Image}
use Rattle.bc_record.specs.Places.{bucket_at}

-- a whole entry at a block of this journal bucket isn't one of those that count, and it has the number of one that counts or is to come
pub record IsStrayIn (g : Geometry) (image : Image) (r : Reading) (bucket : ℕ) : Type 0 where
  pub entry : FoundEntry
  pub stands : StandsInJournal g image entry
  pub number : r.newest.item.last_seq ≤ entry.item.seq
  pub other : ¬ (Contains r.entries entry)
  pub lies : bucket_at g entry.place ≡ bucket

-- ---- as a reader works it out

-- of entries whose numbers count up from `low` the one with this number stands at this place
abbrev pub IsListedAt : List FoundEntry → ℕ → ℕ → ℕ → Type 0
IsListedAt es low seq place = (seq - low < length es) × ((d : FoundEntry) → (slice_index_or es (seq - low) d).place ≡ place)

-- an entry at a place isn't one of them, and its number isn't below theirs
abbrev pub IsOther : List FoundEntry → ℕ → JEntry → ℕ → Type 0
IsOther es low entry place = (low ≤ entry.seq) × ¬ (IsListedAt es low entry.seq place)

-- such a one stands at this sector of the bytes of a bucket, which begins at a sector
abbrev pub IsOtherAt : ℕ → List ℕ → List FoundEntry → ℕ → ℕ → ℕ → Type 0
IsOtherAt magic bytes es low start sector = (entry : JEntry) × StandsAt magic bytes (512 * sector) entry × IsOther es low entry (start + sector)

-- at some block of them
abbrev pub HasOther : Geometry → List ℕ → List FoundEntry → ℕ → ℕ → Type 0
HasOther g bytes es low start = (k : ℕ) × (g.block * k < g.bucket) × IsOtherAt g.set_magic bytes es low start (g.block * k)

-- at some block of a journal bucket, said of an image
abbrev pub HasOtherIn : Geometry → Image → List FoundEntry → ℕ → ℕ → Type 0
HasOtherIn g image es low i =
    (k : ℕ) × (entry : JEntry) × (g.block * k < g.bucket) × EntryFound g image (bucket_end g i) (bucket_start g i + g.block * k) entry
    × IsOther es low entry (bucket_start g i + g.block * k)

-- none of the first n journal buckets has one
abbrev pub NoneOther : Geometry → Image → List FoundEntry → ℕ → ℕ → Type 0
NoneOther g image es low n = (i : ℕ) → i < n → ¬ (HasOtherIn g image es low i)

-- the first of them that has one is this bucket, or none has one
abbrev pub TellsOther : Geometry → Image → List FoundEntry → ℕ → Option ℕ → Type 0
TellsOther g image es low None = NoneOther g image es low g.journal
TellsOther g image es low (Some bucket) = (i : ℕ) × (i < g.journal) × (bucket ≡ g.first_bucket + i) × HasOtherIn g image es low i × NoneOther g image es low i

-- so it is of the entries of a journal, by the number of the oldest one that its newest one needs
abbrev pub TellsStray : Geometry → Image → Journal → Option ℕ → Type 0
TellsStray g image j bucket = (has : HasJournal g image j) → TellsOther g image j.entries has.entries.newest.item.last_seq bucket
