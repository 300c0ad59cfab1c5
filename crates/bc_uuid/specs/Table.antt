-- The table that stands in a bucket.
use Rattle.std.specs.Prelude.{◌≡◌, ◌⊎◌, ℕ, ◌+◌, ◌*◌, ◌<◌, List, length, slice_range, slice_index_or, Result, Ok, OnOk, OnErr}
use Rattle.bc_model.specs.Sector.{Image, values_of}
use Rattle.bc_record.specs.Sectors.{bytes_in}
use Rattle.bc_disk.specs.Device.{next_count}
use Rattle.bc_disk.specs.Disk.{DiskFacts, IsRead, IsWritten, IsFailedWrite, IsCounted}
use Rattle.bc_disk.specs.declared.disk.Failed.{Failed}
use Rattle.bc_disk.specs.declared.geometry.Geometry.{Geometry}
use Rattle.bc_uuid.specs.declared.entry.UuidEntry.{UuidEntry}
use Rattle.bc_uuid.specs.declared.error.UuidError.{UuidError}
use Rattle.bc_uuid.specs.declared.error.UuidError.TheVariants as errors
use Rattle.bc_uuid.specs.Entry.{IsEntry, IsWrittenEntry}

-- how many entries fill a bucket
abbrev pub entries_in : Geometry → ℕ
entries_in g = 4 * g.bucket

-- the bytes of entry i
abbrev pub entry_bytes : List ℕ → ℕ → List ℕ
entry_bytes bytes i = slice_range bytes (128 * i) (128 * i + 128)

-- the bytes of a bucket say this of these devices
abbrev pub HoldsEntries : List ℕ → List UuidEntry → Type 0
HoldsEntries bytes entries = (i : ℕ) → i < length entries → (d : UuidEntry) → IsEntry (entry_bytes bytes i) (slice_index_or entries i d)

abbrev pub AreWritten : List ℕ → List UuidEntry → Type 0
AreWritten bytes entries = (i : ℕ) → i < length entries → (d : UuidEntry) → IsWrittenEntry (entry_bytes bytes i) (slice_index_or entries i d)

-- the entry of a device of which only these are known
pub record IsDevice (uuid label : List ℕ) (entry : UuidEntry) : Type 0 where
  pub has_uuid : entry.uuid ≡ uuid
  pub has_label : entry.label ≡ label
  pub no_times : (entry.first_reg ≡ 0) × (entry.last_reg ≡ 0) × (entry.invalidated ≡ 0)
  pub no_flags : entry.flags ≡ 0
  pub no_sectors : entry.sectors ≡ 0

-- the disk has this table in the bucket, where it tells what it holds; else any table that fills one
pub record IsTable (g : Geometry) (d : DiskFacts) (bucket : ℕ) (entries : List UuidEntry) : Type 0 where
  pub bytes : List ℕ
  pub whole : length bytes ≡ 512 * g.bucket
  pub read : IsRead (g.bucket * bucket) (values_of bytes) d
  pub many : length entries ≡ entries_in g
  pub holds : HoldsEntries bytes entries

-- the image has this table in the bucket
pub record TableIn (g : Geometry) (image : Image) (bucket : ℕ) (entries : List UuidEntry) : Type 0 where
  pub many : length entries ≡ entries_in g
  pub holds : HoldsEntries (bytes_in image (g.bucket * bucket) g.bucket) entries

-- what a good call answers
abbrev pub good : Result (Unit {0}) Failed
good = Ok tt

-- the calls until an error: want of memory may come before the read or behind it
abbrev pub CallsUntil : UuidError → DiskFacts → DiskFacts → Type 0
CallsUntil errors.Fault old new = (new.calls ≡ next_count old.calls) × (new.faults ≡ next_count old.faults)
CallsUntil errors.Memory old new = ((new.calls ≡ old.calls) ⊎ (new.calls ≡ next_count old.calls)) × (new.faults ≡ old.faults)

-- the table's bytes were written into the bucket by one call, which may have failed
pub record WritesTable (g : Geometry) (bucket : ℕ) (entries : List UuidEntry) (answer : Result (Unit {0}) Failed) (old new : DiskFacts) : Type 0 where
  pub bytes : List ℕ
  pub whole : length bytes ≡ 512 * g.bucket
  pub holds : AreWritten bytes entries
  pub ok : OnOk answer (IsWritten (g.bucket * bucket) (values_of bytes) old new)
  pub failed : OnErr answer (IsFailedWrite (g.bucket * bucket) (values_of bytes) old new)
  pub counted : IsCounted answer old new
