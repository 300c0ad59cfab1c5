-- Reading the journal from a device.
use Rattle.std.specs.Prelude.{◌≡◌, ℕ, ◌+◌, ◌*◌, ◌<◌, ◌≤◌, List, ◌++◌}
use Rattle.bc_disk.specs.Bytes.{image_of}
use Rattle.bc_disk.specs.Device.{next_count}
use Rattle.bc_disk.specs.Disk.{DiskFacts, IfTold}
use Rattle.bc_disk.specs.declared.geometry.Geometry.{Geometry}
use Rattle.bc_jset.specs.declared.entry.JEntry.{JEntry}
use Rattle.bc_jset.specs.Entries.{FoundEntry, StandIn, bucket_start, bucket_end}
use Rattle.bc_jset.specs.Records.{entry_kind, entry_sectors}
use Rattle.bc_record.specs.Kind.{AreFound}
use Rattle.bc_record.specs.Places.{placed, end_of}
use Rattle.bc_entries.specs.Journal.{Journal, HasJournal, IsRefused}
use Rattle.bc_entries.specs.declared.error.JournalError.{JournalError}
use Rattle.bc_entries.specs.declared.error.JournalError.TheVariants as errors

-- an entry ends before the end of the journal's buckets
abbrev pub EndsWithin : Geometry → FoundEntry → Type 0
EndsWithin g e = end_of (entry_kind g) e ≤ g.bucket * g.nbuckets

-- an entry begins at a block of a journal bucket, and ends in it
abbrev pub StandsWithin : Geometry → FoundEntry → Type 0
StandsWithin g e =
    (i k : ℕ) × (i < g.journal) × (e.place ≡ bucket_start g i + g.block * k)
    × (e.place + entry_sectors g e.item ≤ bucket_end g i)

-- entries that are found in the bytes of a bucket, at places from its first sector on, came behind others
abbrev pub AddsEntries : Geometry → List ℕ → ℕ → List FoundEntry → List FoundEntry → Type 0
AddsEntries g bytes start old new = (here : List JEntry) × AreFound (entry_kind g) (image_of bytes) g.bucket 0 here × (new ≡ old ++ placed (entry_kind g) start here)

-- so did those that a device, where it tells what it holds, has in a journal bucket
abbrev pub AddsOn : Geometry → DiskFacts → ℕ → List FoundEntry → List FoundEntry → Type 0
AddsOn g d i old new = IfTold d.holds (λ image. (here : List JEntry) × AreFound (entry_kind g) image (bucket_end g i) (bucket_start g i) here
    × (new ≡ old ++ placed (entry_kind g) (bucket_start g i) here))

-- what a device, where it tells what it holds, has in its first journal buckets
abbrev pub StandOn : Geometry → DiskFacts → ℕ → List FoundEntry → Type 0
StandOn g d n all = IfTold d.holds (λ image. StandIn g image n all)

-- the journal of a device that tells what it holds, and why it is refused
abbrev pub HoldsJournal : Geometry → DiskFacts → Journal → Type 0
HoldsJournal g d j = IfTold d.holds (λ image. HasJournal g image j)

abbrev pub IsCause : Geometry → DiskFacts → JournalError → Type 0
IsCause g d errors.Fault = Unit {0}
IsCause g d errors.Memory = Unit {0}
IsCause g d e = IfTold d.holds (λ image. IsRefused g image e)

-- want of memory, or a fault
abbrev pub IsWant : JournalError → Type 0
IsWant errors.Fault = Unit {0}
IsWant errors.Memory = Unit {0}
IsWant e = ⊥

-- a read failed exactly where the answer says so
abbrev pub FaultCounted : JournalError → ℕ → ℕ → Type 0
FaultCounted errors.Fault old new = new ≡ next_count old
FaultCounted e old new = new ≡ old
