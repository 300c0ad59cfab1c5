-- What the writing of an opening's entry leaves.
use Rattle.std.specs.Prelude.{◌≡◌, ℕ, ◌<◌, ◌≤◌, List, None, Some}
use Rattle.bc_model.specs.Sector.{Image, values_of}
use Rattle.bc_disk.specs.Device.{next_count}
use Rattle.bc_disk.specs.Disk.{DiskFacts}
use Rattle.bc_disk.specs.declared.geometry.Geometry.{Geometry}
use Rattle.bc_entries.specs.Journal.{HasJournal, Journal as Read}
use Rattle.bc_journal.specs.Journal.{Journal}
use Rattle.bc_journal.specs.Sealed.{AreBytesOf, Sealed, heads_of, numbers_of, sector_at}
use Rattle.bc_super.specs.Writing.{IsStored, count_after}
use Rattle.bc_image.specs.Pair.{Pair}
use Rattle.bc_image.specs.Reading.{IsView, View}
use Rattle.bc_image.specs.Sound.{HasSoundParts}
use Rattle.bc_enter.specs.Begun.{IsBegun}
use Rattle.bc_enter.specs.Next.{IsNext, IsOdd}
use Rattle.bc_enter.specs.declared.next.Next.{Next}
use Rattle.bc_entered.specs.Entry.{NoTornEntry}
use Rattle.bc_entered.specs.Laws.{IsSameImage, ShowsTheSame}
use Rattle.bc_entered.specs.declared.write.EnterError.{EnterError}
use Rattle.bc_entered.specs.declared.write.EnterError.TheVariants as errors

-- The entry stands on the device, and a crash leaves just what that holds; three calls were made,
-- and none failed. The journal has it as its newest durable one.
pub record HasEntered (g : Geometry) (read : Read) (old new : DiskFacts) (journal : Journal)
    : Type 0 where
  pub next : Next
  pub begun : IsBegun g read next
  pub bytes : List ℕ
  pub are : AreBytesOf g next.sealed.entry bytes
  pub stored : IsStored (sector_at g next.sealed.place) (values_of bytes) old new
  pub calls : new.calls ≡ count_after 3 old.calls
  pub faults : new.faults ≡ old.faults
  pub goes_on : journal ≡ record next.journal {
    durable = numbers_of next.sealed.entry;
    heads = heads_of next.sealed.entry;
    sealed = None;
  }

-- Why it isn't written: one of at most three calls failed, or none was made.
abbrev pub IsEnterCause : {C : Type 0} → (C → DiskFacts) → Read → C → C → EnterError → Type 0
IsEnterCause facts read old new errors.Fault =
    ((k : ℕ) × (0 < k) × (k ≤ 3) × ((facts new).calls ≡ count_after k (facts old).calls))
    × ((facts new).faults ≡ next_count (facts old).faults)
IsEnterCause facts read old new errors.Memory = new ≡ old
IsEnterCause facts read old new errors.Odd = IsOdd read × (new ≡ old)

-- the premise: no part of the entry that comes next is read as a whole one by chance
abbrev pub TearsNone : Geometry → Image → Read → Type 0
TearsNone g image read = (s : Sealed) (bytes : List ℕ) → IsNext g read s → AreBytesOf g s.entry bytes
    → NoTornEntry g image s.place.bucket (sector_at g s.place) s.entry (values_of bytes)

-- the pair that is held, and a crash would leave its cache device so
pub record IsHeldStill (p : Pair) (d : DiskFacts) : Type 0 where
  pub holds : d.holds ≡ Some p.cache
  pub still : (image : Image) → d.may_leave image → IsSameImage p.cache image

-- what was read is what the pair's cache device has
pub record WasRead (p : Pair) (v : View) (read : Read) : Type 0 where
  pub journal : HasJournal v.geometry p.cache read
  pub entries : read.entries ≡ v.reading.entries

-- Wherever the device stops, the pair that is left is sound and shows what it showed.
abbrev pub KeepsThePair : Geometry → Read → DiskFacts → DiskFacts → Type 0
KeepsThePair g read old new = (p : Pair) (v : View) → IsHeldStill p old → IsView p v
    → HasSoundParts p v → v.geometry ≡ g → WasRead p v read → TearsNone g p.cache read
    → (image : Image) → new.may_leave image → ShowsTheSame p v (record p { cache = image })
