-- Whatever a crash leaves of the two writes shows what the pair showed.
use Rattle.std.specs.Prelude.{◌≡◌, ◌⊎◌, ℕ, List}
use Rattle.bc_model.specs.Sector.{Image, Value, values_of}
use Rattle.bc_disk.specs.declared.geometry.Geometry.{Geometry}
use Rattle.bc_disk.specs.Disk.{Torn}
use Rattle.bc_jset.specs.declared.entry.JEntry.{JEntry}
use Rattle.bc_super.specs.Writing.{IsBackingSector}
use Rattle.bc_super.specs.declared.state.BackingState.{BackingState}
use Rattle.bc_image.specs.Pair.{Pair}
use Rattle.bc_image.specs.Reading.{IsReading, IsView, Reading, View}
use Rattle.bc_image.specs.Shown.{shown_by}
use Rattle.bc_image.specs.Sound.{HasSoundParts}
use Rattle.bc_state.specs.State.{IsCached, super_in, with_sector}
use Rattle.bc_entries.specs.Journal.{HasJournal, Journal as Read}
use Rattle.bc_journal.specs.Sealed.{AreBytesOf, Sealed, sector_at}
use Rattle.bc_enter.specs.Next.{IsNext}
use Rattle.bc_entered.specs.Entry.{IsEntryAt, NoTornEntry}

-- a sound pair, divided as the other, that shows the same
pub record ShowsTheSame (p : Pair) (v : View) (left : Pair) : Type 0 where
  pub later : View
  pub geometry : later.geometry ≡ v.geometry
  pub view : IsView left later
  pub sound : HasSoundParts left later
  pub shows : (s : ℕ) → shown_by left later s ≡ shown_by p v s

abbrev pub IsSameImage : Image → Image → Type 0
IsSameImage a b = (s : ℕ) → b s ≡ a s

-- the entry is there in part, whole or not at all
pub record IsEntered (p : Pair) (at : ℕ) (values : List Value) (left : Pair) : Type 0 where
  pub cache : Torn at values p.cache left.cache
  pub backing : IsSameImage p.backing left.backing
  pub cache_sectors : left.cache_sectors ≡ p.cache_sectors
  pub backing_sectors : left.backing_sectors ≡ p.backing_sectors

abbrev pub LawEntered : Type 0
LawEntered = (p : Pair) (v : View) (e : JEntry) (b at : ℕ) (values : List Value) → IsView p v
    → HasSoundParts p v → IsEntryAt v.geometry p.cache v.reading e b at values
    → (left : Pair) → IsEntered p at values left → ShowsTheSame p v left

-- the backing device says such a state, and else has what it had
pub record IsMarked (p : Pair) (v : View) (backing : Image) : Type 0 where
  pub state : BackingState
  pub cached : IsCached state
  pub bytes : Value
  pub sector : IsBackingSector bytes (super_in state v.backing)
  pub image : IsSameImage (with_sector p bytes).backing backing

-- and the state may be another one
pub record IsLeft (p : Pair) (v : View) (at : ℕ) (values : List Value) (left : Pair) : Type 0 where
  pub cache : Torn at values p.cache left.cache
  pub backing : IsSameImage p.backing left.backing ⊎ IsMarked p v left.backing
  pub cache_sectors : left.cache_sectors ≡ p.cache_sectors
  pub backing_sectors : left.backing_sectors ≡ p.backing_sectors

abbrev pub LawLeft : Type 0
LawLeft = (p : Pair) (v : View) (e : JEntry) (b at : ℕ) (values : List Value) → IsView p v
    → HasSoundParts p v → IsEntryAt v.geometry p.cache v.reading e b at values
    → (left : Pair) → IsLeft p v at values left → ShowsTheSame p v left

-- The entry that comes next behind the journal that was read is such an entry, and its bytes spell
-- it.
abbrev pub LawNext : Type 0
LawNext = (g : Geometry) (image : Image) (r : Reading) (read : Read) (s : Sealed) (bytes : List ℕ)
    → IsReading g image r → HasJournal g image read → read.entries ≡ r.entries
    → IsNext g read s → AreBytesOf g s.entry bytes
    → NoTornEntry g image s.place.bucket (sector_at g s.place) s.entry (values_of bytes)
    → IsEntryAt g image r s.entry s.place.bucket (sector_at g s.place) (values_of bytes)
