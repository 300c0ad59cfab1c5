-- What meets the premises on an opening's entry.
use Rattle.std.specs.Prelude.{◌≡◌, ◌≢◌, ℕ, List, Option, Some, None}
use Rattle.bc_model.specs.Sector.{Value}
use Rattle.bc_disk.specs.Disk.{DiskFacts}
use Rattle.bc_disk.specs.declared.geometry.Geometry.{Geometry}
use Rattle.bc_jset.specs.declared.entry.JEntry.{JEntry}
use Rattle.bc_super.specs.declared.backing.BackingSuper.{BackingSuper}
use Rattle.bc_super.specs.declared.cache.CacheSuper.{CacheSuper}
use Rattle.bc_leaves.specs.Parts as parts
use Rattle.bc_image.specs.Formatted.{IsFormatted}
use Rattle.bc_image.specs.NewPair.{new_pair}
use Rattle.bc_image.specs.Pair.{Pair}
use Rattle.bc_image.specs.Reading.{IsView, View}
use Rattle.bc_image.specs.Sound.{HasSoundParts}
use Rattle.bc_events.specs.Run.{Opening}
use Rattle.bc_opened.specs.Opening.{IsSoundOpeningOf}
use Rattle.bc_entries.specs.Journal.{HasJournal, Journal as Read}
use Rattle.bc_journal.specs.Sealed.{AreBytesOf, Sealed}
use Rattle.bc_first_entry.specs.Entry.{FirstEntry}
use Rattle.bc_first_entry.specs.Laws.{IsReady}
use Rattle.bc_enter.specs.Entry.{IsBehind, IsInFront}
use Rattle.bc_enter.specs.Next.{IsNext}
use Rattle.bc_entered.specs.Enter.{IsHeldStill, TearsNone, WasRead}
use Rattle.bc_entered.specs.Entry.{IsEntryAt}
use Rattle.bc_entered.specs.Laws.{IsEntered, IsSameImage}

abbrev pub LawTears : Type 0
LawTears = (p : Pair) (b : BackingSuper) (c : CacheSuper) (g : Geometry) (read : Read)
    → IsFormatted p b c g → HasJournal g p.cache read → TearsNone g p.cache read

-- a machine of the pair, and an entry of these values that it is ready for, by the bucket that is
-- begun with it
pub record IsReadyFor (p : Pair) (v : View) (values : List Value) (begun : Option ℕ) : Type 0 where
  pub opening : Opening
  pub held : parts.State
  pub first : FirstEntry
  pub opened : IsSoundOpeningOf p v opening.machine held
  pub begins : first.begun ≡ begun
  pub spells : first.values ≡ values
  pub ready : IsReady opening held first

abbrev pub LawReady : Type 0
LawReady = (p : Pair) (v : View) (e : JEntry) (b at : ℕ) (values : List Value) (worker : ℕ → ℕ)
    → IsView p v → HasSoundParts p v
    → (is : IsEntryAt v.geometry p.cache v.reading e b at values)
    → (IsBehind v.geometry v.reading.entries v.reading.newest b at
    → (k : IsReadyFor p v values None) × (k.opening.worker ≡ worker))
    × (IsInFront v.geometry is.all v.reading.newest b at
    → (k : IsReadyFor p v values (Some b)) × (k.opening.worker ≡ worker))

-- ---- on the small pair that was made anew

-- a device that holds the pair's cache device, and of which a crash leaves just that
abbrev pub held : DiskFacts
held = record {
  sectors = new_pair.cache_sectors;
  holds = Some new_pair.cache;
  may_leave = λ image. IsSameImage new_pair.cache image;
  calls = 0;
  faults = 0;
}

-- what the contract of an entry's writing asks of that device, a pair and a journal
pub record IsHeld (v : View) (read : Read) : Type 0 where
  pub still : IsHeldStill new_pair held
  pub view : IsView new_pair v
  pub parts : HasSoundParts new_pair v
  pub was_read : WasRead new_pair v read
  pub tears_none : TearsNone v.geometry new_pair.cache read
  -- and there is an entry of which the last one speaks
  pub sealed : Sealed
  pub bytes : List ℕ
  pub next : IsNext v.geometry read sealed
  pub are : AreBytesOf v.geometry sealed.entry bytes

abbrev pub HasHeld : Type 0
HasHeld = (v : View) × (read : Read) × IsHeld v read

-- what the law on a crash asks of an entry at a place, and of what is left: another image
pub record IsLeftOf (v : View) (e : JEntry) (b at : ℕ) (values : List Value)
    (left : Pair) : Type 0 where
  pub view : IsView new_pair v
  pub parts : HasSoundParts new_pair v
  pub entry : IsEntryAt v.geometry new_pair.cache v.reading e b at values
  pub entered : IsEntered new_pair at values left
  pub changed : left.cache at ≢ new_pair.cache at

-- an entry behind the last one, and one at the front of another bucket
pub record HasEntered : Type 0 where
  pub v : View
  pub e : JEntry
  pub values : List Value
  pub place : ℕ
  pub left : Pair
  pub behind : IsLeftOf v e 0 place values left
  pub is_behind : IsBehind v.geometry v.reading.entries v.reading.newest 0 place
  pub front : ℕ
  pub front_left : Pair
  pub in_front : IsLeftOf v e 1 front values front_left
  pub is_in_front : IsInFront v.geometry in_front.entry.all v.reading.newest 1 front

abbrev pub HasReady : Type 0
HasReady = (v : View) × (values : List Value) × IsReadyFor new_pair v values None
    × IsReadyFor new_pair v values (Some 1)
