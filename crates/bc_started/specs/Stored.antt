-- What the entry of an opening leaves of the cache device.
use Rattle.std.specs.Prelude.{◌≡◌, ℕ, List}
use Rattle.bc_cached.specs.declared.run.Ready.{Ready}
use Rattle.bc_disk.specs.Disk.{DiskFacts}
use Rattle.bc_disk.specs.declared.geometry.Geometry.{Geometry}
use Rattle.bc_entries.specs.Journal.{Journal as Read}
use Rattle.bc_entry.specs.bc_hand.Seats.{View, world}
use Rattle.bc_journal.specs.Sealed.{AreBytesOf, Sealed, sector_at}
use Rattle.bc_entry.specs.bc_machine.World.{IsCache}
use Rattle.bc_entry.specs.bc_machine.declared.part.CorePart.{CorePart}
use Rattle.bc_model.specs.Sector.{values_of}
use Rattle.bc_parts.specs.Seat.{PartsView}
use Rattle.bc_super.specs.Writing.{IsStored, count_after}
use Rattle.bc_started.specs.Start.{HasStarted}

-- It stands there, and a crash leaves just what the device holds. Three calls were made, and none
-- failed.
pub record HasEntry (g : Geometry) (s : Sealed) (old new : DiskFacts) : Type 0 where
  pub bytes : List ℕ
  pub are : AreBytesOf g s.entry bytes
  pub stored : IsStored (sector_at g s.place) (values_of bytes) old new
  pub calls : new.calls ≡ count_after 3 old.calls
  pub faults : new.faults ≡ old.faults

-- So it is of the device as a run leaves it that was started.
abbrev pub LawStored : {C B : Type 0} → (C → DiskFacts) → (B → DiskFacts) → Type 0
LawStored {C} {B} cache_facts backing_facts =
    (g : Geometry) (read : Read) (ready : Ready C B) (parts : PartsView (CorePart C B))
    (seat : View {C = C} {B = B} cache_facts backing_facts) (cache : C)
    → (h : HasStarted cache_facts backing_facts g read ready parts seat)
    → IsCache {C = C} {B = B} cache_facts backing_facts cache
    (world cache_facts backing_facts seat)
    → HasEntry g h.next.sealed (cache_facts ready.cache) (cache_facts cache)
