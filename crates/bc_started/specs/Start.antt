-- A run that is started over a pair that was read.
use Rattle.std.specs.Prelude.{◌≡◌, ℕ, ◌+◌, ◌*◌, ◌^◌, ◌<◌, ◌≤◌, List, All, length, map}
use Rattle.bc_alloc.specs.Buckets.{AreFor}
use Rattle.bc_cached.specs.bc_begun.Begin.{Beginning, parts_of}
use Rattle.bc_cache.specs.Slots.{NodeCache}
use Rattle.bc_cached.specs.Begun.{IsMadeOf}
use Rattle.bc_cached.specs.declared.run.Ready.{Ready}
use Rattle.bc_disk.specs.Disk.{DiskFacts, IfTold, StandsFor}
use Rattle.bc_disk.specs.Stands.{settled_model}
use Rattle.bc_disk.specs.declared.geometry.Geometry.{Geometry}
use Rattle.bc_enter.specs.Begun.{IsBegun, IsUnsealed}
use Rattle.bc_enter.specs.declared.next.Next.{Next}
use Rattle.bc_entries.specs.Journal.{HasJournal, Journal as Read}
use Rattle.bc_entries.specs.Lists.{IsFit}
use Rattle.bc_entries.specs.Reading.{StandsWithin}
use Rattle.bc_entry.specs.Entry.{IsNewestEntry}
use Rattle.bc_entry.specs.Put.{IsPut}
use Rattle.bc_events.specs.declared.event.Deed.{Deed}
use Rattle.bc_entry.specs.bc_hand.Seats.{View, Works, by, empty, world}
use Rattle.bc_entry.specs.bc_machine.World.{FromEach}
use Rattle.bc_entry.specs.bc_machine.declared.part.CorePart.{CorePart}
use Rattle.bc_journal.specs.Journal.{Journal}
use Rattle.bc_parts.specs.Seat.{PartsView}
use Rattle.bc_pending.specs.Entries.{keys_in}
use Rattle.bc_pending.specs.Pieces.{ArePending}
use Rattle.bc_pending.specs.declared.numbered.Numbered.{Numbered}
use Rattle.bc_resume.specs.Resume.{IsResumed}
use Rattle.bc_cached.specs.bc_slots.Parts.{AreParts}
use Rattle.bc_spine.specs.declared.leaf.LeafRange.{LeafRange}
use Rattle.bc_started.specs.First.{HasAll}

-- So many parts have those leaves that keys of the entries wait for, read of the cache device as it
-- was.
pub record AreReplayed {C : Type 0} (facts : C → DiskFacts) (g : Geometry) (read : Read)
    (leaves : List LeafRange) (parts : List NodeCache) : Type 0 where
  pub count : ℕ
  pub some : 0 < count
  pub pending : List (List Numbered)
  pub keys : ArePending leaves (keys_in read.entries) pending
  pub was : C
  pub are : AreParts g leaves pending count (facts was) parts

-- What was read is of these devices, where they tell what they hold; a crash would leave just that
-- of them.
pub record CanStart {C B : Type 0} (cache_facts : C → DiskFacts) (backing_facts : B → DiskFacts)
    (g : Geometry) (read : Read) (ready : Ready C B) : Type 0 where
  pub fit : IsFit g read.all read.entries
  pub places : All (StandsWithin g) read.all
  pub held : IfTold (cache_facts ready.cache).holds (λ image.
      IfTold (backing_facts ready.backing.disk).holds (λ other. HasJournal g image read))
  pub journal : IsResumed g read ready.journal
  pub leaves : AreReplayed cache_facts g read ready.tree.leaves ready.leaves.items
  pub lists : AreFor ready.reserves ready.buckets
  pub few : 6 + length ready.leaves.items < 2 ^ 32
  pub division : g.bucket * g.nbuckets ≤ (cache_facts ready.cache).sectors
  pub cache : StandsFor (cache_facts ready.cache) (settled_model (cache_facts ready.cache))
  pub backing : StandsFor (backing_facts ready.backing.disk)
      (settled_model (backing_facts ready.backing.disk))
  pub inside : ready.backing.offset + ready.backing.size
      ≤ (backing_facts ready.backing.disk).sectors

-- The run began with just what was ready. Its one seat put the entry that comes next behind those
-- that were read, and that is all that happened. The seat has all numbers and nothing in hand.
pub record HasStarted {C B : Type 0} (cache_facts : C → DiskFacts)
    (backing_facts : B → DiskFacts) (g : Geometry) (read : Read) (ready : Ready C B)
    (parts : PartsView (CorePart C B)) (seat : View cache_facts backing_facts) : Type 0 where
  pub beginning : Beginning C B
  pub made : IsMadeOf ready beginning
  pub start : parts.run.start ≡ parts_of ready.tree beginning
  pub seats : parts.seats ≡ 320
  pub unsealed : Journal
  pub is_unsealed : IsUnsealed g read unsealed
  pub next : Next
  pub begun : IsBegun g read next
  pub deeds : List Deed
  pub put : IsPut unsealed next.sealed deeds
  pub seen : seat.seen ≡ map (by 0) deeds
  -- from each opening that entry is the newest durable one
  pub newest : FromEach (world cache_facts backing_facts seat) (IsNewestEntry g next.sealed.entry)
  pub all : HasAll cache_facts backing_facts seat
  pub works : Works cache_facts backing_facts parts seat empty
