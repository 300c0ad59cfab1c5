-- What tests know of a run over a pair that they opened, and of its one seat.
use Rattle.std.specs.Prelude.{◌≡◌, ℕ, false, List, Some, map}
use Rattle.bc_disk.specs.Disk.{DiskFacts}
use Rattle.bc_events.specs.declared.event.Deed.{Deed}
use Rattle.bc_fill.specs.declared.fill.Placed.{Placed}
use Rattle.bc_place.specs.bc_hand.Seats.{View, by, world}
use Rattle.bc_journal.specs.Journal.{Journal}
use Rattle.bc_place.specs.bc_machine.World.{FromEach, are_plain, opening}
use Rattle.bc_place.specs.bc_machine.declared.part.CorePart.{CorePart}
use Rattle.bc_parts.specs.Seat.{PartsView}
use Rattle.bc_place.specs.Place.{IsOwn}
use Rattle.bc_session.specs.bc_started.First.{HasAll}
use Rattle.bc_super.specs.Super.{IsUsable}
use Rattle.bc_super.specs.declared.backing.BackingSuper.{BackingSuper}

module _ {C B : Type 0} (cache_facts : C → DiskFacts) (backing_facts : B → DiskFacts) where
  -- the run has a cache, before whose journal so many buckets lie
  pub record IsOpened (before : ℕ) (p : PartsView (CorePart C B)) : Type 0 where
    pub cached : are_plain cache_facts backing_facts p.run.start ≡ false
    pub seats : p.seats ≡ 320
    pub journal : Journal
    pub has : (opening cache_facts backing_facts p.run.start).begun.journal ≡ Some journal
    pub first : journal.ring.geometry.first_bucket ≡ before

  -- and a backing device which may have this superblock
  abbrev pub MayHave : BackingSuper → PartsView (CorePart C B) → Type 0
  MayHave b p = IsUsable (opening cache_facts backing_facts p.run.start).backing.sectors b

  -- the seat has all numbers, so that all that has happened it did itself
  pub record IsAlone (v : View cache_facts backing_facts) : Type 0 where
    pub all : HasAll cache_facts backing_facts v
    pub deeds : List Deed
    pub seen : v.seen ≡ map (by 0) deeds

  -- each place that was the seat's is so still
  abbrev pub KeepsOwn : View cache_facts backing_facts → View cache_facts backing_facts → Type 0
  KeepsOwn v w = (p : Placed) → FromEach (world cache_facts backing_facts v) (IsOwn v.first p)
      → FromEach (world cache_facts backing_facts w) (IsOwn w.first p)
