-- Values that were put to a fresh place.
use Rattle.std.specs.Prelude.{◌⊎◌, ℕ, ◌+◌, ◌≤◌, ◌^◌, List, length, take, None}
use Rattle.bc_disk.specs.Disk.{DiskFacts}
use Rattle.bc_fill.specs.declared.fill.Placed.{Placed}
use Rattle.bc_insert.specs.bc_hand.Seats.{Did, View, world}
use Rattle.bc_insert.specs.bc_hand.declared.error.StepError.{StepError}
use Rattle.bc_insert.specs.bc_machine.World.{FromEach}
use Rattle.bc_model.specs.Sector.{Value}
use Rattle.bc_insert.specs.bc_place.Place.{HasGiven, HasHalted, HasNoBucket, IsOwn}
use Rattle.bc_insert.specs.bc_place.Written.{HasFailedToPlace, HasStored, HasUnpinned, IsNew, KeepsOpening, KeepsPlaces}
use Rattle.bc_stored.specs.declared.error.StoreError.{StoreError}
use Rattle.bc_stored.specs.declared.error.StoreError.TheVariants as error

-- the place lies before this sector, and within what a pointer can say
pub record LiesBefore (sectors : ℕ) (p : Placed) : Type 0 where
  pub device : p.ptr.offset + p.count ≤ sectors
  pub pointer : p.ptr.offset + p.count ≤ 2 ^ 43

module _ {C B : Type 0} (cache_facts : C → DiskFacts) (backing_facts : B → DiskFacts) where
  -- What a seat knows of its places that it had before, behind a place that came and went.
  pub record KeepsOwn (v w : View cache_facts backing_facts) : Type 0 where
    pub opening : KeepsOpening cache_facts backing_facts v w
    pub own : (p : Placed) → FromEach (world cache_facts backing_facts v) (IsOwn v.first p)
        → FromEach (world cache_facts backing_facts w) (IsOwn w.first p)

  -- A place was given, in the order of its events: a bucket taken for it, if none was open, the place
  -- pinned, and as many of the values as it has room for written there. It is the seat's own, and has
  -- no sector of any that was the seat's before; `HasStored` says what the seat knows of both.
  pub record HasStoredAt (before sectors : ℕ) (p : Placed) (values : List Value)
      (v w : View cache_facts backing_facts) : Type 0 where
    pub pinned : View cache_facts backing_facts
    pub given : HasGiven cache_facts backing_facts before (length values) p v pinned
    pub new : IsNew cache_facts backing_facts p v pinned
    pub keeps : KeepsPlaces cache_facts backing_facts v pinned
    pub stored : HasStored cache_facts backing_facts p.ptr.offset (take p.count values) pinned w
    pub own : FromEach (world cache_facts backing_facts w) (IsOwn w.first p)
    pub lies : LiesBefore sectors p

  -- why a pinned place wasn't written
  abbrev pub HasNotWritten : (sectors : ℕ) → StoreError → Placed → List Value
      → View cache_facts backing_facts → View cache_facts backing_facts → Type 0
  HasNotWritten sectors (error.Step cause) p values v w =
      HasFailedToPlace cache_facts backing_facts cause p.ptr.offset values v w
  HasNotWritten sectors error.NoBucket p values v w = ⊥
  HasNotWritten sectors error.Outside p values v w =
      (LiesBefore sectors p → ⊥) × Did cache_facts backing_facts None v w

  -- A place was given, and let go behind this state.
  pub record HasLetGo (before count : ℕ) (p : Placed)
      (v pinned failed w : View cache_facts backing_facts) : Type 0 where
    pub given : HasGiven cache_facts backing_facts before count p v pinned
    pub unpinned : HasUnpinned cache_facts backing_facts p failed w

  -- The write there failed, was kept out by a halt, or had no memory; and so the place was let go.
  pub record HasFailedAt (before : ℕ) (cause : StepError) (values : List Value)
      (v w : View cache_facts backing_facts) : Type 0 where
    pub place : Placed
    pub pinned : View cache_facts backing_facts
    pub failed : View cache_facts backing_facts
    pub went : HasLetGo before (length values) place v pinned failed w
    pub why : HasFailedToPlace cache_facts backing_facts cause place.ptr.offset
        (take place.count values) pinned failed

  -- The place can't be written, and was let go.
  pub record IsOutside (before sectors : ℕ) (values : List Value)
      (v w : View cache_facts backing_facts) : Type 0 where
    pub place : Placed
    pub pinned : View cache_facts backing_facts
    pub failed : View cache_facts backing_facts
    pub waited : Did cache_facts backing_facts None pinned failed
    pub went : HasLetGo before (length values) place v pinned failed w
    pub outside : LiesBefore sectors place → ⊥

  -- No place was had for a halt; or it couldn't be written. There was no place, or none that can be
  -- written.
  abbrev pub WhyNotStored : (before sectors : ℕ) → StoreError → List Value
      → View cache_facts backing_facts → View cache_facts backing_facts → Type 0
  WhyNotStored before sectors (error.Step cause) values v w =
      HasHalted cache_facts backing_facts cause v w ⊎ HasFailedAt before cause values v w
  WhyNotStored before sectors error.NoBucket values v w = Did cache_facts backing_facts None v w
      × FromEach (world cache_facts backing_facts w) HasNoBucket
  WhyNotStored before sectors error.Outside values v w = IsOutside before sectors values v w

  pub record HasNotStored (before sectors : ℕ) (e : StoreError) (values : List Value)
      (v w : View cache_facts backing_facts) : Type 0 where
    pub why : WhyNotStored before sectors e values v w
    pub keeps : KeepsOwn v w
