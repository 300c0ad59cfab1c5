-- What a seat wrote to the places that it pinned, and which of its deeds leave that alone.
use Rattle.std.specs.Prelude.{◌≡◌, ℕ, Bool, true, false, List, Option, Some, None, if◌then◌else◌}
use Rattle.bc_model.specs.Sector.{Value, at_run}
use Rattle.bc_books.specs.Index.{within}
use Rattle.bc_books.specs.Shelves.{Own}
use Rattle.bc_data.specs.Seats.{noted}
use Rattle.bc_disk.specs.Disk.{DiskFacts}
use Rattle.bc_disk.specs.declared.disk.Device.TheVariants.{Cache}
use Rattle.bc_events.specs.Columns.{halt_of}
use Rattle.bc_events.specs.Run.{State}
use Rattle.bc_events.specs.declared.event.Deed.{Deed}
use Rattle.bc_events.specs.declared.event.Deed.TheVariants as deed
use Rattle.bc_events.specs.declared.event.Failure.TheVariants as failure
use Rattle.bc_events.specs.declared.event.UnpinKind.TheVariants as unpin
use Rattle.bc_events.specs.declared.event.Written.TheVariants as written
use Rattle.bc_fill.specs.Fresh.{IsApart}
use Rattle.bc_fill.specs.declared.fill.Placed.{Placed}
use Rattle.bc_deed.specs.bc_hand.Seats.{Did, View, world}
use Rattle.bc_deed.specs.bc_hand.declared.error.StepError.{StepError}
use Rattle.bc_deed.specs.bc_hand.declared.error.StepError.TheVariants as error
use Rattle.bc_deed.specs.bc_machine.World.{FromEach, Origin}
use Rattle.bc_shares.specs.Shares.{books_of}
use Rattle.bc_place.specs.Place.{HasBefore, IsOwn}

-- The place is the seat's own, and since it was pinned this is what the seat wrote there last.
pub record IsWrittenAt (i t : ℕ) (v : Value) (st : State) : Type 0 where
  pub own : (books_of st.machine).owner t ≡ Own i
  pub placed : (st.machine.whole.flow.seats i).placed t ≡ Some v

-- So it is with each of these.
abbrev pub HasWritten : ℕ → (ℕ → Option Value) → Origin → State → Type 0
HasWritten i known o st = (t : ℕ) (v : Value) → known t ≡ Some v → IsWrittenAt i t v st

-- what was written before, and these values now
abbrev pub with_written : ℕ → List Value → (ℕ → Option Value) → ℕ → Option Value
with_written at values known t = noted (at_run at values t) (known t)

-- what was written but for these places
abbrev pub not_in : ℕ → ℕ → (ℕ → Option Value) → ℕ → Option Value
not_in at count known t = if within at count t then None else known t

-- the two have no sector in common
abbrev pub AreApart : Placed → Placed → Origin → State → Type 0
AreApart p q o st = IsApart p q

-- ---- deeds

-- The seat that does it neither pins places nor lets them go, names none, and writes to none of them.
abbrev pub leaves_places : Deed → Bool
leaves_places (deed.Pin at count full) = false
leaves_places (deed.Unpin kind) = false
leaves_places (deed.Raise bucket) = false
leaves_places (deed.CacheWrite at written.Data values) = false
leaves_places (deed.InsertWrite leaf keys of first values) = false
leaves_places (deed.Insert leaf keys form) = false
leaves_places (deed.Candidate candidate first count at) = false
leaves_places (deed.Settle leaf candidate keys) = false
leaves_places d = true

module _ {C B : Type 0} (cache_facts : C → DiskFacts) (backing_facts : B → DiskFacts) where
  -- What the seat knew of the opening it knows still: which of its places have no sector in common,
  -- and how many buckets the core doesn't count.
  pub record KeepsOpening (v w : View cache_facts backing_facts) : Type 0 where
    pub apart : (p q : Placed) → FromEach (world cache_facts backing_facts v) (AreApart p q)
        → FromEach (world cache_facts backing_facts w) (AreApart p q)
    pub before : (n : ℕ) → FromEach (world cache_facts backing_facts v) (HasBefore n)
        → FromEach (world cache_facts backing_facts w) (HasBefore n)

  -- The seat knows no less of its places than it did.
  pub record KeepsPlaces (v w : View cache_facts backing_facts) : Type 0 where
    pub opening : KeepsOpening v w
    pub own : (p : Placed) → FromEach (world cache_facts backing_facts v) (IsOwn v.first p)
        → FromEach (world cache_facts backing_facts w) (IsOwn w.first p)
    pub written : (known : ℕ → Option Value)
        → FromEach (world cache_facts backing_facts v) (HasWritten v.first known)
        → FromEach (world cache_facts backing_facts w) (HasWritten w.first known)

  -- The place has no sector of any that was the seat's before.
  abbrev pub IsNew : Placed → View cache_facts backing_facts → View cache_facts backing_facts
      → Type 0
  IsNew place v w = (p : Placed) → FromEach (world cache_facts backing_facts v) (IsOwn v.first p)
      → FromEach (world cache_facts backing_facts w) (AreApart place p)

  -- These values were written to the places from `at` on, which the seat has beside what it had.
  pub record HasStored (at : ℕ) (values : List Value) (v w : View cache_facts backing_facts) :
      Type 0 where
    pub did : Did cache_facts backing_facts (Some (deed.CacheWrite at written.Data values)) v w
    pub opening : KeepsOpening v w
    pub own : (p : Placed) → FromEach (world cache_facts backing_facts v) (IsOwn v.first p)
        → FromEach (world cache_facts backing_facts w) (IsOwn w.first p)
    pub written : (known : ℕ → Option Value)
        → FromEach (world cache_facts backing_facts v) (HasWritten v.first known)
        → FromEach (world cache_facts backing_facts w)
        (HasWritten w.first (with_written at values known))

  -- The sectors of this place are the seat's no more. What it knows of others, it knows still.
  pub record HasUnpinned (place : Placed) (v w : View cache_facts backing_facts) : Type 0 where
    pub did : Did cache_facts backing_facts
        (Some (deed.Unpin (unpin.Place place.ptr.offset place.count))) v w
    pub opening : KeepsOpening v w
    pub own : (p : Placed) → FromEach (world cache_facts backing_facts v) (AreApart place p)
        → FromEach (world cache_facts backing_facts v) (IsOwn v.first p)
        → FromEach (world cache_facts backing_facts w) (IsOwn w.first p)
    pub written : (known : ℕ → Option Value)
        → FromEach (world cache_facts backing_facts v) (HasWritten v.first known)
        → FromEach (world cache_facts backing_facts w)
        (HasWritten w.first (not_in place.ptr.offset place.count known))

  -- A write of values to places that failed was committed as that, and one that came after a halt,
  -- or had no memory, only waited.
  abbrev pub HasFailedToPlace : StepError → (at : ℕ) → List Value → View cache_facts backing_facts
      → View cache_facts backing_facts → Type 0
  HasFailedToPlace (error.Fault device) at values v w = (device ≡ Cache)
      × Did cache_facts backing_facts
      (Some (deed.DeviceFault (failure.CacheWrite at written.Data values))) v w
  HasFailedToPlace (error.Halted device) at values v w =
      (halt_of w.seen ≡ Some device) × Did cache_facts backing_facts None v w
  HasFailedToPlace error.Memory at values v w = Did cache_facts backing_facts None v w
