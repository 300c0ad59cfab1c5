-- The deeds by which runs are read in a run with a cache.
use Rattle.std.specs.Prelude.{◌≡◌, ◌⊎◌, ℕ, Bool, true, false, List, [], ◌∷◌, ◌++◌, length, Some}
use Rattle.bc_disk.specs.Disk.{DiskFacts}
use Rattle.bc_disk.specs.declared.disk.Device.TheVariants as device
use Rattle.bc_events.specs.Columns.{halt_of}
use Rattle.bc_events.specs.declared.event.Deed.{Deed}
use Rattle.bc_events.specs.declared.event.Deed.TheVariants as deed
use Rattle.bc_events.specs.declared.event.Event.{Event}
use Rattle.bc_events.specs.declared.event.Failure.TheVariants as failure
use Rattle.bc_fetch.specs.bc_deed.Flushed.{HasDone}
use Rattle.bc_fetch.specs.bc_hand.Seats.{View}
use Rattle.bc_fetch.specs.bc_hand.declared.error.StepError.{StepError}
use Rattle.bc_fetch.specs.bc_hand.declared.error.StepError.TheVariants as error
use Rattle.bc_model.specs.Sector.{Value}
use Rattle.bc_reads.specs.declared.runs.ReadRun.{ReadRun}
use Rattle.bc_reads.specs.declared.source.ReadFrom.TheVariants.{Backing, Cache}

abbrev pub cache_fault : Deed
cache_fault = deed.DeviceFault (failure.Read device.Cache)

abbrev pub backing_fault : Deed
backing_fault = deed.DeviceFault (failure.Read device.Backing)

-- ---- one run

-- it is read from the cache device, and the backing device has its data too
abbrev pub IsClean : ReadRun → Type 0
IsClean r = (at : ℕ) × (r.from ≡ Cache at false)

-- or hasn't
abbrev pub IsDirty : ReadRun → Type 0
IsDirty r = (at : ℕ) × (r.from ≡ Cache at true)

-- What comes before a run is read from the backing device: nothing where no other has it, and one
-- failed read of the cache device where that has it too.
abbrev pub HasTurned : ReadRun → List Deed → Type 0
HasTurned r ds = ((r.from ≡ Backing) × (ds ≡ [])) ⊎ (IsClean r × (ds ≡ cache_fault ∷ []))

-- The run was read by these deeds, in one call of the device from which it is read. Clean data that
-- the cache device failed to give was read from the backing device.
abbrev pub AreRunDeeds : ReadRun → List Value → List Deed → Type 0
AreRunDeeds r values ds =
    ((at : ℕ) × (dirty : Bool) × (r.from ≡ Cache at dirty)
    × (ds ≡ deed.CacheRead at (Some r.first) values ∷ []))
    ⊎ ((before : List Deed) × HasTurned r before
    × (ds ≡ before ++ deed.BackingRead r.first values ∷ []))

-- what was done of a run that wasn't read, by the refusal
abbrev pub RunStop : StepError → ReadRun → List Deed → Type 0
RunStop (error.Fault which) r ds =
    ((which ≡ device.Cache) × IsDirty r × (ds ≡ cache_fault ∷ []))
    ⊎ ((before : List Deed) × (which ≡ device.Backing) × HasTurned r before
    × (ds ≡ before ++ backing_fault ∷ []))
RunStop (error.Halted which) r ds = (ds ≡ []) ⊎ HasTurned r ds
RunStop error.Memory r ds = (ds ≡ []) ⊎ HasTurned r ds

-- ---- runs

-- each of these runs was read, in order; the values of all stand one behind the other
abbrev pub AreRunsDeeds : List ReadRun → List Value → List Deed → Type 0
AreRunsDeeds [] values ds = (values ≡ []) × (ds ≡ [])
AreRunsDeeds (r ∷ rs) values ds = (own : List Value) × (rest : List Value)
    × (first : List Deed) × (later : List Deed) × (length own ≡ r.count)
    × (values ≡ own ++ rest) × AreRunDeeds r own first × (ds ≡ first ++ later)
    × AreRunsDeeds rs rest later

-- the first of these runs were read, and then one wasn't
pub record RunsStop (e : StepError) (runs : List ReadRun) (ds : List Deed) : Type 0 where
  pub served : List ReadRun
  pub refused : ReadRun
  pub others : List ReadRun
  pub all : runs ≡ served ++ refused ∷ others
  pub values : List Value
  pub before : List Deed
  pub last : List Deed
  pub reads : AreRunsDeeds served values before
  pub stop : RunStop e refused last
  pub deeds : ds ≡ before ++ last

-- where a halt is said, this device had halted the run by then
abbrev pub IsHaltAt : StepError → List Event → Type 0
IsHaltAt (error.Fault which) seen = Unit {0}
IsHaltAt (error.Halted which) seen = halt_of seen ≡ Some which
IsHaltAt error.Memory seen = Unit {0}

module _ {C B : Type 0} (cache_facts : C → DiskFacts) (backing_facts : B → DiskFacts) where
  -- the seat did deeds that are so
  abbrev pub HasDoneSome : (List Deed → Type 0) → View cache_facts backing_facts
      → View cache_facts backing_facts → Type 0
  HasDoneSome Are v w = (ds : List Deed) × Are ds × HasDone cache_facts backing_facts ds v w

  -- and if it was a halt that stopped it, that was one
  abbrev pub HasStoppedBy : StepError → (List Deed → Type 0) → View cache_facts backing_facts
      → View cache_facts backing_facts → Type 0
  HasStoppedBy e Are v w = IsHaltAt e w.seen × HasDoneSome Are v w
