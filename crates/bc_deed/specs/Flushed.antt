-- What a flush did, by the seat's own deeds.
use Rattle.std.specs.Prelude.{◌≡◌, ◌⊎◌, List, [], ◌∷◌, map, Some}
use Rattle.bc_disk.specs.Disk.{DiskFacts}
use Rattle.bc_disk.specs.declared.disk.Device.TheVariants.{Backing}
use Rattle.bc_seats.specs.Seats.{Went}
use Rattle.bc_events.specs.Columns.{halt_of}
use Rattle.bc_events.specs.declared.event.LineNumber.{LineNumber}
use Rattle.bc_events.specs.declared.event.Failure.TheVariants.{Barrier}
use Rattle.bc_events.specs.declared.event.Deed.{Deed}
use Rattle.bc_events.specs.declared.event.Deed.TheVariants.{FlushFrom, BackingBarrier, FlushDone, DeviceFault}
use Rattle.bc_hand.specs.Seats.{View, core, by}
use Rattle.bc_hand.specs.declared.error.StepError.{StepError}
use Rattle.bc_hand.specs.declared.error.StepError.TheVariants as error

module _ {C B : Type 0} (cache_facts : C → DiskFacts) (backing_facts : B → DiskFacts) where
  -- the run went on, and of that these deeds are the seat's own, in order
  abbrev pub HasDone : List Deed → View cache_facts backing_facts → View cache_facts backing_facts
      → Type 0
  HasDone deeds v w = Went (core cache_facts backing_facts) v (map (by v.first) deeds) w

  abbrev pub HasFlushed : LineNumber → View cache_facts backing_facts → View cache_facts backing_facts
      → Type 0
  HasFlushed of v w = HasDone (FlushFrom of ∷ BackingBarrier ∷ FlushDone of ∷ []) v w

  -- its barrier failed, or a device had halted the run before one of its steps
  abbrev pub HasStopped : StepError → LineNumber → View cache_facts backing_facts
      → View cache_facts backing_facts → Type 0
  HasStopped (error.Fault device) of v w = (device ≡ Backing)
      × HasDone (FlushFrom of ∷ DeviceFault (Barrier Backing) ∷ []) v w
  HasStopped (error.Halted device) of v w = (halt_of w.seen ≡ Some device)
      × (HasDone [] v w ⊎ (HasDone (FlushFrom of ∷ []) v w
      ⊎ HasDone (FlushFrom of ∷ BackingBarrier ∷ []) v w))
  HasStopped error.Memory of v w = ⊥
