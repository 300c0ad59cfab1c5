-- Why a step on the cache device refuses.
use Rattle.std.specs.Prelude.{◌≡◌, Some, None}
use Rattle.bc_disk.specs.Disk.{DiskFacts}
use Rattle.bc_disk.specs.declared.disk.Device.TheVariants.{Cache}
use Rattle.bc_events.specs.Columns.{halt_of}
use Rattle.bc_events.specs.declared.event.Deed.TheVariants as deed
use Rattle.bc_events.specs.declared.event.Failure.TheVariants as failure
use Rattle.bc_deed.specs.bc_hand.Seats.{View, Did}
use Rattle.bc_deed.specs.bc_hand.declared.error.StepError.{StepError}
use Rattle.bc_deed.specs.bc_hand.declared.error.StepError.TheVariants as error

module _ {C B : Type 0} (cache_facts : C → DiskFacts) (backing_facts : B → DiskFacts) where
  -- a read of the cache device that failed was committed as that, and one that came after a halt
  -- only waited
  abbrev pub HasFailedRead : StepError → View cache_facts backing_facts
      → View cache_facts backing_facts → Type 0
  HasFailedRead (error.Fault device) v w = (device ≡ Cache)
      × Did cache_facts backing_facts (Some (deed.DeviceFault (failure.Read Cache))) v w
  HasFailedRead (error.Halted device) v w =
      (halt_of w.seen ≡ Some device) × Did cache_facts backing_facts None v w
  HasFailedRead error.Memory v w = ⊥

  -- or it had no memory
  abbrev pub HasFailedReadOr : StepError → View cache_facts backing_facts
      → View cache_facts backing_facts → Type 0
  HasFailedReadOr (error.Fault device) v w = (device ≡ Cache)
      × Did cache_facts backing_facts (Some (deed.DeviceFault (failure.Read Cache))) v w
  HasFailedReadOr (error.Halted device) v w =
      (halt_of w.seen ≡ Some device) × Did cache_facts backing_facts None v w
  HasFailedReadOr error.Memory v w = Did cache_facts backing_facts None v w
