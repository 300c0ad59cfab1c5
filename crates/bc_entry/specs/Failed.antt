-- Why a step that calls the cache device refuses.
use Rattle.std.specs.Prelude.{◌≡◌, List, None, Some}
use Rattle.bc_model.specs.Sector.{Value}
use Rattle.bc_disk.specs.Disk.{DiskFacts}
use Rattle.bc_disk.specs.declared.disk.Device.TheVariants.{Cache}
use Rattle.bc_events.specs.Columns.{halt_of}
use Rattle.bc_events.specs.declared.event.Deed.{Deed}
use Rattle.bc_events.specs.declared.event.Deed.TheVariants as deed
use Rattle.bc_events.specs.declared.event.Failure.TheVariants as failure
use Rattle.bc_events.specs.declared.event.Written.TheVariants as written
use Rattle.bc_deed.specs.bc_hand.Seats.{View, Did}
use Rattle.bc_deed.specs.bc_hand.declared.error.StepError.{StepError}
use Rattle.bc_deed.specs.bc_hand.declared.error.StepError.TheVariants as error
use Rattle.bc_journal.specs.Sealed.{Sealed, sector_at}
use Rattle.bc_entry.specs.Entry.{AreValuesOf}

module _ {C B : Type 0} (cache_facts : C → DiskFacts) (backing_facts : B → DiskFacts) where
  -- a step whose own call of the cache device failed committed that, and one that came after a halt
  -- only waited
  abbrev pub HasFailedAtCache : StepError → Deed → View cache_facts backing_facts
      → View cache_facts backing_facts → Type 0
  HasFailedAtCache (error.Fault device) failed v w =
      (device ≡ Cache) × Did cache_facts backing_facts (Some failed) v w
  HasFailedAtCache (error.Halted device) failed v w =
      (halt_of w.seen ≡ Some device) × Did cache_facts backing_facts None v w
  HasFailedAtCache error.Memory failed v w = ⊥

  -- the entry was written
  abbrev pub HasWritten : Sealed → View cache_facts backing_facts
      → View cache_facts backing_facts → Type 0
  HasWritten s v w = (values : List Value) × AreValuesOf s values × Did cache_facts backing_facts
      (Some (deed.CacheWrite (sector_at s.geometry s.place) written.Entry values)) v w

  -- the write of the entry failed
  abbrev pub HasLostEntry : Sealed → View cache_facts backing_facts
      → View cache_facts backing_facts → Type 0
  HasLostEntry s v w = (values : List Value) × AreValuesOf s values × Did cache_facts backing_facts
      (Some (deed.DeviceFault
      (failure.CacheWrite (sector_at s.geometry s.place) written.Entry values))) v w

  -- A step that was to write it committed that, or only waited behind a halt.
  abbrev pub HasFailedToWrite : StepError → Sealed → View cache_facts backing_facts
      → View cache_facts backing_facts → Type 0
  HasFailedToWrite (error.Fault device) s v w = (device ≡ Cache) × HasLostEntry s v w
  HasFailedToWrite (error.Halted device) s v w =
      (halt_of w.seen ≡ Some device) × Did cache_facts backing_facts None v w
  HasFailedToWrite error.Memory s v w = ⊥
