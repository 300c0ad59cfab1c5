-- What the closing of a run does.
use Rattle.std.specs.Prelude.{◌≡◌, ◌⊎◌, List, [], ◌∷◌, Some, None}
use Rattle.bc_disk.specs.declared.disk.Device.TheVariants.{Backing}
use Rattle.bc_events.specs.Columns.{halt_of}
use Rattle.bc_events.specs.declared.event.Event.{Event}
use Rattle.bc_events.specs.declared.event.Failure.TheVariants.{Barrier}
use Rattle.bc_events.specs.declared.event.Deed.{Deed}
use Rattle.bc_events.specs.declared.event.Deed.TheVariants.{BackingBarrier, DeviceFault}
use Rattle.bc_serve.specs.declared.closing.Closing.{Closing}
use Rattle.bc_serve.specs.declared.closing.Closing.TheVariants as closing

-- the seat did this, and then the events were these
abbrev pub ClosedBy : Closing → List Deed → List Event → Type 0
ClosedBy closing.Done ds seen = (ds ≡ BackingBarrier ∷ []) × (halt_of seen ≡ None)
ClosedBy (closing.Failed device) ds seen =
    (device ≡ Backing) × (ds ≡ DeviceFault (Barrier Backing) ∷ [])
ClosedBy (closing.Halted device) ds seen =
    ((ds ≡ []) ⊎ (ds ≡ BackingBarrier ∷ [])) × (halt_of seen ≡ Some device)
ClosedBy closing.Memory ds seen = ds ≡ []
