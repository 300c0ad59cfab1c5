-- What of an event can be read off its deed alone, a column each: the entry that it puts into the
-- history, the call of a device that it is, the halt that it makes, and whether one keeps it out.
use Rattle.std.specs.Prelude.{◌≡◌, ℕ, Bool, true, false, List, [], ◌∷◌, ◌++◌, Option, Some, None, option_to_list, fold, Result, Ok, Err}
use Rattle.bc_model.specs.declared.history.Entry.{Entry}
use Rattle.bc_model.specs.declared.history.Entry.TheVariants as entry
use Rattle.bc_disk.specs.declared.disk.Device.{Device}
use Rattle.bc_disk.specs.declared.disk.Device.TheVariants.{Cache, Backing}
use Rattle.bc_events.specs.declared.event.LineNumber.{LineNumber}
use Rattle.bc_events.specs.declared.event.UnpinKind.TheVariants as unpin
use Rattle.bc_events.specs.declared.event.Failure.{Failure}
use Rattle.bc_events.specs.declared.event.Failure.TheVariants as failure
use Rattle.bc_events.specs.declared.event.Deed.{Deed}
use Rattle.bc_events.specs.declared.event.Deed.TheVariants as deed
use Rattle.bc_events.specs.declared.event.Event.{Event}

-- ---- the history

-- the entry of a failed call
abbrev pub tried_by : Failure → Option Entry
tried_by (failure.BackingWrite first (Some of) values) = Some (entry.Tried first values)
tried_by x = None

-- the entry that a deed puts into the history
abbrev pub entry_by : Deed → Option Entry
entry_by (deed.BackingWrite first (Some of) values) =
    Some (entry.Write of.worker of.line first values)
entry_by (deed.InsertWrite leaf keys of first values) =
    Some (entry.Write of.worker of.line first values)
entry_by (deed.Answer of first values) = Some (entry.Read of.worker of.line first values)
entry_by (deed.FlushFrom of) = Some (entry.FlushFrom of.worker of.line)
entry_by (deed.FlushDone of) = Some (entry.FlushDone of.worker of.line)
entry_by (deed.Durable of first count) = Some (entry.Durable of.worker of.line first count)
entry_by (deed.DeviceFault x) = tried_by x
entry_by d = None

-- the history of these events, oldest entry first
abbrev pub entries_of : List Event → List Entry
entries_of [] = []
entries_of (e ∷ es) = option_to_list (entry_by e.deed) ++ entries_of es

-- ---- calls of devices

-- a call, and whether it failed
pub record Call : Type 0 where
  pub device : Device
  pub failed : Bool

abbrev pub device_of_failure : Failure → Device
device_of_failure (failure.Read device) = device
device_of_failure (failure.Barrier device) = device
device_of_failure (failure.CacheWrite at what values) = Cache
device_of_failure (failure.BackingWrite first of values) = Backing

abbrev pub good : Device → Option Call
good device = Some (record { device = device; failed = false })

abbrev pub call_by : Deed → Option Call
call_by (deed.CacheRead at first values) = good Cache
call_by (deed.CacheWrite at what values) = good Cache
call_by deed.CacheBarrier = good Cache
call_by (deed.BackingRead first values) = good Backing
call_by (deed.BackingWrite first of values) = good Backing
call_by deed.BackingBarrier = good Backing
call_by (deed.DeviceFault x) = Some (record { device = device_of_failure x; failed = true })
call_by d = None

-- ---- a halt

-- a read that fails halts nothing
abbrev pub halt_of_failure : Failure → Option Device
halt_of_failure (failure.Read device) = None
halt_of_failure (failure.Barrier device) = Some device
halt_of_failure (failure.CacheWrite at what values) = Some Cache
halt_of_failure (failure.BackingWrite first of values) = Some Backing

abbrev pub halt_by : Deed → Option Device
halt_by (deed.DeviceFault x) = halt_of_failure x
halt_by d = None

-- the device that halted the run first
abbrev pub first_halt : Option Device → Option Device → Option Device
first_halt None new = new
first_halt (Some device) new = Some device

abbrev pub halt_after : Option Device → Event → Option Device
halt_after halted e = first_halt halted (halt_by e.deed)

abbrev pub halt_of : List Event → Option Device
halt_of es = fold halt_after None es

-- what a halt doesn't keep out: what ends a claim or a pin, and calls of devices that were under way
abbrev pub outlasts_halt : Deed → Bool
outlasts_halt deed.Release = true
outlasts_halt (deed.Unpin (unpin.Place at count)) = true
outlasts_halt (deed.Unpin (unpin.Dead candidate)) = true
outlasts_halt (deed.CacheRead at first values) = true
outlasts_halt (deed.CacheWrite at what values) = true
outlasts_halt deed.CacheBarrier = true
outlasts_halt (deed.BackingRead first values) = true
outlasts_halt (deed.BackingWrite first of values) = true
outlasts_halt deed.BackingBarrier = true
outlasts_halt (deed.DeviceFault x) = true
outlasts_halt d = false

abbrev pub verdict_by : Bool → Option Device → Result (Unit {0}) Device
verdict_by true halted = Ok tt
verdict_by false None = Ok tt
verdict_by false (Some device) = Err device

-- whether the event may follow these: after a halt only one that outlasts it does, and the halting
-- device is named
abbrev pub verdict_of : List Event → Event → Result (Unit {0}) Device
verdict_of es e = verdict_by (outlasts_halt e.deed) (halt_of es)
