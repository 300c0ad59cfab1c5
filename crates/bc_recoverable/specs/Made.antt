-- What the events of a run bring, as far as soundness asks it: of each event by itself, in the
-- state that it finds.
use Rattle.std.specs.Prelude.{◌≡◌, Bool, true, false, List, [], ◌∷◌}
use Rattle.bc_events.specs.Run.{machine_events}
use Rattle.bc_events.specs.declared.event.Deed.{Deed}
use Rattle.bc_events.specs.declared.event.Deed.TheVariants as deed
use Rattle.bc_events.specs.declared.event.Event.{Event}
use Rattle.bc_events.specs.declared.event.Failure.{Failure}
use Rattle.bc_events.specs.declared.event.Failure.TheVariants as failure
use Rattle.bc_events.specs.declared.event.Written.{Written}
use Rattle.bc_events.specs.declared.event.Written.TheVariants as written
use Rattle.bc_dirty_laws.specs.bc_machine.World.{Origin, replay}
use Rattle.bc_reopened.specs.bc_ranges.Made.{AreWellMade, Frame}

-- its acts bring only what is well made, behind these events, of which the last one comes first
abbrev pub IsMadeAt : Frame → Origin → List Event → Event → Type 0
IsMadeAt f o es e = AreWellMade f o.opening.machine (replay o es).machine
    (machine_events o.opening (replay o es) (e ∷ []))

-- so it is of each of them
abbrev pub AreMade : Frame → Origin → List Event → Type 0
AreMade f o [] = Unit {0}
AreMade f o (e ∷ es) = IsMadeAt f o es e × AreMade f o es

-- ---- deeds that bring nothing

-- data, a sealed entry and priorities are no keys
abbrev pub writes_keys : Written → Bool
writes_keys written.Data = false
writes_keys written.Entry = false
writes_keys (written.Priorities bucket part) = false
writes_keys what = true

abbrev pub loses_keys : Failure → Bool
loses_keys (failure.CacheWrite at what values) = writes_keys what
loses_keys x = false

-- a deed that brings keys, or seals an entry
abbrev pub brings : Deed → Bool
brings (deed.InsertWrite leaf keys of first values) = true
brings (deed.Insert leaf keys form) = true
brings (deed.Settle leaf candidate keys) = true
brings (deed.CacheWrite at what values) = writes_keys what
brings (deed.Seal last_seq bucket rest new_root chain) = true
brings (deed.DeviceFault x) = loses_keys x
brings d = false

-- What a deed brings is well made where it brings nothing.
abbrev pub LawBringsNothing : Type 0
LawBringsNothing = (f : Frame) (o : Origin) (es : List Event) (e : Event) → brings e.deed ≡ false
    → IsMadeAt f o es e
