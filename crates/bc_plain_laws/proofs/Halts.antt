-- The state of a plain run is halted just where its events tell of a halt.
use Rattle.std.proofs.Common.{◌≡◌, ℕ, Bool, true, false, List, [], ◌∷◌, Option, Some, None, refl, ◌∙◌}
use Rattle.std.specs.Prelude.{fold, is_some}
use Rattle.bc_model.specs.Sector.{Value}
use Rattle.bc_model.specs.Pattern.{zeros}
use Rattle.bc_disk.specs.Device.{quiet}
use Rattle.bc_disk.specs.declared.disk.Device.{Device}
use Rattle.bc_whole.specs.State as whole
use Rattle.bc_known.specs.Acts.{Act, FailCache}
use Rattle.bc_known.specs.Acts as known
use Rattle.bc_events.specs.Writes.{map_some, with_beginning, write_of}
use Rattle.bc_events.specs.Run as core
use Rattle.bc_events.specs.Run.{IsSome, CanDo, AreAlone, acts_or_none}
use Rattle.bc_events.specs.Columns.{halt_by, first_halt, halt_after}
use Rattle.bc_events.specs.declared.event.Written.{Written}
use Rattle.bc_events.specs.declared.event.Written.TheVariants as written
use Rattle.bc_events.specs.declared.event.Failure.TheVariants as failure
use Rattle.bc_events.specs.declared.event.Deed.{Deed}
use Rattle.bc_events.specs.declared.event.Deed.TheVariants as deed
use Rattle.bc_events.specs.declared.event.Event.{Event}
use Rattle.bc_hand.specs.bc_machine.Frame.{Halts, stays_event}
use Rattle.bc_hand.specs.bc_machine.World.{Side, World}

told_some : (h : Option Device) (d : Device) → true ≡ is_some (first_halt h (Some d))
told_some None d = refl
told_some (Some x) d = refl

told_none : (h : Option Device) → is_some h ≡ is_some (first_halt h None)
told_none None = refl
told_none (Some x) = refl

-- no such call is made in a plain run
no_cache : (st : known.State) (what : Written) (x : whole.Write) (values : List Value)
    → AreAlone (with_beginning st what (FailCache x values ∷ [])) → ⊥
no_cache st (written.Parent inner change) x values alone = alone.0
no_cache st what x values alone = alone.0

abbrev no_side : Side
no_side = record { sectors = 0; told = true; calls = 0; faults = 0 }

module _ (w : core.Opening) (st : core.State) (plain : w.machine.flow.plain ≡ true) where
  abbrev halted : Bool
  halted = st.machine.whole.flow.halted

  abbrev halted_behind : Event → Bool
  halted_behind e = (core.after w st e).machine.whole.flow.halted

  abbrev some_world : World
  some_world = record {
    opening = w;
    now = st;
    offset = 0;
    ahead = λ s. zeros;
    cache = no_side;
    backing = no_side;
    held = quiet (λ s. zeros);
    begun = record { spine = None; buckets = None; journal = None; leaves = []; leaf_parts = 0 };
    log = [];
  }

  -- what halts nothing
  mild : (e : Event) (h : Option Device) → halted ≡ is_some h → is_some (halt_by e.deed) ≡ false
      → halted_behind e ≡ is_some (first_halt h None)
  mild e h is off = stays_event Halts some_world e off ∙ is ∙ told_none h

  no_failure : (e : Event) (what : Written) (values : List Value) (o : Option whole.Write)
      {A : Type 0}
      → IsSome (map_some (λ x. with_beginning st.machine what (FailCache x values ∷ [])) o)
      (CanDo w st e) → A
  no_failure e what values None on = absurd on
  no_failure e what values (Some x) on = absurd (no_cache st.machine what x values (on.plain plain))

  one : (i : ℕ) (d : Deed) (h : Option Device) → halted ≡ is_some h
      → core.IsEnabled w st (record { seat = i; deed = d })
      → halted_behind (record { seat = i; deed = d }) ≡ is_some (first_halt h (halt_by d))
  one i (deed.DeviceFault (failure.Read device)) h is on =
      mild (record { seat = i; deed = deed.DeviceFault (failure.Read device) }) h is refl
  one i (deed.DeviceFault (failure.Barrier device)) h is on = told_some h device
  one i (deed.DeviceFault (failure.CacheWrite at what values)) h is on =
      no_failure (record { seat = i; deed = deed.DeviceFault (failure.CacheWrite at what values) })
      what values (write_of w.machine st.machine what at values) on
  one i (deed.DeviceFault (failure.BackingWrite first of values)) h is on = told_some h _
  one i d h is on = mild (record { seat = i; deed = d }) h is refl

pub halted_run : (w : core.Opening) (st : core.State) (es : List Event) (h : Option Device)
    → w.machine.flow.plain ≡ true → st.machine.whole.flow.halted ≡ is_some h → core.IsRun w st es
    → (core.run w st es).machine.whole.flow.halted ≡ is_some (fold halt_after h es)
halted_run w st [] h plain is on = is
halted_run w st (e ∷ es) h plain is on = halted_run w (core.after w st e) es (halt_after h e) plain
    (one w st plain e.seat e.deed h is on.0) on.1
