use Rattle.std.proofs.Common.{[], ◌∷◌, Some, inl, inr, refl, sym, ◌∙◌, subst}
use Rattle.std.specs.Prelude.{None}
use Rattle.bc_started.specs.bc_deed.Asked.{HasFailed}
use Rattle.bc_started.proofs.of_bc_deed.Sequence.{done_then}
use Rattle.bc_disk.specs.declared.disk.Device.TheVariants.{Backing}
use Rattle.bc_events.specs.declared.event.Deed.TheVariants as deed
use Rattle.bc_events.specs.declared.event.Failure.TheVariants as failure
use Rattle.bc_started.specs.bc_hand.declared.error.StepError.{StepError}
use Rattle.bc_session.proofs.closing.last_barrier.Goals as goal

pub returns-in-None-clause-made : goal.returns-in-None-clause-made
returns-in-None-clause-made g c = record {
  deeds = deed.BackingBarrier ∷ [];
  done = done_then g.C.Disk.facts g.B.Disk.facts [] (Some deed.BackingBarrier) c.args.seat.now
      c.promise.new.seat c.backing_barrier.new.seat c.in-Ok.ensures.done
      c.in-Ok-backing_barrier.ensures.ok;
  is = (
    refl,
    sym c.in-Ok-backing_barrier.ensures.ok.is.heard ∙ sym c.heard.ensures.heard
        ∙ c.in-None.is,
  );
}

pub returns-in-Ok-backing_barrier-clause-made : goal.returns-in-Ok-backing_barrier-clause-made
returns-in-Ok-backing_barrier-clause-made g c = record {
  deeds = deed.BackingBarrier ∷ [];
  done = done_then g.C.Disk.facts g.B.Disk.facts [] (Some deed.BackingBarrier) c.args.seat.now
      c.promise.new.seat c.backing_barrier.new.seat c.in-Ok.ensures.done
      c.in-Ok-backing_barrier.ensures.ok;
  is = (
    inr refl,
    sym c.in-Ok-backing_barrier.ensures.ok.is.heard ∙ sym c.heard.ensures.heard
        ∙ c.in-Some.is,
  );
}

pub returns-in-Err-Fault-clause-made : goal.returns-in-Err-Fault-clause-made
returns-in-Err-Fault-clause-made g c =
    let why = subst (λ (e : StepError). HasFailed g.C.Disk.facts g.B.Disk.facts e
    (deed.DeviceFault (failure.Barrier Backing)) c.promise.new.seat c.backing_barrier.new.seat)
    c.in-Err-Fault.field-0-is c.in-Err-Fault.ensures.err in
    record {
      deeds = deed.DeviceFault (failure.Barrier Backing) ∷ [];
      done = done_then g.C.Disk.facts g.B.Disk.facts []
          (Some (deed.DeviceFault (failure.Barrier Backing))) c.args.seat.now c.promise.new.seat
          c.backing_barrier.new.seat c.in-Ok.ensures.done why.1;
      is = refl;
    }

pub returns-in-Err-Halted-clause-made : goal.returns-in-Err-Halted-clause-made
returns-in-Err-Halted-clause-made g c =
    let why = subst (λ (e : StepError). HasFailed g.C.Disk.facts g.B.Disk.facts e
    (deed.DeviceFault (failure.Barrier Backing)) c.promise.new.seat c.backing_barrier.new.seat)
    c.in-Err-Halted.field-0-is c.in-Err-Halted.ensures.err in
    record {
      deeds = [];
      done = done_then g.C.Disk.facts g.B.Disk.facts [] None c.args.seat.now c.promise.new.seat
          c.backing_barrier.new.seat c.in-Ok.ensures.done why.1;
      is = (inl refl, why.0);
    }
