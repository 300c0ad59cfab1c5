use Rattle.std.proofs.Common.{[], ◌∷◌, None, Some, inl, inr, refl, sym, ◌∙◌, subst}
use Rattle.bc_disk.specs.declared.disk.Device.TheVariants.{Backing}
use Rattle.bc_events.specs.declared.event.Deed.TheVariants as deed
use Rattle.bc_events.specs.declared.event.Failure.TheVariants as failure
use Rattle.bc_plain_laws.specs.bc_hand.declared.error.StepError.{StepError}
use Rattle.bc_job.specs.bc_deed.Asked.{HasFailed}
use Rattle.bc_job.proofs.of_bc_deed.Sequence.{done_then}
use Rattle.bc_serve.proofs.closing.close.Goals as goal

pub returns-in-None-clause-closed : goal.returns-in-None-clause-closed
returns-in-None-clause-closed g c = (
  deed.BackingBarrier ∷ [],
  done_then g.C.Disk.facts g.B.Disk.facts [] (Some deed.BackingBarrier) c.args.seat.now c.promise.new.seat
      c.backing_barrier.new.seat c.in-Ok.ensures.done c.in-Ok-backing_barrier.ensures.ok,
  (refl, sym c.in-Ok-backing_barrier.ensures.ok.is.heard ∙ sym c.heard.ensures.heard ∙ c.in-None.is),
)

pub returns-in-Ok-backing_barrier-clause-closed : goal.returns-in-Ok-backing_barrier-clause-closed
returns-in-Ok-backing_barrier-clause-closed g c = (
  deed.BackingBarrier ∷ [],
  done_then g.C.Disk.facts g.B.Disk.facts [] (Some deed.BackingBarrier) c.args.seat.now c.promise.new.seat
      c.backing_barrier.new.seat c.in-Ok.ensures.done c.in-Ok-backing_barrier.ensures.ok,
  (inr refl, sym c.in-Ok-backing_barrier.ensures.ok.is.heard ∙ sym c.heard.ensures.heard ∙ c.in-Some.is),
)

pub returns-in-Err-Fault-clause-closed : goal.returns-in-Err-Fault-clause-closed
returns-in-Err-Fault-clause-closed g c =
    let why = subst (λ (e : StepError). HasFailed g.C.Disk.facts g.B.Disk.facts e
    (deed.DeviceFault (failure.Barrier Backing)) c.promise.new.seat c.backing_barrier.new.seat)
    c.in-Err-Fault.field-0-is c.in-Err-Fault.ensures.err in (
      deed.DeviceFault (failure.Barrier Backing) ∷ [],
      done_then g.C.Disk.facts g.B.Disk.facts [] (Some (deed.DeviceFault (failure.Barrier Backing)))
          c.args.seat.now c.promise.new.seat c.backing_barrier.new.seat c.in-Ok.ensures.done why.1,
      (why.0, refl),
    )

pub returns-in-Err-Halted-clause-closed : goal.returns-in-Err-Halted-clause-closed
returns-in-Err-Halted-clause-closed g c =
    let why = subst (λ (e : StepError). HasFailed g.C.Disk.facts g.B.Disk.facts e
    (deed.DeviceFault (failure.Barrier Backing)) c.promise.new.seat c.backing_barrier.new.seat)
    c.in-Err-Halted.field-0-is c.in-Err-Halted.ensures.err in (
      [],
      done_then g.C.Disk.facts g.B.Disk.facts [] None
          c.args.seat.now c.promise.new.seat c.backing_barrier.new.seat c.in-Ok.ensures.done why.1,
      (inl refl, why.0),
    )
