use Rattle.std.proofs.Common.{refl, ◌∙◌, arith}
use Rattle.bc_disk.specs.declared.disk.Device.TheVariants.{Backing}
use Rattle.bc_events.specs.declared.event.Deed.TheVariants as deed
use Rattle.bc_events.specs.declared.event.Failure.TheVariants as failure
use Rattle.bc_deed.proofs.of_bc_hand.Knowing.{map_ok, note_committed}
use Rattle.bc_deed.proofs.Noting.{still_claimed, range_stopped, range_either}
use Rattle.bc_deed.proofs.Sequence.{begun_going, barrier_firm, stopped_first, stopped_barrier, stopped_end, flushed}
use Rattle.bc_job.proofs.Ready.{left_either, left_failed}
use Rattle.bc_job.proofs.flush.flush_line.Goals as goal

pub returns-in-Err-clause-claim : goal.returns-in-Err-clause-claim
returns-in-Err-clause-claim g c = still_claimed g.C.Disk.facts g.B.Disk.facts c.args.seat.now
    c.flush_from.new.seat c.requires.works.seat c.in-Err.ensures.err

pub returns-in-Err-clause-err : goal.returns-in-Err-clause-err
returns-in-Err-clause-err g c = stopped_first g.C.Disk.facts g.B.Disk.facts c.in-Err.error c.args.of
    c.args.seat.now c.flush_from.new.seat c.in-Err.ensures.cause c.in-Err.ensures.err

pub flush_done-requires-clause-going : goal.flush_done-requires-clause-going
flush_done-requires-clause-going g c =
    (barrier_firm g.C.Disk.facts g.B.Disk.facts c.flush_from.new.seat c.backing_barrier.new.seat
    c.in-Ok.ensures.ok.seat c.in-Ok-backing_barrier.ensures.ok).0
    ∙ (begun_going g.C.Disk.facts g.B.Disk.facts c.args.seat.now c.flush_from.new.seat c.args.of
    c.requires.works.seat c.in-Ok.ensures.ok).0

pub flush_done-requires-clause-its : goal.flush_done-requires-clause-its
flush_done-requires-clause-its g c =
    (barrier_firm g.C.Disk.facts g.B.Disk.facts c.flush_from.new.seat c.backing_barrier.new.seat
    c.in-Ok.ensures.ok.seat c.in-Ok-backing_barrier.ensures.ok).1
    ∙ (begun_going g.C.Disk.facts g.B.Disk.facts c.args.seat.now c.flush_from.new.seat c.args.of
    c.requires.works.seat c.in-Ok.ensures.ok).1

pub returns-clause-ok : goal.returns-clause-ok
returns-clause-ok g c = map_ok c.flush_done.result
    (flushed g.C.Disk.facts g.B.Disk.facts c.args.of c.args.seat.now c.flush_from.new.seat
    c.backing_barrier.new.seat c.flush_done.new.seat c.in-Ok.ensures.ok c.in-Ok-backing_barrier.ensures.ok)
    c.flush_done.ensures.ok

pub returns-clause-err : goal.returns-clause-err
returns-clause-err g c = stopped_end g.C.Disk.facts g.B.Disk.facts c.flush_done.result c.args.of
    c.args.seat.now c.flush_from.new.seat c.backing_barrier.new.seat c.flush_done.new.seat
    c.in-Ok.ensures.ok c.in-Ok-backing_barrier.ensures.ok c.flush_done.ensures.err c.flush_done.ensures.cause

pub returns-in-Err-backing_barrier-clause-err : goal.returns-in-Err-backing_barrier-clause-err
returns-in-Err-backing_barrier-clause-err g c = stopped_barrier g.C.Disk.facts g.B.Disk.facts
    c.in-Err-backing_barrier.error c.args.of c.args.seat.now c.flush_from.new.seat c.backing_barrier.new.seat
    c.in-Ok.ensures.ok c.in-Err-backing_barrier.ensures.err

pub returns-in-Err-backing_barrier-clause-claim : goal.returns-in-Err-backing_barrier-clause-claim
returns-in-Err-backing_barrier-clause-claim g c = range_stopped g.C.Disk.facts g.B.Disk.facts
    c.in-Err-backing_barrier.error (deed.DeviceFault (failure.Barrier Backing)) c.flush_from.new.seat
    c.backing_barrier.new.seat c.in-Ok.ensures.ok.seat (λ plain. refl) c.in-Err-backing_barrier.ensures.err
    ∙ (note_committed g.C.Disk.facts g.B.Disk.facts c.args.seat.now c.flush_from.new.seat
    (deed.FlushFrom c.args.of) c.requires.works.seat c.in-Ok.ensures.ok.is).range

pub returns-clause-claim : goal.returns-clause-claim
returns-clause-claim g c = range_either g.C.Disk.facts g.B.Disk.facts c.flush_done.result
    (deed.FlushDone c.args.of) c.backing_barrier.new.seat c.flush_done.new.seat
    c.in-Ok-backing_barrier.ensures.ok.seat (λ plain. refl) c.flush_done.ensures.ok c.flush_done.ensures.err
    ∙ (note_committed g.C.Disk.facts g.B.Disk.facts c.flush_from.new.seat c.backing_barrier.new.seat
    deed.BackingBarrier c.in-Ok.ensures.ok.seat c.in-Ok-backing_barrier.ensures.ok.is).range
    ∙ (note_committed g.C.Disk.facts g.B.Disk.facts c.args.seat.now c.flush_from.new.seat
    (deed.FlushFrom c.args.of) c.requires.works.seat c.in-Ok.ensures.ok.is).range

pub returns-in-Err-clause-left : goal.returns-in-Err-clause-left
returns-in-Err-clause-left g c = let waited = c.in-Err.ensures.err.is.promises in omega arith

pub returns-in-Err-backing_barrier-clause-left : goal.returns-in-Err-backing_barrier-clause-left
returns-in-Err-backing_barrier-clause-left g c =
    let begun = c.in-Ok.ensures.ok.is.promises in
    let failed = left_failed g.C.Disk.facts g.B.Disk.facts c.in-Err-backing_barrier.error
    (deed.DeviceFault (failure.Barrier Backing)) c.flush_from.new.seat c.backing_barrier.new.seat
    c.in-Err-backing_barrier.ensures.err in
    omega arith

pub returns-clause-left : goal.returns-clause-left
returns-clause-left g c =
    let begun = c.in-Ok.ensures.ok.is.promises in
    let firm = c.in-Ok-backing_barrier.ensures.ok.is.promises in
    let done = left_either g.C.Disk.facts g.B.Disk.facts c.flush_done.result (deed.FlushDone c.args.of)
    c.backing_barrier.new.seat c.flush_done.new.seat c.flush_done.ensures.ok c.flush_done.ensures.err in
    omega arith
