use Rattle.std.proofs.Common.{refl, ap, ◌∙◌, Some}
use Rattle.bc_events.specs.declared.event.Deed.TheVariants as deed
use Rattle.bc_events.specs.declared.event.Failure.TheVariants as failure
use Rattle.bc_disk.specs.declared.disk.Device.TheVariants.{Backing}
use Rattle.bc_deed.proofs.of_bc_hand.Knowing.{map_ok}
use Rattle.bc_deed.proofs.Noting.{range_failed, range_stopped, range_either}
use Rattle.bc_job.proofs.Under.{may_write_fresh, write_failed, barrier_failed, durable_stopped, forced_done, written_done, is_last, last_of, was_written, behind_write}
use Rattle.bc_job.proofs.piece.write_under.Goals as goal

pub backing_write-requires-clause-may : goal.backing_write-requires-clause-may
backing_write-requires-clause-may g c = may_write_fresh c.args.first _ _ c.requires.fresh

pub returns-in-Err-clause-claim : goal.returns-in-Err-clause-claim
returns-in-Err-clause-claim g c = range_failed g.C.Disk.facts g.B.Disk.facts c.in-Err.error
    (deed.DeviceFault (failure.BackingWrite c.args.first (Some c.args.of) c.args.values.now)) c.args.seat.now
    c.backing_write.new.seat c.requires.works.seat (λ plain. refl) c.in-Err.ensures.err

pub returns-in-Err-clause-err : goal.returns-in-Err-clause-err
returns-in-Err-clause-err g c = write_failed g.C.Disk.facts g.B.Disk.facts c.in-Err.error c.args.force c.args.of
    c.args.first c.args.values.now c.args.seat.now c.backing_write.new.seat c.in-Err.ensures.err

pub returns-then-not-force-clause-claim : goal.returns-then-not-force-clause-claim
returns-then-not-force-clause-claim g c = behind_write g.C.Disk.facts g.B.Disk.facts c.args.of c.args.first
    c.args.values.now c.args.seat.now c.backing_write.new.seat c.requires.works.seat c.in-Ok.ensures.ok

pub returns-then-not-force-clause-ok : goal.returns-then-not-force-clause-ok
returns-then-not-force-clause-ok g c = written_done g.C.Disk.facts g.B.Disk.facts c.args.force c.args.of c.args.first
    c.args.values.now c.args.seat.now c.backing_write.new.seat c.if-not-force.true
    c.in-Ok.ensures.ok

pub returns-in-Err-backing_barrier-clause-claim : goal.returns-in-Err-backing_barrier-clause-claim
returns-in-Err-backing_barrier-clause-claim g c = range_stopped g.C.Disk.facts g.B.Disk.facts
    c.in-Err-backing_barrier.error (deed.DeviceFault (failure.Barrier Backing)) c.backing_write.new.seat
    c.backing_barrier.new.seat c.backing_write.ensures.works.seat (λ plain. refl)
    c.in-Err-backing_barrier.ensures.err
    ∙ behind_write g.C.Disk.facts g.B.Disk.facts c.args.of c.args.first c.args.values.now c.args.seat.now
    c.backing_write.new.seat c.requires.works.seat c.in-Ok.ensures.ok

pub returns-in-Err-backing_barrier-clause-err : goal.returns-in-Err-backing_barrier-clause-err
returns-in-Err-backing_barrier-clause-err g c = barrier_failed g.C.Disk.facts g.B.Disk.facts
    c.in-Err-backing_barrier.error c.args.force c.args.of c.args.first c.args.values.now c.args.seat.now
    c.backing_write.new.seat c.backing_barrier.new.seat c.if-not-force.false
    c.in-Ok.ensures.ok c.in-Err-backing_barrier.ensures.err

pub durable-requires-clause-exclusive : goal.durable-requires-clause-exclusive
durable-requires-clause-exclusive g c = ap (λ r. r.exclusive)
    ((was_written g.C.Disk.facts g.B.Disk.facts c.args.of c.args.first c.args.values.now c.args.seat.now
    c.backing_write.new.seat c.backing_barrier.new.seat c.requires.works.seat c.backing_write.ensures.works.seat
    c.in-Ok.ensures.ok c.in-Ok-backing_barrier.ensures.ok).1 ∙ c.requires.fresh.range)

pub durable-requires-clause-wrote : goal.durable-requires-clause-wrote
durable-requires-clause-wrote g c =
    (was_written g.C.Disk.facts g.B.Disk.facts c.args.of c.args.first c.args.values.now c.args.seat.now
    c.backing_write.new.seat c.backing_barrier.new.seat c.requires.works.seat c.backing_write.ensures.works.seat
    c.in-Ok.ensures.ok c.in-Ok-backing_barrier.ensures.ok).0

pub durable-requires-clause-last : goal.durable-requires-clause-last
durable-requires-clause-last g c = last_of _ c.args.of.line c.args.first _ _ c.len.ensures
    (is_last g.C.Disk.facts g.B.Disk.facts c.args.of c.args.first c.args.values.now c.args.seat.now
    c.backing_write.new.seat c.backing_barrier.new.seat c.requires.works.seat c.backing_write.ensures.works.seat
    c.in-Ok.ensures.ok c.in-Ok-backing_barrier.ensures.ok)

pub returns-clause-claim : goal.returns-clause-claim
returns-clause-claim g c = range_either g.C.Disk.facts g.B.Disk.facts c.durable.result
    (deed.Durable c.args.of c.args.first c.len.result) c.backing_barrier.new.seat c.durable.new.seat
    c.backing_barrier.ensures.works.seat (λ plain. refl) c.durable.ensures.ok c.durable.ensures.err
    ∙ (was_written g.C.Disk.facts g.B.Disk.facts c.args.of c.args.first c.args.values.now c.args.seat.now
    c.backing_write.new.seat c.backing_barrier.new.seat c.requires.works.seat c.backing_write.ensures.works.seat
    c.in-Ok.ensures.ok c.in-Ok-backing_barrier.ensures.ok).1

pub returns-clause-ok : goal.returns-clause-ok
returns-clause-ok g c = map_ok c.durable.result
    (forced_done g.C.Disk.facts g.B.Disk.facts c.args.force c.args.of c.args.first c.len.result c.args.values.now
    c.args.seat.now c.backing_write.new.seat c.backing_barrier.new.seat c.durable.new.seat
    c.if-not-force.false c.len.ensures c.in-Ok.ensures.ok c.in-Ok-backing_barrier.ensures.ok)
    c.durable.ensures.ok

pub returns-clause-err : goal.returns-clause-err
returns-clause-err g c = durable_stopped g.C.Disk.facts g.B.Disk.facts c.durable.result c.args.force c.args.of
    c.args.first c.args.values.now c.args.seat.now c.backing_write.new.seat c.backing_barrier.new.seat
    c.durable.new.seat c.if-not-force.false c.in-Ok.ensures.ok
    c.in-Ok-backing_barrier.ensures.ok c.durable.ensures.cause c.durable.ensures.err
