use Rattle.std.proofs.Common.{refl, ap, ◌∙◌, Some}
use Rattle.bc_flush.proofs.of_bc_deed.May.{did_nothing}
use Rattle.bc_flush.proofs.of_bc_deed.Noting.{range_either, range_stopped}
use Rattle.bc_disk.specs.declared.disk.Device.TheVariants.{Backing}
use Rattle.bc_events.specs.declared.event.Deed.TheVariants as deed
use Rattle.bc_events.specs.declared.event.Failure.TheVariants as failure
use Rattle.bc_flush.proofs.of_bc_hand.Knowing.{map_ok}
use Rattle.bc_around.proofs.Last.{last_firm, last_written}
use Rattle.bc_around.proofs.Steps.{barrier_failed, durable_stopped, forced_done, is_last, last_of, not_begun, range_firm, range_written, was_written, write_failed, written_done}
use Rattle.bc_around.proofs.under.write_claimed.Goals as goal

pub returns-in-Some-clause-err : goal.returns-in-Some-clause-err
returns-in-Some-clause-err g c = not_begun g.C.Disk.facts g.B.Disk.facts c.in-Some.device
    c.args.force c.args.of c.args.first c.args.values c.args.seat.now
    (c.in-Some.ensures.stopped c.in-Some.device refl)
    (did_nothing g.C.Disk.facts g.B.Disk.facts c.args.seat.now c.requires.works.seat)

pub returns-in-Err-clause-claim : goal.returns-in-Err-clause-claim
returns-in-Err-clause-claim g c = range_stopped g.C.Disk.facts g.B.Disk.facts c.in-Err.error
    (deed.DeviceFault (failure.BackingWrite c.args.first (Some c.args.of) c.args.values))
    c.args.seat.now c.write_bytes.new.seat c.requires.works.seat (λ plain. refl)
    c.in-Err.ensures.err

pub returns-in-Err-clause-err : goal.returns-in-Err-clause-err
returns-in-Err-clause-err g c = write_failed g.C.Disk.facts g.B.Disk.facts c.in-Err.error
    c.args.force c.args.of c.args.first c.args.values c.args.seat.now c.write_bytes.new.seat
    c.in-Err.ensures.err

pub returns-then-not-force-clause-claim : goal.returns-then-not-force-clause-claim
returns-then-not-force-clause-claim g c = range_written g.C.Disk.facts g.B.Disk.facts c.args.of
    c.args.first c.args.values c.args.seat.now c.write_bytes.new.seat c.requires.works.seat
    c.in-Ok.ensures.ok

pub returns-then-not-force-clause-ok : goal.returns-then-not-force-clause-ok
returns-then-not-force-clause-ok g c = written_done g.C.Disk.facts g.B.Disk.facts c.args.force
    c.args.of c.args.first c.args.values c.args.seat.now c.write_bytes.new.seat
    c.if-not-force.true c.in-Ok.ensures.ok

pub returns-in-Err-backing_barrier-clause-claim : goal.returns-in-Err-backing_barrier-clause-claim
returns-in-Err-backing_barrier-clause-claim g c = range_stopped g.C.Disk.facts g.B.Disk.facts
    c.in-Err-backing_barrier.error (deed.DeviceFault (failure.Barrier Backing))
    c.write_bytes.new.seat c.backing_barrier.new.seat c.write_bytes.ensures.works.seat
    (λ plain. refl) c.in-Err-backing_barrier.ensures.err
    ∙ range_written g.C.Disk.facts g.B.Disk.facts c.args.of c.args.first c.args.values
    c.args.seat.now c.write_bytes.new.seat c.requires.works.seat c.in-Ok.ensures.ok

pub returns-in-Err-backing_barrier-clause-err : goal.returns-in-Err-backing_barrier-clause-err
returns-in-Err-backing_barrier-clause-err g c = barrier_failed g.C.Disk.facts g.B.Disk.facts
    c.in-Err-backing_barrier.error c.args.force c.args.of c.args.first c.args.values
    c.args.seat.now c.write_bytes.new.seat c.backing_barrier.new.seat c.if-not-force.false
    c.in-Ok.ensures.ok c.in-Err-backing_barrier.ensures.err

pub durable-requires-clause-exclusive : goal.durable-requires-clause-exclusive
durable-requires-clause-exclusive g c = ap (λ r. r.exclusive)
    (range_firm g.C.Disk.facts g.B.Disk.facts c.args.of c.args.first c.args.values c.args.seat.now
    c.write_bytes.new.seat c.backing_barrier.new.seat c.requires.works.seat
    c.write_bytes.ensures.works.seat c.in-Ok.ensures.ok c.in-Ok-backing_barrier.ensures.ok)
    ∙ c.requires.may.exclusive

pub durable-requires-clause-wrote : goal.durable-requires-clause-wrote
durable-requires-clause-wrote g c = was_written g.C.Disk.facts g.B.Disk.facts c.args.of
    c.args.first c.args.values c.args.seat.now c.write_bytes.new.seat c.backing_barrier.new.seat
    c.requires.works.seat c.write_bytes.ensures.works.seat c.in-Ok.ensures.ok
    c.in-Ok-backing_barrier.ensures.ok

pub durable-requires-clause-last : goal.durable-requires-clause-last
durable-requires-clause-last g c = last_of _ c.args.of.line c.args.first _ _ c.len-count.ensures
    (is_last g.C.Disk.facts g.B.Disk.facts c.args.of c.args.first c.args.values c.args.seat.now
    c.write_bytes.new.seat c.backing_barrier.new.seat c.requires.works.seat
    c.write_bytes.ensures.works.seat c.in-Ok.ensures.ok c.in-Ok-backing_barrier.ensures.ok)

pub durable-requires-clause-durable : goal.durable-requires-clause-durable
durable-requires-clause-durable g c = last_firm g.C.Disk.facts g.B.Disk.facts
    c.write_bytes.new.seat c.backing_barrier.new.seat c.in-Ok-backing_barrier.ensures.ok
    (last_written g.C.Disk.facts g.B.Disk.facts c.args.seat.now c.write_bytes.new.seat
    c.args.first c.args.of c.args.values c.in-Ok.ensures.ok)

pub returns-clause-claim : goal.returns-clause-claim
returns-clause-claim g c = range_either g.C.Disk.facts g.B.Disk.facts c.durable.result
    (deed.Durable c.args.of c.args.first c.len-count.result) c.backing_barrier.new.seat
    c.durable.new.seat c.backing_barrier.ensures.works.seat (λ plain. refl) c.durable.ensures.ok
    c.durable.ensures.err
    ∙ range_firm g.C.Disk.facts g.B.Disk.facts c.args.of c.args.first c.args.values
    c.args.seat.now c.write_bytes.new.seat c.backing_barrier.new.seat c.requires.works.seat
    c.write_bytes.ensures.works.seat c.in-Ok.ensures.ok c.in-Ok-backing_barrier.ensures.ok

pub returns-clause-ok : goal.returns-clause-ok
returns-clause-ok g c = map_ok c.durable.result
    (forced_done g.C.Disk.facts g.B.Disk.facts c.args.force c.args.of c.args.first
    c.len-count.result c.args.values c.args.seat.now c.write_bytes.new.seat
    c.backing_barrier.new.seat c.durable.new.seat c.if-not-force.false c.len-count.ensures
    c.in-Ok.ensures.ok c.in-Ok-backing_barrier.ensures.ok) c.durable.ensures.ok

pub returns-clause-err : goal.returns-clause-err
returns-clause-err g c = durable_stopped g.C.Disk.facts g.B.Disk.facts c.durable.result
    c.args.force c.args.of c.args.first c.args.values c.args.seat.now c.write_bytes.new.seat
    c.backing_barrier.new.seat c.durable.new.seat c.if-not-force.false c.in-Ok.ensures.ok
    c.in-Ok-backing_barrier.ensures.ok c.durable.ensures.cause c.durable.ensures.err
