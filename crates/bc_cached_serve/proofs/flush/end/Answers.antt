use Rattle.bc_flush.proofs.Flushing.{flushed_barrier}
use Rattle.bc_cached_serve.proofs.Flushing.{ended_err, ended_ok, not_ended_barrier}
use Rattle.bc_cached_serve.proofs.flush.end.Goals as goal

pub returns-in-Err-clause-err : goal.returns-in-Err-clause-err
returns-in-Err-clause-err g c = not_ended_barrier g.C.Disk.facts g.B.Disk.facts c.in-Err.error
    c.args.seat.now c.promise.new.seat c.backing_barrier.new.seat c.promise.ensures.done
    c.in-Err.ensures.err

pub flush_done-requires-clause-flushed : goal.flush_done-requires-clause-flushed
flush_done-requires-clause-flushed g c = flushed_barrier g.C.Disk.facts g.B.Disk.facts
    c.args.seat.now c.promise.new.seat c.backing_barrier.new.seat c.promise.ensures.done
    c.in-Ok-backing_barrier.ensures.ok c.requires.flushed

pub returns-clause-ok : goal.returns-clause-ok
returns-clause-ok g c = ended_ok g.C.Disk.facts g.B.Disk.facts c.args.of c.args.seat.now
    c.promise.new.seat c.backing_barrier.new.seat c.flush_done.new.seat c.promise.ensures.done
    c.in-Ok-backing_barrier.ensures.ok c.flush_done.result c.flush_done.ensures.ok

pub returns-clause-err : goal.returns-clause-err
returns-clause-err g c = ended_err g.C.Disk.facts g.B.Disk.facts c.args.of c.args.seat.now
    c.promise.new.seat c.backing_barrier.new.seat c.flush_done.new.seat c.promise.ensures.done
    c.in-Ok-backing_barrier.ensures.ok c.flush_done.result c.flush_done.ensures.err
    c.flush_done.ensures.cause
