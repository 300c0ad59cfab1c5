use Rattle.std.proofs.Common.{sym, subst}
use Rattle.bc_flush.specs.Flushed.{HasNotEnded}
use Rattle.bc_flush.proofs.Flushing.{end_barrier, end_done, end_halted, flushed_barrier}
use Rattle.bc_flush.proofs.flush.end.Goals as goal

pub returns-in-Err-clause-err : goal.returns-in-Err-clause-err
returns-in-Err-clause-err g c = subst (λ e. HasNotEnded g.C.Disk.facts g.B.Disk.facts e
    c.args.seat.now c.backing_barrier.new.seat) (sym c.refusal.ensures)
    (end_barrier g.C.Disk.facts g.B.Disk.facts c.in-Err.error c.args.seat.now c.promise.new.seat
    c.backing_barrier.new.seat c.promise.ensures.done c.in-Err.ensures.err)

pub flush_done-requires-clause-flushed : goal.flush_done-requires-clause-flushed
flush_done-requires-clause-flushed g c = flushed_barrier g.C.Disk.facts g.B.Disk.facts
    c.args.seat.now c.promise.new.seat c.backing_barrier.new.seat c.promise.ensures.done
    c.in-Ok-backing_barrier.ensures.ok c.requires.flushed

pub returns-in-Ok-flush_done-clause-ok : goal.returns-in-Ok-flush_done-clause-ok
returns-in-Ok-flush_done-clause-ok g c = end_done g.C.Disk.facts g.B.Disk.facts c.args.of
    c.args.seat.now c.promise.new.seat c.backing_barrier.new.seat c.promise.ensures.done
    c.in-Ok-backing_barrier.ensures.ok c.flush_done.new.seat c.in-Ok-flush_done.ensures.ok

pub returns-clause-err : goal.returns-clause-err
returns-clause-err g c = subst (λ e. HasNotEnded g.C.Disk.facts g.B.Disk.facts e
    c.args.seat.now c.flush_done.new.seat) (sym c.refusal-in-Err-flush_done.ensures)
    (end_halted g.C.Disk.facts g.B.Disk.facts c.args.of c.args.seat.now c.promise.new.seat
    c.backing_barrier.new.seat c.promise.ensures.done c.in-Ok-backing_barrier.ensures.ok
    c.flush_done.new.seat c.in-Err-flush_done.error c.in-Err-flush_done.ensures.cause
    c.in-Err-flush_done.ensures.err)
