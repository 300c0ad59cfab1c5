use Rattle.bc_cached_serve.proofs.Flushing.{begun_err, begun_ok}
use Rattle.bc_cached_serve.proofs.flush.begin.Goals as goal

pub returns-clause-ok : goal.returns-clause-ok
returns-clause-ok g c = begun_ok g.C.Disk.facts g.B.Disk.facts c.flush_from.result c.args.of
    c.args.seat.now c.promise.new.seat c.flush_from.new.seat c.promise.ensures.done
    c.promise.ensures.works.seat c.flush_from.ensures.ok

pub returns-clause-err : goal.returns-clause-err
returns-clause-err g c = begun_err g.C.Disk.facts g.B.Disk.facts c.flush_from.result c.args.of
    c.args.seat.now c.promise.new.seat c.flush_from.new.seat c.promise.ensures.done
    c.flush_from.ensures.err c.flush_from.ensures.cause
