use Rattle.bc_leaf_walk.specs.bc_machine.World.{cache_among}
use Rattle.bc_trace.proofs.Going.{as_waited, both_none, gone_done, ok_around, stopped_around, stopped_here}
use Rattle.bc_trace.proofs.Parting.{taken_buckets}
use Rattle.bc_trace.proofs.Leafing.{has_again, missed_it}
use Rattle.bc_trace.specs.declared.error.TraceError.TheVariants as error
use Rattle.bc_trace.proofs.trace.begin.Goals as goal

pub give_buckets-requires-clause-has : goal.give_buckets-requires-clause-has
give_buckets-requires-clause-has g c = has_again c.promise.new.hand c.take_buckets.new.hand
    c.begin_it-done.new.hand c.take_buckets.ensures.has.0 c.take_buckets.ensures.has.1
    c.begin_it-done.ensures.has

pub returns-clause-ok : goal.returns-clause-ok
returns-clause-ok g c = ok_around g.C.Disk.facts g.B.Disk.facts c.begin_it-done.result
    c.args.seat.now c.take_buckets.new.seat c.begin_it-done.new.seat c.give_buckets.new.seat
    (both_none g.C.Disk.facts g.B.Disk.facts c.args.seat.now c.promise.new.seat
    c.take_buckets.new.seat c.promise.ensures.done
    (as_waited g.C.Disk.facts g.B.Disk.facts c.promise.new.seat c.take_buckets.new.seat
    c.take_buckets.ensures.waited))
    (as_waited g.C.Disk.facts g.B.Disk.facts c.begin_it-done.new.seat c.give_buckets.new.seat
    c.give_buckets.ensures.waited) c.begin_it-done.ensures.ok

pub returns-clause-err : goal.returns-clause-err
returns-clause-err g c = stopped_around g.C.Disk.facts g.B.Disk.facts
    (cache_among g.C.Disk.facts g.B.Disk.facts c.args.parts.now.run.start).sectors
    c.begin_it-done.result
    c.args.seat.now c.take_buckets.new.seat c.begin_it-done.new.seat c.give_buckets.new.seat
    (both_none g.C.Disk.facts g.B.Disk.facts c.args.seat.now c.promise.new.seat
    c.take_buckets.new.seat c.promise.ensures.done
    (as_waited g.C.Disk.facts g.B.Disk.facts c.promise.new.seat c.take_buckets.new.seat
    c.take_buckets.ensures.waited))
    (as_waited g.C.Disk.facts g.B.Disk.facts c.begin_it-done.new.seat c.give_buckets.new.seat
    c.give_buckets.ensures.waited) c.begin_it-done.ensures.err

pub returns-in_default-clause-err : goal.returns-in_default-clause-err
returns-in_default-clause-err g c = stopped_here g.C.Disk.facts g.B.Disk.facts
    (cache_among g.C.Disk.facts g.B.Disk.facts c.args.parts.now.run.start).sectors
    (error.Step c.missed.result) c.args.seat.now c.promise.new.seat c.promise.ensures.works.seat (
      missed_it g.C.Disk.facts g.B.Disk.facts c.missed.result c.promise.new.seat
          c.missed.ensures,
      gone_done g.C.Disk.facts g.B.Disk.facts c.args.seat.now c.promise.new.seat
          c.promise.ensures.done,
    )

pub begin_it-done-requires-clause-has : goal.begin_it-done-requires-clause-has
begin_it-done-requires-clause-has g c = taken_buckets c.promise.new.hand c.take_buckets.new.hand
    c.take_buckets.ensures.has
