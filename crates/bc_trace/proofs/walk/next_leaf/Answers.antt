use Rattle.std.proofs.Common.{[]}
use Rattle.bc_leaf_walk.specs.bc_machine.World.{cache_among}
use Rattle.bc_trace.proofs.Going.{before_done, gone_done, none_done, ok_after, stopped_after, stopped_here}
use Rattle.bc_trace.proofs.Leafing.{missed_it}
use Rattle.bc_trace.specs.declared.error.TraceError.TheVariants as error
use Rattle.bc_trace.proofs.walk.next_leaf.Goals as goal

pub next_in-requires-clause-before : goal.next_in-requires-clause-before
next_in-requires-clause-before g c = before_done g.C.Disk.facts g.B.Disk.facts c.args.before []
    c.args.seat.now c.promise.new.seat c.promise.ensures.done c.requires.before

pub returns-clause-ok : goal.returns-clause-ok
returns-clause-ok g c = ok_after g.C.Disk.facts g.B.Disk.facts c.next_in.result c.args.seat.now
    c.promise.new.seat c.next_in.new.seat c.next_in.new.seat
    (gone_done g.C.Disk.facts g.B.Disk.facts c.args.seat.now c.promise.new.seat
    c.promise.ensures.done)
    (none_done g.C.Disk.facts g.B.Disk.facts c.next_in.new.seat c.next_in.ensures.works.seat)
    c.next_in.ensures.ok

pub returns-clause-err : goal.returns-clause-err
returns-clause-err g c = stopped_after g.C.Disk.facts g.B.Disk.facts
    (cache_among g.C.Disk.facts g.B.Disk.facts c.args.parts.now.run.start).sectors c.next_in.result
    c.args.seat.now c.promise.new.seat c.next_in.new.seat c.next_in.new.seat
    (gone_done g.C.Disk.facts g.B.Disk.facts c.args.seat.now c.promise.new.seat
    c.promise.ensures.done)
    (none_done g.C.Disk.facts g.B.Disk.facts c.next_in.new.seat c.next_in.ensures.works.seat)
    c.next_in.ensures.err

pub returns-in_default-clause-err : goal.returns-in_default-clause-err
returns-in_default-clause-err g c = stopped_here g.C.Disk.facts g.B.Disk.facts
    (cache_among g.C.Disk.facts g.B.Disk.facts c.args.parts.now.run.start).sectors
    (error.Step c.missed.result) c.args.seat.now c.promise.new.seat c.promise.ensures.works.seat (
      missed_it g.C.Disk.facts g.B.Disk.facts c.missed.result c.promise.new.seat
          c.missed.ensures,
      gone_done g.C.Disk.facts g.B.Disk.facts c.args.seat.now c.promise.new.seat
          c.promise.ensures.done,
    )
