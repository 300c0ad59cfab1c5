use Rattle.std.proofs.Common.{None, inr}
use Rattle.bc_leaf_walk.proofs.of_bc_deed.Sequence.{done_one}
use Rattle.bc_leaf_walk.specs.bc_machine.World.{cache_among}
use Rattle.bc_trace.proofs.Ending.{can_end, gone_synced, left_over, traced}
use Rattle.bc_trace.proofs.Going.{gone_done, gone_both, gone_none, stopped_here}
use Rattle.bc_trace.proofs.Parting.{has_buckets}
use Rattle.bc_trace.proofs.Leafing.{halted_it, no_test}
use Rattle.bc_trace.specs.declared.error.TraceError.TheVariants as error
use Rattle.bc_trace.proofs.trace.end_it.Goals as goal

pub returns-in-Err-clause-err : goal.returns-in-Err-clause-err
returns-in-Err-clause-err g c = stopped_here g.C.Disk.facts g.B.Disk.facts
    (cache_among g.C.Disk.facts g.B.Disk.facts c.args.parts.now.run.start).sectors
    (error.Journal c.in-Err.error) c.args.seat.now c.settle.new.seat c.settle.ensures.works.seat
    (record {
      at = c.args.seat.now;
      before = gone_none g.C.Disk.facts g.B.Disk.facts c.args.seat.now c.requires.works.seat;
      stopped = c.in-Err.ensures.err;
    })

pub came_behind-requires : goal.came_behind-requires
came_behind-requires g c = has_buckets c.settle.new.hand c.settle.ensures.hand

pub returns-then-not-came_behind-clause-err : goal.returns-then-not-came_behind-clause-err
returns-then-not-came_behind-clause-err g c =
    let one = has_buckets c.settle.new.hand c.settle.ensures.hand in
    stopped_here g.C.Disk.facts g.B.Disk.facts
    (cache_among g.C.Disk.facts g.B.Disk.facts c.args.parts.now.run.start).sectors
    error.Moved c.args.seat.now c.settle.new.seat c.settle.ensures.works.seat (
      inr (left_over g.C.Disk.facts g.B.Disk.facts c.args.parts.now c.settle.new.seat
          c.settle.new.hand c.settle.ensures.works one.0 one.1 c.args.size c.requires.size
          (no_test c.came_behind.result _ (c.came_behind.ensures one.0 one.1)
          c.if-not-came_behind.true)),
      gone_synced g.C.Disk.facts g.B.Disk.facts c.args.seat.now c.settle.new.seat
          c.in-Ok.ensures.ok,
    )

pub end_round-requires-clause-can : goal.end_round-requires-clause-can
end_round-requires-clause-can g c =
    let one = has_buckets c.settle.new.hand c.settle.ensures.hand in
    let is = (c.came_behind.ensures one.0 one.1).0 c.if-not-came_behind.false in
    can_end g.C.Disk.facts g.B.Disk.facts c.args.parts.now c.settle.new.seat c.settle.new.hand
    c.settle.ensures.works c.in-Ok.ensures.settled one.0 one.1 c.args.size c.requires.size is.1 is.0

pub returns-in-Ok-end_round-clause-ok : goal.returns-in-Ok-end_round-clause-ok
returns-in-Ok-end_round-clause-ok g c = traced g.C.Disk.facts g.B.Disk.facts c.args.seat.now
    c.settle.new.seat c.end_round.new.seat
    (gone_synced g.C.Disk.facts g.B.Disk.facts c.args.seat.now c.settle.new.seat
    c.in-Ok.ensures.ok) c.in-Ok-end_round.ensures.ok c.settle.new.hand c.end_round.new.hand
    c.in-Ok-end_round.ensures.part

pub returns-in-Err-end_round-clause-err : goal.returns-in-Err-end_round-clause-err
returns-in-Err-end_round-clause-err g c = stopped_here g.C.Disk.facts g.B.Disk.facts
    (cache_among g.C.Disk.facts g.B.Disk.facts c.args.parts.now.run.start).sectors
    (error.Step c.in-Err-end_round.error) c.args.seat.now c.end_round.new.seat
    c.end_round.ensures.works.seat (
      halted_it g.C.Disk.facts g.B.Disk.facts c.in-Err-end_round.error c.end_round.new.seat
          c.in-Err-end_round.ensures.cause,
      gone_both g.C.Disk.facts g.B.Disk.facts c.args.seat.now c.settle.new.seat
          c.end_round.new.seat
          (gone_synced g.C.Disk.facts g.B.Disk.facts c.args.seat.now c.settle.new.seat
          c.in-Ok.ensures.ok)
          (gone_done g.C.Disk.facts g.B.Disk.facts c.settle.new.seat c.end_round.new.seat
          (done_one g.C.Disk.facts g.B.Disk.facts None c.settle.new.seat c.end_round.new.seat
          c.in-Err-end_round.ensures.err)),
    )
