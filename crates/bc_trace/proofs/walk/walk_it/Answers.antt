use Rattle.std.proofs.Common.{None, inl, refl}
use Rattle.bc_events.specs.declared.event.Deed.TheVariants as deed
use Rattle.bc_events.specs.declared.event.MarkForm.TheVariants as mark
use Rattle.bc_leaf_walk.proofs.of_bc_deed.Sequence.{done_one}
use Rattle.bc_leaf_walk.specs.bc_machine.World.{cache_among}
use Rattle.bc_trace.proofs.Going.{gone_done, gone_none, gone_one, stopped_here}
use Rattle.bc_trace.proofs.Leafing.{buckets_same, halted_it, moved_leaf}
use Rattle.bc_trace.specs.declared.error.TraceError.TheVariants as error
use Rattle.bc_trace.proofs.walk.walk_it.Goals as goal

pub returns-then-not-may_walk-clause-has : goal.returns-then-not-may_walk-clause-has
returns-then-not-may_walk-clause-has g c = buckets_same c.args.hand.now c.args.hand.now
    c.requires.both.part c.requires.both.is refl

pub returns-then-not-may_walk-clause-err : goal.returns-then-not-may_walk-clause-err
returns-then-not-may_walk-clause-err g c = stopped_here g.C.Disk.facts g.B.Disk.facts
    (cache_among g.C.Disk.facts g.B.Disk.facts c.args.parts.now.run.start).sectors error.Moved
    c.args.seat.now c.args.seat.now c.requires.works.seat (
      inl (moved_leaf g.C.Disk.facts g.B.Disk.facts c.args.parts.now c.args.seat.now
          c.args.hand.now c.requires.works c.args.number c.requires.both c.may_walk.result
          (c.may_walk.ensures c.requires.both) c.if-not-may_walk.true),
      gone_none g.C.Disk.facts g.B.Disk.facts c.args.seat.now c.requires.works.seat,
    )

pub end_of-end-requires : goal.end_of-end-requires
end_of-end-requires g c = (c.requires.both.slot, c.requires.both.leaf)

pub walk_leaf-requires-clause-can : goal.walk_leaf-requires-clause-can
walk_leaf-requires-clause-can g c =
    (c.requires.both, (c.may_walk.ensures c.requires.both).0 c.if-not-may_walk.false)

pub returns-in-Ok-clause-has : goal.returns-in-Ok-clause-has
returns-in-Ok-clause-has g c = (c.in-Ok.ensures.part.1, c.in-Ok.ensures.part.2)

pub returns-in-Ok-clause-ok : goal.returns-in-Ok-clause-ok
returns-in-Ok-clause-ok g c = gone_one g.C.Disk.facts g.B.Disk.facts
    (deed.Mark (mark.Walk c.args.number)) c.args.seat.now c.walk_leaf.new.seat tt c.in-Ok.ensures.ok

pub returns-in-Err-clause-has : goal.returns-in-Err-clause-has
returns-in-Err-clause-has g c = buckets_same c.args.hand.now c.walk_leaf.new.hand
    c.requires.both.part c.requires.both.is c.in-Err.ensures.same

pub returns-in-Err-clause-err : goal.returns-in-Err-clause-err
returns-in-Err-clause-err g c = stopped_here g.C.Disk.facts g.B.Disk.facts
    (cache_among g.C.Disk.facts g.B.Disk.facts c.args.parts.now.run.start).sectors
    (error.Step c.in-Err.error) c.args.seat.now c.walk_leaf.new.seat c.walk_leaf.ensures.works.seat (
      halted_it g.C.Disk.facts g.B.Disk.facts c.in-Err.error c.walk_leaf.new.seat
          c.in-Err.ensures.cause,
      gone_done g.C.Disk.facts g.B.Disk.facts c.args.seat.now c.walk_leaf.new.seat
          (done_one g.C.Disk.facts g.B.Disk.facts None c.args.seat.now c.walk_leaf.new.seat
          c.in-Err.ensures.err),
    )
