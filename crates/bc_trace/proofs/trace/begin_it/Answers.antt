use Rattle.std.proofs.Common.{None, sym, refl, ◌∙◌}
use Rattle.bc_events.specs.declared.event.Deed.TheVariants as deed
use Rattle.bc_events.specs.declared.event.MarkForm.TheVariants as mark
use Rattle.bc_leaf_walk.proofs.of_bc_deed.Sequence.{done_one}
use Rattle.bc_leaf_walk.specs.bc_machine.World.{cache_among}
use Rattle.bc_trace.proofs.Ending.{part_stands}
use Rattle.bc_trace.proofs.Going.{gone_done, gone_none, gone_one, stopped_here}
use Rattle.bc_trace.proofs.Leafing.{buckets_same, halted_it}
use Rattle.bc_trace.specs.declared.error.TraceError.TheVariants as error
use Rattle.bc_trace.proofs.trace.begin_it.Goals as goal

pub returns-then-is_open-clause-has : goal.returns-then-is_open-clause-has
returns-then-is_open-clause-has g c =
    buckets_same c.args.hand.now c.args.hand.now c.requires.has.0 c.requires.has.1 refl

pub returns-then-is_open-clause-err : goal.returns-then-is_open-clause-err
returns-then-is_open-clause-err g c = stopped_here g.C.Disk.facts g.B.Disk.facts
    (cache_among g.C.Disk.facts g.B.Disk.facts c.args.parts.now.run.start).sectors error.Open
    c.args.seat.now c.args.seat.now c.requires.works.seat (
      record {
        part = c.requires.has.0;
        stood = part_stands g.C.Disk.facts g.B.Disk.facts c.args.parts.now c.args.seat.now
            c.args.hand.now c.requires.works c.requires.has.0 c.requires.has.1;
        going = sym (c.is_open.ensures c.requires.has.0 c.requires.has.1) ∙ c.if-is_open.true;
      },
      gone_none g.C.Disk.facts g.B.Disk.facts c.args.seat.now c.requires.works.seat,
    )

pub begin_round-requires-clause-none : goal.begin_round-requires-clause-none
begin_round-requires-clause-none g c = (
  c.requires.has.0,
  c.requires.has.1,
  sym (c.is_open.ensures c.requires.has.0 c.requires.has.1) ∙ c.if-is_open.false,
)

pub returns-in-Ok-clause-has : goal.returns-in-Ok-clause-has
returns-in-Ok-clause-has g c = (c.in-Ok.ensures.part.1, c.in-Ok.ensures.part.3)

pub returns-in-Ok-clause-ok : goal.returns-in-Ok-clause-ok
returns-in-Ok-clause-ok g c = gone_one g.C.Disk.facts g.B.Disk.facts (deed.Mark mark.Begin)
    c.args.seat.now c.begin_round.new.seat tt c.in-Ok.ensures.ok

pub returns-in-Err-clause-has : goal.returns-in-Err-clause-has
returns-in-Err-clause-has g c = buckets_same c.args.hand.now c.begin_round.new.hand
    c.requires.has.0 c.requires.has.1 c.in-Err.ensures.same

pub returns-in-Err-clause-err : goal.returns-in-Err-clause-err
returns-in-Err-clause-err g c = stopped_here g.C.Disk.facts g.B.Disk.facts
    (cache_among g.C.Disk.facts g.B.Disk.facts c.args.parts.now.run.start).sectors
    (error.Step c.in-Err.error) c.args.seat.now c.begin_round.new.seat
    c.begin_round.ensures.works.seat (
      halted_it g.C.Disk.facts g.B.Disk.facts c.in-Err.error c.begin_round.new.seat
          c.in-Err.ensures.cause,
      gone_done g.C.Disk.facts g.B.Disk.facts c.args.seat.now c.begin_round.new.seat
          (done_one g.C.Disk.facts g.B.Disk.facts None c.args.seat.now c.begin_round.new.seat
          c.in-Err.ensures.err),
    )
