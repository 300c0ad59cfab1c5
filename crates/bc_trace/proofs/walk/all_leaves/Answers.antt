use Rattle.std.proofs.Common.{arith}
use Rattle.bc_leaf_walk.specs.bc_machine.World.{cache_among}
use Rattle.bc_trace.proofs.Going.{before_done, gone_both, gone_none, stopped_on}
use Rattle.bc_trace.proofs.walk.all_leaves.Goals as goal

pub loop-next-init : goal.loop-next-init
loop-next-init g c = (
  c.requires.works,
  omega arith,
  gone_none g.C.Disk.facts g.B.Disk.facts c.args.seat.now c.requires.works.seat,
  c.requires.before,
)

pub loop-next-preserved : goal.loop-next-preserved
loop-next-preserved g c =
    let low = c.loop-next.invariant.1 in
    let more = c.next_leaf.ensures.left in (
      c.next_leaf.ensures.works,
      omega (arith, low, more),
      gone_both g.C.Disk.facts g.B.Disk.facts c.args.seat.now c.loop-next.seat c.next_leaf.new.seat
          c.loop-next.invariant.2 c.in-Ok.ensures.ok,
      before_done g.C.Disk.facts g.B.Disk.facts c.args.before c.in-Ok.ensures.ok.deeds
          c.loop-next.seat c.next_leaf.new.seat c.in-Ok.ensures.ok.done c.loop-next.invariant.3,
    )

pub returns-in-Err-clause-err : goal.returns-in-Err-clause-err
returns-in-Err-clause-err g c = stopped_on g.C.Disk.facts g.B.Disk.facts
    (cache_among g.C.Disk.facts g.B.Disk.facts c.args.parts.now.run.start).sectors c.in-Err.error
    c.args.seat.now c.loop-next.seat c.next_leaf.new.seat c.loop-next.invariant.2
    c.in-Err.ensures.err
