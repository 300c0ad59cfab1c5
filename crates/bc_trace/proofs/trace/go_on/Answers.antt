use Rattle.bc_leaf_walk.specs.bc_machine.World.{cache_among}
use Rattle.bc_trace.proofs.Ending.{traced_on}
use Rattle.bc_trace.proofs.Going.{none_done, stopped_after}
use Rattle.bc_trace.proofs.trace.go_on.Goals as goal

pub returns-clause-ok : goal.returns-clause-ok
returns-clause-ok g c = traced_on g.C.Disk.facts g.B.Disk.facts c.end.result c.args.seat.now
    c.all_leaves.new.seat c.end.new.seat c.in-Ok.ensures.ok c.end.ensures.ok

pub returns-clause-err : goal.returns-clause-err
returns-clause-err g c = stopped_after g.C.Disk.facts g.B.Disk.facts
    (cache_among g.C.Disk.facts g.B.Disk.facts c.args.parts.now.run.start).sectors c.end.result
    c.args.seat.now c.all_leaves.new.seat c.end.new.seat c.end.new.seat c.in-Ok.ensures.ok
    (none_done g.C.Disk.facts g.B.Disk.facts c.end.new.seat c.end.ensures.works.seat)
    c.end.ensures.err
