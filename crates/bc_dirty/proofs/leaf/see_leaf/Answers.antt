use Rattle.bc_dirty.proofs.Walking.{if_read, if_stopped}
use Rattle.bc_dirty.proofs.leaf.see_leaf.Goals as goal

pub returns-clause-ok : goal.returns-clause-ok
returns-clause-ok g c = if_read g.C.Disk.facts g.B.Disk.facts c.see_in.result c.args.seat.now
    c.promise.new.seat c.see_in.new.seat c.promise.ensures.done c.see_in.ensures.ok

pub returns-clause-stopped : goal.returns-clause-stopped
returns-clause-stopped g c = if_stopped g.C.Disk.facts g.B.Disk.facts c.see_in.result
    c.args.seat.now c.promise.new.seat c.see_in.new.seat c.args.first c.promise.ensures.done
    c.see_in.ensures.stopped
