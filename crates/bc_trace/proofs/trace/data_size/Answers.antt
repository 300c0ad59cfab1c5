use Rattle.std.proofs.Common.{None, ap, ◌∙◌}
use Rattle.bc_leaf_walk.proofs.of_bc_deed.May.{did_nothing, size_is}
use Rattle.bc_leaf_walk.proofs.of_bc_hand.Between.{did_between}
use Rattle.bc_leaf_walk.proofs.of_bc_deed.Sequence.{done_one}
use Rattle.bc_leaf_walk.specs.bc_deed.Asked.{size_of}
use Rattle.bc_leaf_walk.specs.bc_machine.declared.part.CorePart.{CorePart}
use Rattle.bc_parts.specs.Seat.{Run}
use Rattle.bc_trace.proofs.trace.data_size.Goals as goal

pub returns-clause-done : goal.returns-clause-done
returns-clause-done g c = done_one g.C.Disk.facts g.B.Disk.facts None c.args.seat.now
    c.return_backing.new.seat
    (did_between g.C.Disk.facts g.B.Disk.facts None c.args.seat.now
    c.borrow_backing-backing.new.seat c.borrow_backing-backing.new.seat c.return_backing.new.seat
    c.borrow_backing-backing.ensures.still c.borrow_backing-backing.ensures.waited
    (did_nothing g.C.Disk.facts g.B.Disk.facts c.borrow_backing-backing.new.seat
    c.borrow_backing-backing.ensures.lent.seat) c.return_backing.ensures.waited
    c.return_backing.ensures.seen c.return_backing.ensures.heard
    c.return_backing.ensures.works.seat)

pub returns-clause-size : goal.returns-clause-size
returns-clause-size g c = size_is g.C.Disk.facts g.B.Disk.facts c.borrow_backing-backing.new.seat
    c.borrow_backing-backing.result.0 c.borrow_backing-backing.ensures.lent.stand.backing
    ∙ ap (λ (r : Run (CorePart _ _)). size_of g.C.Disk.facts g.B.Disk.facts r.start)
    c.borrow_backing-backing.ensures.lent.run
