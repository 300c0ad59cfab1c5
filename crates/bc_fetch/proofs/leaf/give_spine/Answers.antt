use Rattle.std.proofs.Common.{None}
use Rattle.bc_sight.proofs.of_bc_hand.Between.{did_between}
use Rattle.bc_sight.proofs.of_bc_deed.May.{did_nothing}
use Rattle.bc_fetch.proofs.leaf.give_spine.Goals as goal

pub returns-clause-waited : goal.returns-clause-waited
returns-clause-waited g c = (did_between g.C.Disk.facts g.B.Disk.facts None c.args.seat.now
    c.borrow_spine-spine.new.seat c.borrow_spine-spine.new.seat c.return_spine.new.seat
    c.borrow_spine-spine.ensures.still c.borrow_spine-spine.ensures.waited
    (did_nothing g.C.Disk.facts g.B.Disk.facts c.borrow_spine-spine.new.seat
    c.borrow_spine-spine.ensures.lent.seat) c.return_spine.ensures.waited
    c.return_spine.ensures.seen c.return_spine.ensures.heard c.return_spine.ensures.works.seat).is
