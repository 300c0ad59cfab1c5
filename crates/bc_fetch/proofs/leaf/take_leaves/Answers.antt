use Rattle.std.proofs.Common.{None}
use Rattle.bc_sight.proofs.of_bc_hand.Between.{did_between}
use Rattle.bc_sight.proofs.of_bc_deed.May.{did_nothing}
use Rattle.bc_fetch.proofs.Fetching.{has_part}
use Rattle.bc_fetch.proofs.leaf.take_leaves.Goals as goal

pub returns-clause-waited : goal.returns-clause-waited
returns-clause-waited g c = (did_between g.C.Disk.facts g.B.Disk.facts None c.args.seat.now
    c.borrow_leaves-leaves.new.seat c.borrow_leaves-leaves.new.seat c.return_leaves.new.seat
    c.borrow_leaves-leaves.ensures.still c.borrow_leaves-leaves.ensures.waited
    (did_nothing g.C.Disk.facts g.B.Disk.facts c.borrow_leaves-leaves.new.seat
    c.borrow_leaves-leaves.ensures.lent.seat) c.return_leaves.ensures.waited
    c.return_leaves.ensures.seen c.return_leaves.ensures.heard c.return_leaves.ensures.works.seat).is

pub returns-clause-has : goal.returns-clause-has
returns-clause-has g c = has_part c.borrow_leaves-leaves.new.hand c.return_leaves.new.hand c.args.part
    c.borrow_leaves-leaves.result.0 c.return_leaves.ensures.hand
