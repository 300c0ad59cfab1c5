use Rattle.std.proofs.Common.{None}
use Rattle.bc_leaf_walk.proofs.of_bc_deed.May.{did_nothing}
use Rattle.bc_leaf_walk.proofs.of_bc_hand.Between.{did_between}
use Rattle.bc_trace.proofs.Parting.{buckets_back}
use Rattle.bc_trace.proofs.hands.take_buckets.Goals as goal

pub returns-clause-waited : goal.returns-clause-waited
returns-clause-waited g c = (did_between g.C.Disk.facts g.B.Disk.facts None c.args.seat.now
    c.borrow_buckets-buckets.new.seat c.borrow_buckets-buckets.new.seat c.return_buckets.new.seat
    c.borrow_buckets-buckets.ensures.still c.borrow_buckets-buckets.ensures.waited
    (did_nothing g.C.Disk.facts g.B.Disk.facts c.borrow_buckets-buckets.new.seat
    c.borrow_buckets-buckets.ensures.lent.seat) c.return_buckets.ensures.waited
    c.return_buckets.ensures.seen c.return_buckets.ensures.heard c.return_buckets.ensures.works.seat).is

pub returns-clause-has : goal.returns-clause-has
returns-clause-has g c = buckets_back c.args.hand.now c.borrow_buckets-buckets.new.hand c.return_buckets.new.hand
    c.borrow_buckets-buckets.result.0 c.borrow_buckets-buckets.ensures.hand c.return_buckets.ensures.hand
