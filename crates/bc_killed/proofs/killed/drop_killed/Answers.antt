use Rattle.std.proofs.Common.{refl}
use Rattle.bc_killed.proofs.Clearing.{cleared_between}
use Rattle.bc_killed.proofs.killed.drop_killed.Goals as goal

pub drop_each-requires-clause-buckets : goal.drop_each-requires-clause-buckets
drop_each-requires-clause-buckets g c = (c.borrow_buckets-buckets.result.0, refl)

pub returns-clause-cleared : goal.returns-clause-cleared
returns-clause-cleared g c =
    let cf = g.C.Disk.facts in
    let bf = g.B.Disk.facts in
    let u = c.args.seat.now in
    let v = c.borrow_flight-flight.new.seat in
    let x = c.return_buckets.new.seat in
    let seat = c.borrow_flight-flight.ensures.lent.seat in
    cleared_between cf bf u v x c.return_flight.new.seat c.requires.works.seat seat
    c.return_buckets.ensures.works.seat c.return_flight.ensures.works.seat
    c.borrow_flight-flight.ensures.waited
    (cleared_between cf bf v c.borrow_buckets-buckets.new.seat c.drop_each.new.seat x seat
    c.borrow_buckets-buckets.ensures.lent.seat c.drop_each.ensures.works.seat
    c.return_buckets.ensures.works.seat c.borrow_buckets-buckets.ensures.waited
    c.drop_each.ensures.cleared c.return_buckets.ensures.waited c.return_buckets.ensures.seen)
    c.return_flight.ensures.waited c.return_flight.ensures.seen
