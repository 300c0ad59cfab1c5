use Rattle.bc_deed.proofs.of_bc_hand.Lends.{works_buckets}
use Rattle.bc_deed.proofs.May.{other_number}
use Rattle.bc_place.proofs.Keeping.{keeps_waited}
use Rattle.bc_place.proofs.Placing.{same_but_buckets}
use Rattle.bc_place.proofs.Storing.{unpinned_between}
use Rattle.bc_place.proofs.unpin.unpin.Goals as goal

pub unpin_in-requires-clause-own : goal.unpin_in-requires-clause-own
unpin_in-requires-clause-own g c = (keeps_waited g.C.Disk.facts g.B.Disk.facts c.args.seat.now
    c.borrow_buckets-buckets.new.seat c.requires.works.seat
    c.borrow_buckets-buckets.ensures.waited).own c.args.place c.requires.own

pub return_buckets-requires : goal.return_buckets-requires
return_buckets-requires g c = works_buckets g.C.Disk.facts g.B.Disk.facts c.args.parts.now
    c.borrow_buckets-buckets.new.seat c.unpin_in.new.seat c.borrow_buckets-buckets.new.hand
    _ _ _ c.borrow_buckets-buckets.ensures.lent
    c.unpin_in.ensures.seat c.unpin_in.ensures.kept (other_number 2) c.unpin_in.ensures.buckets

pub returns-clause-rest : goal.returns-clause-rest
returns-clause-rest g c = same_but_buckets c.args.hand.now c.borrow_buckets-buckets.new.hand
    c.return_buckets.new.hand _ c.borrow_buckets-buckets.ensures.hand c.return_buckets.ensures.hand

pub returns-clause-did : goal.returns-clause-did
returns-clause-did g c = unpinned_between g.C.Disk.facts g.B.Disk.facts c.args.place c.args.seat.now
    c.borrow_buckets-buckets.new.seat c.unpin_in.new.seat c.return_buckets.new.seat
    c.borrow_buckets-buckets.ensures.still c.requires.works.seat
    c.borrow_buckets-buckets.ensures.waited c.unpin_in.ensures.did c.unpin_in.ensures.seat
    c.return_buckets.ensures.waited c.return_buckets.ensures.seen c.return_buckets.ensures.heard
    c.return_buckets.ensures.works.seat
