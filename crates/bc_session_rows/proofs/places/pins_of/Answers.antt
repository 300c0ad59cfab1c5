use Rattle.bc_session_rows.proofs.Placing.{none_behind_buckets, returned}
use Rattle.bc_session_rows.proofs.Running.{alone_waited, keeps_waited}
use Rattle.bc_session_rows.proofs.places.pins_of.Goals as goal

pub borrow_buckets-buckets-requires-clause-order : goal.borrow_buckets-buckets-requires-clause-order
borrow_buckets-buckets-requires-clause-order g c =
    λ _. none_behind_buckets c.args.hand.now c.requires.empty

pub returns-clause-alone : goal.returns-clause-alone
returns-clause-alone g c = alone_waited g.C.Disk.facts g.B.Disk.facts
    c.borrow_buckets-buckets.new.seat c.return_buckets.new.seat
    (alone_waited g.C.Disk.facts g.B.Disk.facts c.args.seat.now c.borrow_buckets-buckets.new.seat
    c.requires.alone c.borrow_buckets-buckets.ensures.waited
    c.borrow_buckets-buckets.ensures.lent.seat) c.return_buckets.ensures.waited
    c.return_buckets.ensures.works.seat

pub returns-clause-empty : goal.returns-clause-empty
returns-clause-empty g c = returned c.args.hand.now c.borrow_buckets-buckets.new.hand
    c.return_buckets.new.hand c.borrow_buckets-buckets.result.0 c.borrow_buckets-buckets.result.1
    c.requires.empty c.borrow_buckets-buckets.ensures.hand c.borrow_buckets-buckets.ensures.taken
    c.return_buckets.ensures.hand

pub returns-clause-keeps : goal.returns-clause-keeps
returns-clause-keeps g c = λ p own. keeps_waited g.C.Disk.facts g.B.Disk.facts
    c.borrow_buckets-buckets.new.seat c.return_buckets.new.seat
    (alone_waited g.C.Disk.facts g.B.Disk.facts c.args.seat.now c.borrow_buckets-buckets.new.seat
    c.requires.alone c.borrow_buckets-buckets.ensures.waited
    c.borrow_buckets-buckets.ensures.lent.seat) c.return_buckets.ensures.waited
    c.return_buckets.ensures.works.seat p
    (keeps_waited g.C.Disk.facts g.B.Disk.facts c.args.seat.now c.borrow_buckets-buckets.new.seat
    c.requires.alone c.borrow_buckets-buckets.ensures.waited
    c.borrow_buckets-buckets.ensures.lent.seat p own)
