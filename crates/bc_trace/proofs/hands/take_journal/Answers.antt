use Rattle.std.proofs.Common.{None}
use Rattle.bc_leaf_walk.proofs.of_bc_deed.May.{did_nothing}
use Rattle.bc_leaf_walk.proofs.of_bc_hand.Between.{did_between}
use Rattle.bc_trace.proofs.Parting.{journal_back}
use Rattle.bc_trace.proofs.hands.take_journal.Goals as goal

pub returns-clause-waited : goal.returns-clause-waited
returns-clause-waited g c = (did_between g.C.Disk.facts g.B.Disk.facts None c.args.seat.now
    c.borrow_journal-journal.new.seat c.borrow_journal-journal.new.seat c.return_journal.new.seat
    c.borrow_journal-journal.ensures.still c.borrow_journal-journal.ensures.waited
    (did_nothing g.C.Disk.facts g.B.Disk.facts c.borrow_journal-journal.new.seat
    c.borrow_journal-journal.ensures.lent.seat) c.return_journal.ensures.waited
    c.return_journal.ensures.seen c.return_journal.ensures.heard c.return_journal.ensures.works.seat).is

pub returns-clause-has : goal.returns-clause-has
returns-clause-has g c = journal_back c.args.hand.now c.borrow_journal-journal.new.hand c.return_journal.new.hand
    c.borrow_journal-journal.result.0 c.borrow_journal-journal.ensures.hand c.return_journal.ensures.hand
