use Rattle.std.proofs.Common.{None, refl, subst}
use Rattle.bc_flush.proofs.Hands.{journal_stands}
use Rattle.bc_flush.proofs.of_bc_hand.Between.{did_between}
use Rattle.bc_flush.proofs.of_bc_deed.May.{did_nothing}
use Rattle.bc_around.specs.Owed.{Owes, OwesNone}
use Rattle.bc_around.proofs.Owing.{all_durable, if_false, if_true, still_owed}
use Rattle.bc_around.proofs.owed.is_durable.Goals as goal

pub returns-clause-waited : goal.returns-clause-waited
returns-clause-waited g c = (did_between g.C.Disk.facts g.B.Disk.facts None c.args.seat.now
    c.borrow_journal-journal.new.seat c.borrow_journal-journal.new.seat c.return_journal.new.seat
    c.borrow_journal-journal.ensures.still c.borrow_journal-journal.ensures.waited
    (did_nothing g.C.Disk.facts g.B.Disk.facts c.borrow_journal-journal.new.seat
    c.borrow_journal-journal.ensures.lent.seat) c.return_journal.ensures.waited
    c.return_journal.ensures.seen c.return_journal.ensures.heard
    c.return_journal.ensures.works.seat).is

pub returns-clause-durable : goal.returns-clause-durable
returns-clause-durable g c = λ none.
    let cf = g.C.Disk.facts in
    let bf = g.B.Disk.facts in
    let took = c.borrow_journal-journal in
    all_durable cf bf c.args.seat.now took.new.seat c.return_journal.new.seat took.result.0
    took.ensures.waited c.return_journal.ensures.waited
    (journal_stands cf bf c.args.parts.now took.new.seat _ took.result.0 took.ensures.lent refl)
    took.ensures.lent.seat
    (subst OwesNone c.get.ensures (if_true _ _ c.owes_none-none.result c.owes_none-none.ensures
    none))

pub returns-clause-owed : goal.returns-clause-owed
returns-clause-owed g c = λ off.
    let cf = g.C.Disk.facts in
    let bf = g.B.Disk.facts in
    let took = c.borrow_journal-journal in
    still_owed cf bf c.args.seat.now took.new.seat c.return_journal.new.seat took.result.0
    took.ensures.waited c.return_journal.ensures.waited
    (journal_stands cf bf c.args.parts.now took.new.seat _ took.result.0 took.ensures.lent refl)
    (subst Owes c.get.ensures (if_false _ _ c.owes_none-none.result c.owes_none-none.ensures off))
