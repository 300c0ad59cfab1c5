use Rattle.bc_entry.proofs.of_bc_hand.Knowing.{m}
use Rattle.bc_seats.proofs.Between.{waited_given}
use Rattle.bc_started.proofs.first.give_back.Goals as goal

pub returns-clause-waited : goal.returns-clause-waited
returns-clause-waited g c = waited_given (m g.C.Disk.facts g.B.Disk.facts) c.args.seat.now
    c.return_cache.new.seat c.return_journal.new.seat c.return_cache.ensures.waited
    c.return_journal.ensures.waited.same c.return_journal.ensures.seen
    c.return_journal.ensures.heard c.return_journal.ensures.waited.promises
