use Rattle.bc_write_back.proofs.Coming.{gave}
use Rattle.bc_write_back.proofs.taken.give_back.Goals as goal

pub returns-clause-done : goal.returns-clause-done
returns-clause-done g c = gave g.C.Disk.facts g.B.Disk.facts c.args.seat.now
    c.return_journal.new.seat c.return_buckets.new.seat c.return_leaves.new.seat
    c.return_journal.ensures.works.seat c.return_journal.ensures.waited
    c.return_buckets.ensures.works.seat c.return_buckets.ensures.waited
    c.return_leaves.ensures.works.seat c.return_leaves.ensures.waited
