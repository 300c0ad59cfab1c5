use Rattle.bc_settled.proofs.Coming.{none_both, twice}
use Rattle.bc_settled.proofs.taken.give_back.Goals as goal

pub returns-clause-done : goal.returns-clause-done
returns-clause-done g c =
    let cf = g.C.Disk.facts in
    let bf = g.B.Disk.facts in
    none_both cf bf c.args.seat.now c.return_buckets.new.seat c.return_leaves.new.seat
    (twice cf bf c.args.seat.now c.return_journal.new.seat c.return_buckets.new.seat
    c.return_journal.ensures.works.seat c.return_journal.ensures.waited
    c.return_buckets.ensures.works.seat c.return_buckets.ensures.waited)
    (twice cf bf c.return_buckets.new.seat c.return_flight.new.seat c.return_leaves.new.seat
    c.return_flight.ensures.works.seat c.return_flight.ensures.waited
    c.return_leaves.ensures.works.seat c.return_leaves.ensures.waited)
