use Rattle.bc_cached.proofs.of_bc_hand.Knowing.{m}
use Rattle.bc_seats.proofs.Between.{same_both}
use Rattle.bc_step_rows.proofs.drops.give_back.Goals as goal

pub returns-clause-same : goal.returns-clause-same
returns-clause-same g c = same_both (m g.C.Disk.facts g.B.Disk.facts) c.args.seat.now
    c.return_buckets.new.seat c.return_leaves.new.seat
    (same_both (m g.C.Disk.facts g.B.Disk.facts) c.args.seat.now c.return_journal.new.seat
    c.return_buckets.new.seat c.return_journal.ensures.waited.same
    c.return_buckets.ensures.waited.same) c.return_leaves.ensures.waited.same
