use Rattle.bc_trace.proofs.Ending.{gives_around}
use Rattle.bc_trace.proofs.Going.{as_waited, both_none}
use Rattle.bc_trace.proofs.Parting.{taken_buckets}
use Rattle.bc_trace.proofs.Leafing.{has_again}
use Rattle.bc_trace.proofs.trace.give_up.Goals as goal

pub give_buckets-requires-clause-has : goal.give_buckets-requires-clause-has
give_buckets-requires-clause-has g c = has_again c.promise.new.hand c.take_buckets.new.hand
    c.give_up_it.new.hand c.take_buckets.ensures.has.0 c.take_buckets.ensures.has.1
    c.give_up_it.ensures.has

pub returns-clause-gives : goal.returns-clause-gives
returns-clause-gives g c = gives_around g.C.Disk.facts g.B.Disk.facts c.args.seat.now
    c.take_buckets.new.seat c.give_up_it.new.seat c.give_buckets.new.seat
    (both_none g.C.Disk.facts g.B.Disk.facts c.args.seat.now c.promise.new.seat
    c.take_buckets.new.seat c.promise.ensures.done
    (as_waited g.C.Disk.facts g.B.Disk.facts c.promise.new.seat c.take_buckets.new.seat
    c.take_buckets.ensures.waited)) c.give_up_it.ensures.gives
    (as_waited g.C.Disk.facts g.B.Disk.facts c.give_up_it.new.seat c.give_buckets.new.seat
    c.give_buckets.ensures.waited)

pub give_up_it-requires-clause-has : goal.give_up_it-requires-clause-has
give_up_it-requires-clause-has g c = taken_buckets c.promise.new.hand c.take_buckets.new.hand
    c.take_buckets.ensures.has
