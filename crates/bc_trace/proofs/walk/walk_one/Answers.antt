use Rattle.std.proofs.Common.{[]}
use Rattle.bc_leaf_walk.specs.bc_machine.World.{cache_among}
use Rattle.bc_trace.proofs.Going.{as_waited, before_done, ok_around, stopped_around}
use Rattle.bc_trace.proofs.Leafing.{both_on, end_on, hand_back, has_again}
use Rattle.bc_trace.proofs.walk.walk_one.Goals as goal

pub walk_it-done-requires-clause-before : goal.walk_it-done-requires-clause-before
walk_it-done-requires-clause-before g c = before_done g.C.Disk.facts g.B.Disk.facts c.args.before []
    c.args.seat.now c.take_buckets.new.seat (as_waited g.C.Disk.facts g.B.Disk.facts c.args.seat.now
    c.take_buckets.new.seat c.take_buckets.ensures.waited) c.requires.before

pub walk_it-done-requires-clause-both : goal.walk_it-done-requires-clause-both
walk_it-done-requires-clause-both g c = both_on c.args.hand.now c.take_buckets.new.hand
    c.requires.leaf.0 c.args.number c.requires.leaf.1 c.take_buckets.ensures.has

pub give_buckets-requires-clause-has : goal.give_buckets-requires-clause-has
give_buckets-requires-clause-has g c = has_again c.args.hand.now c.take_buckets.new.hand
    c.walk_it-done.new.hand c.take_buckets.ensures.has.0 c.take_buckets.ensures.has.1
    c.walk_it-done.ensures.has

pub returns-clause-hand : goal.returns-clause-hand
returns-clause-hand g c = hand_back c.args.hand.now c.take_buckets.new.hand c.walk_it-done.new.hand
    c.give_buckets.new.hand c.requires.none c.take_buckets.ensures.has c.walk_it-done.ensures.has
    c.give_buckets.ensures.hand

pub returns-clause-ok : goal.returns-clause-ok
returns-clause-ok g c = ok_around g.C.Disk.facts g.B.Disk.facts c.walk_it-done.result c.args.seat.now
    c.take_buckets.new.seat c.walk_it-done.new.seat c.give_buckets.new.seat
    (as_waited g.C.Disk.facts g.B.Disk.facts c.args.seat.now c.take_buckets.new.seat
    c.take_buckets.ensures.waited)
    (as_waited g.C.Disk.facts g.B.Disk.facts c.walk_it-done.new.seat c.give_buckets.new.seat
    c.give_buckets.ensures.waited) c.walk_it-done.ensures.ok

pub returns-clause-end : goal.returns-clause-end
returns-clause-end g c = end_on c.walk_it-done.result c.args.hand.now c.take_buckets.new.hand
    c.args.number c.take_buckets.ensures.has c.walk_it-done.ensures.end

pub returns-clause-err : goal.returns-clause-err
returns-clause-err g c = stopped_around g.C.Disk.facts g.B.Disk.facts
    (cache_among g.C.Disk.facts g.B.Disk.facts c.args.parts.now.run.start).sectors
    c.walk_it-done.result c.args.seat.now
    c.take_buckets.new.seat c.walk_it-done.new.seat c.give_buckets.new.seat
    (as_waited g.C.Disk.facts g.B.Disk.facts c.args.seat.now c.take_buckets.new.seat
    c.take_buckets.ensures.waited)
    (as_waited g.C.Disk.facts g.B.Disk.facts c.walk_it-done.new.seat c.give_buckets.new.seat
    c.give_buckets.ensures.waited) c.walk_it-done.ensures.err
