use Rattle.std.proofs.Common.{subst}
use Rattle.bc_leaf_walk.specs.bc_hand.Seats.{Works}
use Rattle.bc_leaf_walk.specs.bc_hand.declared.hand.Hand.{Hand}
use Rattle.bc_leaf_walk.specs.bc_machine.World.{cache_among}
use Rattle.bc_trace.proofs.Going.{as_waited, before_done, ok_after, stopped_after}
use Rattle.bc_trace.proofs.Leafing.{fetched, fetched_ends, gone_read, leaf_given, no_buckets, none_with_leaf, stopped_leaf}
use Rattle.bc_trace.proofs.walk.next_in.Goals as goal

pub returns-in-Err-clause-works : goal.returns-in-Err-clause-works
returns-in-Err-clause-works g c = subst (λ (h : Hand _ _). Works g.C.Disk.facts g.B.Disk.facts
    c.args.parts.now c.leaf_at.new.seat h) c.in-Err.ensures.err c.leaf_at.ensures.works

pub returns-in-Err-clause-err : goal.returns-in-Err-clause-err
returns-in-Err-clause-err g c = stopped_leaf g.C.Disk.facts g.B.Disk.facts
    (cache_among g.C.Disk.facts g.B.Disk.facts c.args.parts.now.run.start).sectors c.in-Err.error
    c.args.first c.args.seat.now c.leaf_at.new.seat c.requires.works.seat
    c.leaf_at.ensures.works.seat c.in-Err.ensures.stopped

pub walk_one-done-requires-clause-before : goal.walk_one-done-requires-clause-before
walk_one-done-requires-clause-before g c =
    let gone = gone_read g.C.Disk.facts g.B.Disk.facts c.args.seat.now c.leaf_at.new.seat
    c.in-Ok.ensures.did in
    before_done g.C.Disk.facts g.B.Disk.facts c.args.before gone.deeds c.args.seat.now
    c.leaf_at.new.seat gone.done c.requires.before

pub walk_one-done-requires-clause-none : goal.walk_one-done-requires-clause-none
walk_one-done-requires-clause-none g c = no_buckets c.leaf_at.new.hand c.in-Ok.number c.args.first 1
    c.in-Ok.ensures.ok

pub walk_one-done-requires-clause-order : goal.walk_one-done-requires-clause-order
walk_one-done-requires-clause-order g c = none_with_leaf c.leaf_at.new.hand c.in-Ok.number
    c.args.first 1 c.in-Ok.ensures.ok

pub walk_one-done-requires-clause-leaf : goal.walk_one-done-requires-clause-leaf
walk_one-done-requires-clause-leaf g c = (
  c.in-Ok.ensures.ok.slot,
  fetched c.leaf_at.new.hand c.in-Ok.number c.args.first 1 c.in-Ok.ensures.ok,
)

pub returns-clause-works : goal.returns-clause-works
returns-clause-works g c = subst (λ (h : Hand _ _). Works g.C.Disk.facts g.B.Disk.facts
    c.args.parts.now c.give_leaves.new.seat h)
    (leaf_given c.leaf_at.new.hand c.walk_one-done.new.hand c.give_leaves.new.hand c.in-Ok.number
    c.args.first 1 c.in-Ok.ensures.ok c.walk_one-done.ensures.hand c.give_leaves.ensures.hand)
    c.give_leaves.ensures.works

pub returns-clause-more : goal.returns-clause-more
returns-clause-more g c = fetched_ends c.walk_one-done.result c.leaf_at.new.hand c.in-Ok.number
    c.args.first c.in-Ok.ensures.ok c.walk_one-done.ensures.end

pub returns-clause-ok : goal.returns-clause-ok
returns-clause-ok g c = ok_after g.C.Disk.facts g.B.Disk.facts c.walk_one-done.result
    c.args.seat.now c.leaf_at.new.seat c.walk_one-done.new.seat c.give_leaves.new.seat
    (gone_read g.C.Disk.facts g.B.Disk.facts c.args.seat.now c.leaf_at.new.seat c.in-Ok.ensures.did)
    (as_waited g.C.Disk.facts g.B.Disk.facts c.walk_one-done.new.seat c.give_leaves.new.seat
    c.give_leaves.ensures.waited) c.walk_one-done.ensures.ok

pub returns-clause-err : goal.returns-clause-err
returns-clause-err g c = stopped_after g.C.Disk.facts g.B.Disk.facts
    (cache_among g.C.Disk.facts g.B.Disk.facts c.args.parts.now.run.start).sectors
    c.walk_one-done.result c.args.seat.now c.leaf_at.new.seat c.walk_one-done.new.seat
    c.give_leaves.new.seat
    (gone_read g.C.Disk.facts g.B.Disk.facts c.args.seat.now c.leaf_at.new.seat c.in-Ok.ensures.did)
    (as_waited g.C.Disk.facts g.B.Disk.facts c.walk_one-done.new.seat c.give_leaves.new.seat
    c.give_leaves.ensures.waited) c.walk_one-done.ensures.err
