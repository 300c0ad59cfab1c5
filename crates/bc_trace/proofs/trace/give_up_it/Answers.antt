use Rattle.std.proofs.Common.{None, sym, refl, ◌∙◌}
use Rattle.bc_leaf_walk.proofs.of_bc_deed.Sequence.{done_one}
use Rattle.bc_trace.proofs.Ending.{gives_did, gives_none}
use Rattle.bc_trace.proofs.Going.{none_done}
use Rattle.bc_trace.proofs.Leafing.{buckets_same}
use Rattle.bc_trace.proofs.trace.give_up_it.Goals as goal

pub returns-then-not-is_open-clause-has : goal.returns-then-not-is_open-clause-has
returns-then-not-is_open-clause-has g c =
    buckets_same c.args.hand.now c.args.hand.now c.requires.has.0 c.requires.has.1 refl

pub returns-then-not-is_open-clause-gives : goal.returns-then-not-is_open-clause-gives
returns-then-not-is_open-clause-gives g c = gives_none g.C.Disk.facts g.B.Disk.facts c.args.seat.now
    c.args.seat.now (none_done g.C.Disk.facts g.B.Disk.facts c.args.seat.now c.requires.works.seat)

pub drop_round-requires-clause-going : goal.drop_round-requires-clause-going
drop_round-requires-clause-going g c = (
  c.requires.has.0,
  c.requires.has.1,
  sym (c.is_open.ensures c.requires.has.0 c.requires.has.1) ∙ c.if-not-is_open.false,
)

pub returns-in-Ok-clause-has : goal.returns-in-Ok-clause-has
returns-in-Ok-clause-has g c = (c.in-Ok.ensures.part.1, c.in-Ok.ensures.part.3)

pub returns-in-Ok-clause-gives : goal.returns-in-Ok-clause-gives
returns-in-Ok-clause-gives g c = gives_did g.C.Disk.facts g.B.Disk.facts c.args.seat.now
    c.drop_round.new.seat c.in-Ok.ensures.ok

pub returns-in-Err-clause-has : goal.returns-in-Err-clause-has
returns-in-Err-clause-has g c = buckets_same c.args.hand.now c.drop_round.new.hand
    c.requires.has.0 c.requires.has.1 c.in-Err.ensures.same

pub returns-in-Err-clause-gives : goal.returns-in-Err-clause-gives
returns-in-Err-clause-gives g c = gives_none g.C.Disk.facts g.B.Disk.facts c.args.seat.now
    c.drop_round.new.seat (done_one g.C.Disk.facts g.B.Disk.facts None c.args.seat.now
    c.drop_round.new.seat c.in-Err.ensures.err)
