use Rattle.std.proofs.Common.{inl, inr, length, ap, ◌∙◌}
use Rattle.bc_write_back.proofs.Coming.{stopped_in_hand, way_went}
use Rattle.bc_write_back.proofs.Going.{as_unnoted, read_then}
use Rattle.bc_write_back.proofs.Hands.{has_three}
use Rattle.bc_write_back.proofs.Walking.{note_went}
use Rattle.bc_write_back.specs.bc_machine.Note.{Note}
use Rattle.bc_bypass.proofs.claimed.invalidate_claimed.Goals as goal

pub take_both-requires-clause-leaves : goal.take_both-requires-clause-leaves
take_both-requires-clause-leaves g c = c.in-Ok.ensures.ok.rest

pub returns-in-Err-clause-err : goal.returns-in-Err-clause-err
returns-in-Err-clause-err g c = inl c.in-Err.ensures.stopped

pub drop_in_hand-done-requires-clause-alone : goal.drop_in_hand-done-requires-clause-alone
drop_in_hand-done-requires-clause-alone g c =
    let cf = g.C.Disk.facts in
    let bf = g.B.Disk.facts in
    ap (λ (n : Note). n.range) (note_went cf bf c.args.seat.now c.take_both.new.seat
    (as_unnoted cf bf c.args.seat.now c.take_both.new.seat
    (way_went cf bf c.args.seat.now c.leaf_at.new.seat c.take_both.new.seat
    c.in-Ok.ensures.did c.take_both.ensures.done))) ∙ c.requires.alone

pub drop_in_hand-done-requires-clause-three : goal.drop_in_hand-done-requires-clause-three
drop_in_hand-done-requires-clause-three g c = has_three c.leaf_at.new.hand c.take_both.new.hand
    (length c.args.parts.now.run.start) c.in-Ok.number c.args.first c.args.count
    c.in-Ok.ensures.ok c.in-Ok.ensures.part
    c.take_both.ensures.leaves c.take_both.ensures.buckets c.take_both.ensures.journal

pub returns-in-Ok-done-clause-ok : goal.returns-in-Ok-done-clause-ok
returns-in-Ok-done-clause-ok g c = record {
  number = c.in-Ok.number;
  at = c.take_both.new.seat;
  way = read_then g.C.Disk.facts g.B.Disk.facts c.args.seat.now c.leaf_at.new.seat
      c.take_both.new.seat c.in-Ok.ensures.did c.take_both.ensures.done;
  come = c.drop_in_hand-done.new.seat;
  this = c.in-Ok-done.ensures.ok;
  then = c.give_back.ensures.done;
}

pub returns-in-Err-done-clause-err : goal.returns-in-Err-done-clause-err
returns-in-Err-done-clause-err g c = inr (stopped_in_hand g.C.Disk.facts g.B.Disk.facts
    c.in-Err-done.error c.args.seat.now c.leaf_at.new.seat c.take_both.new.seat
    c.drop_in_hand-done.new.seat c.give_back.new.seat c.in-Ok.ensures.did
    c.take_both.ensures.done c.in-Err-done.ensures.err c.in-Err-done.ensures.cause
    c.give_back.ensures.done)
