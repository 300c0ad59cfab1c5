use Rattle.std.proofs.Common.{inl, inr, length, Option, refl, ◌∙◌, subst, arith}
use Rattle.bc_fetch.specs.Fetch.{HasStoppedAt}
use Rattle.bc_flight.specs.declared.candidate.Candidate.{Candidate}
use Rattle.bc_settled.specs.Next.{HasSeenDue}
use Rattle.bc_settled.proofs.Coming.{firm_seen, firm_then, in_range, stopped_in, tried_in}
use Rattle.bc_settled.proofs.Hands.{has_four}
use Rattle.bc_settled.proofs.next.settle_next.Goals as goal

pub returns-in_default-clause-ok : goal.returns-in_default-clause-ok
returns-in_default-clause-ok g c = inr (
  refl,
  subst (λ (o : Option Candidate). HasSeenDue g.C.Disk.facts g.B.Disk.facts c.args.before o
      c.args.seat.now c.due_now.new.seat) c.in_default.is c.due_now.ensures.due,
)

pub leaf_at-requires-clause-few : goal.leaf_at-requires-clause-few
leaf_at-requires-clause-few g c =
    let cf = g.C.Disk.facts in
    let bf = g.B.Disk.facts in
    let due = c.in-Some.due in
    let was = subst (λ (o : Option Candidate). HasSeenDue cf bf c.args.before o c.args.seat.now
    c.due_now.new.seat) c.in-Some.is c.due_now.ensures.due in
    let range = in_range cf bf c.args.before due c.args.seat.now c.due_now.new.seat was in
    let first = c.start.ensures in
    let count = c.from.ensures in omega (arith, range, first, count)

pub returns-in-Err-clause-err : goal.returns-in-Err-clause-err
returns-in-Err-clause-err g c =
    let cf = g.C.Disk.facts in
    let bf = g.B.Disk.facts in
    let due = c.in-Some.due in
    let was = subst (λ (o : Option Candidate). HasSeenDue cf bf c.args.before o c.args.seat.now
    c.due_now.new.seat) c.in-Some.is c.due_now.ensures.due in
    inl (record {
      due = due;
      seen = c.due_now.new.seat;
      was_due = was;
      why = subst (λ n. HasStoppedAt cf bf n due.key.size c.in-Err.error c.due_now.new.seat
          c.leaf_at.new.seat) c.start.ensures
          (subst (λ n. HasStoppedAt cf bf c.start.result n c.in-Err.error c.due_now.new.seat
          c.leaf_at.new.seat) c.from.ensures c.in-Err.ensures.stopped);
    })

pub take_three-requires-clause-leaves : goal.take_three-requires-clause-leaves
take_three-requires-clause-leaves g c = c.in-Ok.ensures.ok.rest

pub settle_in_hand-done-requires-clause-firm : goal.settle_in_hand-done-requires-clause-firm
settle_in_hand-done-requires-clause-firm g c =
    let cf = g.C.Disk.facts in
    let bf = g.B.Disk.facts in
    firm_then cf bf c.args.before c.due_now.new.seat c.leaf_at.new.seat c.take_three.new.seat
    c.in-Ok.ensures.did c.take_three.ensures.done
    (firm_seen cf bf c.args.before c.due_now.result c.args.seat.now c.due_now.new.seat
    c.due_now.ensures.due c.requires.firm)

pub settle_in_hand-done-requires-clause-four : goal.settle_in_hand-done-requires-clause-four
settle_in_hand-done-requires-clause-four g c = (
  c.start.result,
  c.from.result,
  has_four c.leaf_at.new.hand c.take_three.new.hand (length c.args.parts.now.run.start)
      c.in-Ok.number c.start.result c.from.result c.in-Ok.ensures.ok c.in-Ok.ensures.part
      c.take_three.ensures.leaves c.take_three.ensures.flight c.take_three.ensures.buckets
      c.take_three.ensures.journal,
)

pub give_back-requires-clause-four : goal.give_back-requires-clause-four
give_back-requires-clause-four g c =
    let has = c.in-Ok.ensures.ok.has in (
      has.hand.part,
      c.settle_in_hand-done.ensures.kinds ∙ c.take_three.ensures.kinds has.hand has.is,
    )

pub returns-in-Ok-done-clause-ok : goal.returns-in-Ok-done-clause-ok
returns-in-Ok-done-clause-ok g c =
    let cf = g.C.Disk.facts in
    let bf = g.B.Disk.facts in
    let due = c.in-Some.due in
    let was = subst (λ (o : Option Candidate). HasSeenDue cf bf c.args.before o c.args.seat.now
    c.due_now.new.seat) c.in-Some.is c.due_now.ensures.due in
    inl (tried_in cf bf c.args.before c.in-Ok.number c.in-Ok-done.come due c.args.seat.now
    c.due_now.new.seat c.leaf_at.new.seat c.take_three.new.seat c.settle_in_hand-done.new.seat
    c.give_back.new.seat was c.in-Ok.ensures.did c.take_three.ensures.done
    c.in-Ok-done.ensures.ok c.give_back.ensures.done)

pub returns-in-Err-done-clause-err : goal.returns-in-Err-done-clause-err
returns-in-Err-done-clause-err g c =
    let cf = g.C.Disk.facts in
    let bf = g.B.Disk.facts in
    inr (stopped_in cf bf c.args.before c.in-Err-done.error c.due_now.result c.args.seat.now
    c.due_now.new.seat c.leaf_at.new.seat c.take_three.new.seat c.settle_in_hand-done.new.seat
    c.give_back.new.seat c.due_now.ensures.due c.in-Ok.ensures.did c.take_three.ensures.done
    c.in-Err-done.ensures.err c.in-Err-done.ensures.cause c.give_back.ensures.done)
