use Rattle.std.proofs.Common.{refl, ap, ◌∙◌}
use Rattle.bc_hand.proofs.Knowing.{note_waited}
use Rattle.bc_hand.proofs.Lending.{works_flight}
use Rattle.bc_deed.proofs.May.{did_nothing, other_number, map_if_ok, map_if_err}
use Rattle.bc_deed.proofs.Claiming.{claimed_between, halted_between}
use Rattle.bc_deed.proofs.claims.claim.Goals as goal

pub returns-in-Some-clause-err : goal.returns-in-Some-clause-err
returns-in-Some-clause-err g c = (
  c.in-Some.ensures.stopped c.in-Some.device refl,
  did_nothing g.C.Disk.facts g.B.Disk.facts c.args.seat.now c.requires.works.seat,
)

pub claim_in-done-requires-clause-none : goal.claim_in-done-requires-clause-none
claim_in-done-requires-clause-none g c = ap (λ r. r.count)
    (note_waited g.C.Disk.facts g.B.Disk.facts c.args.seat.now c.borrow_flight-flight.new.seat
    c.requires.works.seat c.borrow_flight-flight.ensures.waited).range ∙ c.requires.none

pub return_flight-requires : goal.return_flight-requires
return_flight-requires g c = works_flight g.C.Disk.facts g.B.Disk.facts c.args.parts.now
    c.borrow_flight-flight.new.seat c.claim_in-done.new.seat c.borrow_flight-flight.new.hand
    c.borrow_flight-flight.result.0 c.claim_in-done.new.flight _ c.borrow_flight-flight.ensures.lent
    c.claim_in-done.ensures.seat c.claim_in-done.ensures.kept (other_number 1) c.claim_in-done.ensures.flight

pub returns-clause-ok : goal.returns-clause-ok
returns-clause-ok g c = map_if_ok c.claim_in-done.result (λ done h.
    claimed_between g.C.Disk.facts g.B.Disk.facts done c.args.first c.args.count c.args.share c.args.seat.now
    c.borrow_flight-flight.new.seat c.claim_in-done.new.seat c.return_flight.new.seat
    c.borrow_flight-flight.ensures.still c.borrow_flight-flight.ensures.waited h
    c.return_flight.ensures.waited c.return_flight.ensures.seen c.return_flight.ensures.heard
    c.return_flight.ensures.works.seat)
    c.claim_in-done.ensures.ok

pub returns-clause-err : goal.returns-clause-err
returns-clause-err g c = map_if_err c.claim_in-done.result (λ e h.
    halted_between g.C.Disk.facts g.B.Disk.facts e c.args.seat.now
    c.borrow_flight-flight.new.seat c.claim_in-done.new.seat c.return_flight.new.seat
    c.borrow_flight-flight.ensures.still c.borrow_flight-flight.ensures.waited h
    c.return_flight.ensures.waited c.return_flight.ensures.seen c.return_flight.ensures.heard
    c.return_flight.ensures.works.seat)
    c.claim_in-done.ensures.err
