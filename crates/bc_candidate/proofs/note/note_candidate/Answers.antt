use Rattle.std.proofs.Common.{refl}
use Rattle.bc_place.proofs.Keeping.{keeps_waited}
use Rattle.bc_place.proofs.of_bc_deed.Claiming.{halted_between}
use Rattle.bc_place.proofs.of_bc_deed.May.{did_nothing, map_if_err, map_if_ok, other_number}
use Rattle.bc_place.proofs.of_bc_hand.Knowing.{map_err}
use Rattle.bc_place.proofs.of_bc_hand.Lending.{works_flight}
use Rattle.bc_candidate.proofs.Between.{all_between, noted_between}
use Rattle.bc_candidate.proofs.Hands.{same_hand, tied}
use Rattle.bc_candidate.proofs.Seeing.{claim_kept_waited}
use Rattle.bc_candidate.specs.Noted.{HasAdded}
use Rattle.bc_candidate.proofs.note.note_candidate.Goals as goal

pub returns-in-Some-clause-err : goal.returns-in-Some-clause-err
returns-in-Some-clause-err g c = (
  c.in-Some.ensures.stopped c.in-Some.device refl,
  did_nothing g.C.Disk.facts g.B.Disk.facts c.args.seat.now c.requires.works.seat,
)

pub note_in-done-requires-clause-own : goal.note_in-done-requires-clause-own
note_in-done-requires-clause-own g c = (keeps_waited g.C.Disk.facts g.B.Disk.facts c.args.seat.now
    c.lend_flight-flight.new.seat c.requires.works.seat
    c.lend_flight-flight.ensures.waited).own c.args.place c.requires.own

pub note_in-done-requires-clause-keep : goal.note_in-done-requires-clause-keep
note_in-done-requires-clause-keep g c = (claim_kept_waited g.C.Disk.facts g.B.Disk.facts
    c.args.seat.now c.lend_flight-flight.new.seat c.requires.works.seat
    c.lend_flight-flight.ensures.waited).keepable c.args.first c.args.place c.requires.keep

pub return_flight-requires : goal.return_flight-requires
return_flight-requires g c = works_flight g.C.Disk.facts g.B.Disk.facts c.args.parts.now
    c.lend_flight-flight.new.seat c.note_in-done.new.seat c.lend_flight-flight.new.hand
    c.lend_flight-flight.result.0 c.note_in-done.new.flight _ c.lend_flight-flight.ensures.lent
    c.note_in-done.ensures.seat c.note_in-done.ensures.kept (other_number 1)
    c.note_in-done.ensures.flight

pub returns-clause-ok : goal.returns-clause-ok
returns-clause-ok g c = map_if_ok c.note_in-done.result (λ number h.
    noted_between g.C.Disk.facts g.B.Disk.facts c.args.seat.now c.lend_flight-flight.new.seat
    c.note_in-done.new.seat c.return_flight.new.seat c.lend_flight-flight.ensures.still
    c.requires.works.seat c.lend_flight-flight.ensures.waited c.note_in-done.ensures.seat
    c.return_flight.ensures.waited c.return_flight.ensures.seen c.return_flight.ensures.heard
    c.return_flight.ensures.works.seat number c.args.first c.args.place h)
    c.note_in-done.ensures.ok

pub returns-clause-flight : goal.returns-clause-flight
returns-clause-flight g c = map_if_ok c.note_in-done.result (λ number h. tied c.args.hand.now
    c.lend_flight-flight.new.hand c.return_flight.new.hand _ _ _
    c.lend_flight-flight.ensures.these c.lend_flight-flight.ensures.taken
    c.return_flight.ensures.hand (HasAdded number c.args.first c.args.place) h)
    c.note_in-done.ensures.added

pub returns-clause-same : goal.returns-clause-same
returns-clause-same g c = map_err c.note_in-done.result (λ same. same_hand c.args.hand.now
    c.lend_flight-flight.new.hand c.return_flight.new.hand _ _ _
    c.lend_flight-flight.ensures.these c.lend_flight-flight.ensures.taken
    c.return_flight.ensures.hand c.lend_flight-flight.ensures.hand same)
    c.note_in-done.ensures.same

pub returns-clause-err : goal.returns-clause-err
returns-clause-err g c = map_if_err c.note_in-done.result (λ e h.
    halted_between g.C.Disk.facts g.B.Disk.facts e c.args.seat.now
    c.lend_flight-flight.new.seat c.note_in-done.new.seat c.return_flight.new.seat
    c.lend_flight-flight.ensures.still c.lend_flight-flight.ensures.waited h
    c.return_flight.ensures.waited c.return_flight.ensures.seen c.return_flight.ensures.heard
    c.return_flight.ensures.works.seat)
    c.note_in-done.ensures.err

pub returns-clause-keeps : goal.returns-clause-keeps
returns-clause-keeps g c = map_err c.note_in-done.result
    (all_between g.C.Disk.facts g.B.Disk.facts c.args.seat.now c.lend_flight-flight.new.seat
    c.note_in-done.new.seat c.return_flight.new.seat c.lend_flight-flight.ensures.still
    c.requires.works.seat c.lend_flight-flight.ensures.waited c.note_in-done.ensures.seat
    c.return_flight.ensures.waited c.return_flight.ensures.seen c.return_flight.ensures.heard
    c.return_flight.ensures.works.seat)
    c.note_in-done.ensures.keeps
