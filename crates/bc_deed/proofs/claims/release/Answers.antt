use Rattle.std.proofs.Common.{Some, sym, ◌∙◌}
use Rattle.bc_events.specs.declared.event.Deed.TheVariants as deed
use Rattle.bc_hand.proofs.Knowing.{note_waited}
use Rattle.bc_hand.proofs.Lending.{works_flight}
use Rattle.bc_hand.proofs.Between.{did_between}
use Rattle.bc_deed.proofs.May.{other_number}
use Rattle.bc_deed.proofs.claims.release.Goals as goal

pub release_in-requires-clause-its : goal.release_in-requires-clause-its
release_in-requires-clause-its g c = let its = c.requires.its in record {
  its_seat = its.its_seat ∙ sym c.borrow_flight-flight.ensures.waited.same.first;
  some = its.some;
  range = (note_waited g.C.Disk.facts g.B.Disk.facts c.args.seat.now c.borrow_flight-flight.new.seat
      c.requires.works.seat c.borrow_flight-flight.ensures.waited).range ∙ its.range;
}

pub return_flight-requires : goal.return_flight-requires
return_flight-requires g c = works_flight g.C.Disk.facts g.B.Disk.facts c.args.parts.now
    c.borrow_flight-flight.new.seat c.release_in.new.seat c.borrow_flight-flight.new.hand
    c.borrow_flight-flight.result.0 c.release_in.new.flight _ c.borrow_flight-flight.ensures.lent
    c.release_in.ensures.did.seat c.release_in.ensures.kept (other_number 1) c.release_in.ensures.flight

pub returns-clause-did : goal.returns-clause-did
returns-clause-did g c = did_between g.C.Disk.facts g.B.Disk.facts (Some deed.Release) c.args.seat.now
    c.borrow_flight-flight.new.seat c.release_in.new.seat c.return_flight.new.seat
    c.borrow_flight-flight.ensures.still c.borrow_flight-flight.ensures.waited c.release_in.ensures.did
    c.return_flight.ensures.waited c.return_flight.ensures.seen c.return_flight.ensures.heard
    c.return_flight.ensures.works.seat
