use Rattle.std.proofs.Common.{ap}
use Rattle.bc_settle.specs.bc_hand.declared.hand.Hand.{Hand}
use Rattle.bc_settled.proofs.Coming.{twice, waited_done}
use Rattle.bc_settled.proofs.Hands.{flight_stood}
use Rattle.bc_settled.proofs.next.due_now.Goals as goal

pub borrow_flight-flight-requires-clause-order : goal.borrow_flight-flight-requires-clause-order
borrow_flight-flight-requires-clause-order g c = λ _. record {
  buckets = ap (λ (h : Hand _ _). h.buckets) c.requires.empty;
  journal = ap (λ (h : Hand _ _). h.journal) c.requires.empty;
  cache = ap (λ (h : Hand _ _). h.cache) c.requires.empty;
  backing = ap (λ (h : Hand _ _). h.backing) c.requires.empty;
}

pub due_in-due-requires : goal.due_in-due-requires
due_in-due-requires g c = (
  c.borrow_flight-flight.result.0,
  ap (λ (h : Hand _ _). h.flight) c.return_flight.ensures.hand,
)

pub returns-clause-due : goal.returns-clause-due
returns-clause-due g c =
    let cf = g.C.Disk.facts in
    let bf = g.B.Disk.facts in
    let flight = c.borrow_flight-flight.result.0 in
    let is = ap (λ (h : Hand _ _). h.flight) c.return_flight.ensures.hand in record {
      at = c.return_flight.new.seat;
      way = twice cf bf c.args.seat.now c.borrow_flight-flight.new.seat
          c.return_flight.new.seat c.borrow_flight-flight.ensures.lent.seat
          c.borrow_flight-flight.ensures.waited c.return_flight.ensures.works.seat
          c.return_flight.ensures.waited;
      flight = flight;
      stood = flight_stood cf bf c.args.parts.now c.return_flight.new.seat
          c.return_flight.new.hand c.return_flight.ensures.works flight is;
      is = (c.due_in-due.ensures flight is).0;
      then = waited_done cf bf c.return_flight.new.seat c.return_flight-2.new.seat
          c.return_flight-2.ensures.works.seat c.return_flight-2.ensures.waited;
    }
