use Rattle.std.proofs.Common.{ap}
use Rattle.bc_parts.specs.Seat.{SeatView}
use Rattle.bc_seats.proofs.Knowing.{waited_not}
use Rattle.bc_seats.proofs.seats.give.Goals as goal

pub returns-clause-waited : goal.returns-clause-waited
returns-clause-waited g c = let is = c.give.ensures in
    waited_not g.M.Machine c.args.seat.now c.give.new.seat
    (ap (λ (x : SeatView _ _ _). x.run) is) (ap (λ (x : SeatView _ _ _). x.first) is)
    (ap (λ (x : SeatView _ _ _). x.end) is) (ap (λ (x : SeatView _ _ _). x.promises) is)
    (ap (λ (x : SeatView _ _ _). x.seen) is) (ap (λ (x : SeatView _ _ _). x.heard) is)
