use Rattle.std.proofs.Common.{ap, sym, ◌∙◌}
use Rattle.bc_parts.specs.Seat.{SeatView}
use Rattle.bc_seats.proofs.Knowing.{waited_later, seat_later}
use Rattle.bc_seats.proofs.seats.take.Goals as goal

pub returns-clause-waited : goal.returns-clause-waited
returns-clause-waited g c = let is = c.take.ensures.seat in
    waited_later g.M.Machine c.args.seat.now c.take.new.seat c.requires.seat c.take.ensures.later
    (ap (λ (x : SeatView _ _ _). x.run) is) (ap (λ (x : SeatView _ _ _). x.first) is)
    (ap (λ (x : SeatView _ _ _). x.end) is) (ap (λ (x : SeatView _ _ _). x.promises) is)
    (λ none. sym (ap (λ (x : SeatView _ _ _). x.heard) is) ∙ none)

pub returns-clause-seat : goal.returns-clause-seat
returns-clause-seat g c = let is = c.take.ensures.seat in
    seat_later g.M.Machine c.args.seat.now c.take.new.seat c.requires.seat c.take.ensures.later.run
    (ap (λ (x : SeatView _ _ _). x.run) is) (ap (λ (x : SeatView _ _ _). x.first) is)
    (ap (λ (x : SeatView _ _ _). x.end) is)
