use Rattle.std.proofs.Common.{ap, sym, ◌∙◌}
use Rattle.bc_parts.specs.Seat.{SeatView}
use Rattle.bc_seats.proofs.Knowing.{waited_later, seat_later, since_later, kept_since}
use Rattle.bc_seats.proofs.seats.meet.Goals as goal

pub returns-clause-waited : goal.returns-clause-waited
returns-clause-waited g c = let is = c.meet.ensures.seat in
    waited_later g.M.Machine c.args.seat.now c.meet.new.seat c.requires.seat c.meet.ensures.later
    (ap (λ (x : SeatView _ _ _). x.run) is) (ap (λ (x : SeatView _ _ _). x.first) is)
    (ap (λ (x : SeatView _ _ _). x.end) is) (ap (λ (x : SeatView _ _ _). x.promises) is)
    (λ none. sym (ap (λ (x : SeatView _ _ _). x.heard) is) ∙ none)

pub returns-clause-kept : goal.returns-clause-kept
returns-clause-kept g c = let is = c.meet.ensures.seat in
    let run = ap (λ (x : SeatView _ _ _). x.run) is in
    let first = ap (λ (x : SeatView _ _ _). x.first) is in
    let end = ap (λ (x : SeatView _ _ _). x.end) is in
    kept_since g.M.Machine g.met.M.Machine.frame c.args.seat.now c.meet.new.seat _
    c.requires.seat (seat_later g.M.Machine c.args.seat.now c.meet.new.seat c.requires.seat c.meet.ensures.later.run
    run first end)
    (ap (λ (x : SeatView _ _ _). x.parts) is) run first end
    (since_later g.M.Machine c.args.seat.now c.meet.new.seat c.meet.ensures.later run)
