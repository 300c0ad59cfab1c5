use Rattle.std.proofs.Common.{ap}
use Rattle.bc_parts.specs.Seat.{SeatView}
use Rattle.bc_seats.proofs.Knowing.{seat_later, since_later, kept_since, went_later}
use Rattle.bc_seats.proofs.seats.promise.Goals as goal

pub returns-in-Ok-clause-kept : goal.returns-in-Ok-clause-kept
returns-in-Ok-clause-kept g c = let is = c.promise.ensures.seat in
    let run = ap (λ (x : SeatView _ _ _). x.run) is in
    let first = ap (λ (x : SeatView _ _ _). x.first) is in
    let end = ap (λ (x : SeatView _ _ _). x.end) is in
    kept_since g.M.Machine g.met.M.Machine.frame c.args.seat.now c.promise.new.seat _
    c.requires.seat (seat_later g.M.Machine c.args.seat.now c.promise.new.seat c.requires.seat
    c.promise.ensures.later.run run first end)
    (ap (λ (x : SeatView _ _ _). x.parts) is) run first end
    (since_later g.M.Machine c.args.seat.now c.promise.new.seat c.promise.ensures.later run)

pub returns-in-Err-clause-kept : goal.returns-in-Err-clause-kept
returns-in-Err-clause-kept g c = let is = c.promise.ensures.seat in
    let run = ap (λ (x : SeatView _ _ _). x.run) is in
    let first = ap (λ (x : SeatView _ _ _). x.first) is in
    let end = ap (λ (x : SeatView _ _ _). x.end) is in
    kept_since g.M.Machine g.met.M.Machine.frame c.args.seat.now c.promise.new.seat _
    c.requires.seat (seat_later g.M.Machine c.args.seat.now c.promise.new.seat c.requires.seat
    c.promise.ensures.later.run run first end)
    (ap (λ (x : SeatView _ _ _). x.parts) is) run first end
    (since_later g.M.Machine c.args.seat.now c.promise.new.seat c.promise.ensures.later run)

pub returns-in-Ok-clause-since : goal.returns-in-Ok-clause-since
returns-in-Ok-clause-since g c = since_later g.M.Machine c.args.seat.now c.promise.new.seat
    c.promise.ensures.later (ap (λ (x : SeatView _ _ _). x.run) c.promise.ensures.seat)

pub returns-in-Err-clause-since : goal.returns-in-Err-clause-since
returns-in-Err-clause-since g c = since_later g.M.Machine c.args.seat.now c.promise.new.seat
    c.promise.ensures.later (ap (λ (x : SeatView _ _ _). x.run) c.promise.ensures.seat)

pub returns-in-Ok-clause-went : goal.returns-in-Ok-clause-went
returns-in-Ok-clause-went g c = let is = c.promise.ensures.seat in
    went_later g.M.Machine c.args.seat.now c.promise.new.seat c.requires.seat
    c.promise.ensures.later (ap (λ (x : SeatView _ _ _). x.run) is)
    (ap (λ (x : SeatView _ _ _). x.first) is) (ap (λ (x : SeatView _ _ _). x.end) is)

pub returns-in-Err-clause-went : goal.returns-in-Err-clause-went
returns-in-Err-clause-went g c = let is = c.promise.ensures.seat in
    went_later g.M.Machine c.args.seat.now c.promise.new.seat c.requires.seat
    c.promise.ensures.later (ap (λ (x : SeatView _ _ _). x.run) is)
    (ap (λ (x : SeatView _ _ _). x.first) is) (ap (λ (x : SeatView _ _ _). x.end) is)
