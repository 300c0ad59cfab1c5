use Rattle.std.proofs.Common.{ap}
use Rattle.bc_parts.specs.Seat.{SeatView}
use Rattle.bc_seats.proofs.Knowing.{since_commit, admitted_at, committed_at, waited_later, seat_later, since_later, kept_committed, kept_since}
use Rattle.bc_seats.proofs.seats.commit.Goals as goal

pub commit-requires-clause-enabled : goal.commit-requires-clause-enabled
commit-requires-clause-enabled g c = λ es at. c.requires.enabled _
    (since_commit g.M.Machine c.args.seat.now c.args.event es at)
    (admitted_at g.M.Machine c.args.seat.now c.args.event es at)

pub returns-in-Ok-clause-ok : goal.returns-in-Ok-clause-ok
returns-in-Ok-clause-ok g c = let h = c.in-Ok.ensures.ok in
    let v = c.args.seat.now in
    let e = c.args.event in
    committed_at g.M.Machine v c.commit.new.seat e h.0 _ h.1
    (c.requires.enabled _ (since_commit g.M.Machine v e h.0 h.1) (admitted_at g.M.Machine v e h.0 h.1))
    c.requires.promise h.2 h.3 c.in-Ok.ensures.own

pub returns-in-Ok-clause-kept : goal.returns-in-Ok-clause-kept
returns-in-Ok-clause-kept g c = let h = c.in-Ok.ensures.ok in
    let v = c.args.seat.now in
    let w = c.commit.new.seat in
    let e = c.args.event in
    let is = h.2 in
    kept_committed g.M.Machine g.met.M.Machine.frame v w e c.requires.seat
    (seat_later g.M.Machine v w c.requires.seat c.in-Ok.ensures.run
    (ap (λ (x : SeatView _ _ _). x.run) is) (ap (λ (x : SeatView _ _ _). x.first) is)
    (ap (λ (x : SeatView _ _ _). x.end) is))
    (ap (λ (x : SeatView _ _ _). x.parts) is)
    (committed_at g.M.Machine v w e h.0 _ h.1
    (c.requires.enabled _ (since_commit g.M.Machine v e h.0 h.1) (admitted_at g.M.Machine v e h.0 h.1))
    c.requires.promise h.2 h.3 c.in-Ok.ensures.own)

pub returns-in-Err-clause-err : goal.returns-in-Err-clause-err
returns-in-Err-clause-err g c = let h = c.in-Err.ensures.refused in
    let is = h.2 in
    waited_later g.M.Machine c.args.seat.now c.commit.new.seat c.requires.seat h.0
    (ap (λ (x : SeatView _ _ _). x.run) is) (ap (λ (x : SeatView _ _ _). x.first) is)
    (ap (λ (x : SeatView _ _ _). x.end) is) (ap (λ (x : SeatView _ _ _). x.promises) is)
    (λ none. absurd (cc (none, ap (λ (x : SeatView _ _ _). x.heard) is)))

pub returns-in-Err-clause-kept : goal.returns-in-Err-clause-kept
returns-in-Err-clause-kept g c = let h = c.in-Err.ensures.refused in
    let v = c.args.seat.now in
    let w = c.commit.new.seat in
    let is = h.2 in
    let run = ap (λ (x : SeatView _ _ _). x.run) is in
    let first = ap (λ (x : SeatView _ _ _). x.first) is in
    let end = ap (λ (x : SeatView _ _ _). x.end) is in
    kept_since g.M.Machine g.met.M.Machine.frame v w _ c.requires.seat
    (seat_later g.M.Machine v w c.requires.seat h.0.run run first end)
    (ap (λ (x : SeatView _ _ _). x.parts) is) run first end
    (since_later g.M.Machine v w h.0 run)
