use Rattle.std.proofs.Common.{ap}
use Rattle.bc_serve.proofs.of_bc_deed.Joining.{has_joined, works_joined}
use Rattle.bc_parts.specs.Seat.{SeatView}
use Rattle.bc_cached_serve.proofs.worker.take_in.Goals as goal

pub returns-clause-works : goal.returns-clause-works
returns-clause-works g c = let is = c.join.ensures.seat in
    works_joined g.C.Disk.facts g.B.Disk.facts c.args.parts.now c.args.seat.now c.args.worker
    c.join.new.seat c.requires.works c.requires.idle.works (ap (λ (x : SeatView _ _ _). x.run) is)
    (ap (λ (x : SeatView _ _ _). x.first) is) (ap (λ (x : SeatView _ _ _). x.end) is)
    c.requires.next (ap (λ (x : SeatView _ _ _). x.parts) is)
    (ap (λ (x : SeatView _ _ _). x.heard) is) c.join.ensures.later

pub returns-clause-joined : goal.returns-clause-joined
returns-clause-joined g c = let is = c.join.ensures.seat in
    has_joined g.C.Disk.facts g.B.Disk.facts c.args.seat.now c.args.worker c.join.new.seat
    (ap (λ (x : SeatView _ _ _). x.run) is) (ap (λ (x : SeatView _ _ _). x.first) is)
    (ap (λ (x : SeatView _ _ _). x.end) is) c.join.ensures.later c.join.ensures.other

pub returns-clause-heard : goal.returns-clause-heard
returns-clause-heard g c = ap (λ (x : SeatView _ _ _). x.heard) c.join.ensures.seat
