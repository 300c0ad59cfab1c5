use Rattle.std.proofs.Common.{refl}
use Rattle.bc_deed.specs.bc_hand.Seats.{world}
use Rattle.bc_deed.proofs.of_bc_hand.Lends.{works_buckets}
use Rattle.bc_deed.proofs.May.{did_nothing, map_if_err, map_if_ok, other_number}
use Rattle.bc_deed.specs.bc_hand.declared.error.StepError.TheVariants as error
use Rattle.bc_place.specs.Place.{IsOwn}
use Rattle.bc_place.proofs.Knowing.{before_since}
use Rattle.bc_place.proofs.Placing.{halted_between, halted_first, known_returned, placed_between, same_but_buckets}
use Rattle.bc_place.proofs.Storing.{keeps_nothing, kept_between, new_between}
use Rattle.bc_place.proofs.pin.pin.Goals as goal

pub returns-in-Some-clause-err : goal.returns-in-Some-clause-err
returns-in-Some-clause-err g c = let v = c.args.seat.now in
    halted_first g.C.Disk.facts g.B.Disk.facts (error.Halted c.in-Some.device) v v
    (c.in-Some.ensures.stopped c.in-Some.device refl)
    (did_nothing g.C.Disk.facts g.B.Disk.facts v c.requires.works.seat)

pub returns-in-Some-clause-keeps : goal.returns-in-Some-clause-keeps
returns-in-Some-clause-keeps g c = keeps_nothing g.C.Disk.facts g.B.Disk.facts c.args.seat.now
    c.requires.works.seat

pub pin_in-done-requires-clause-before : goal.pin_in-done-requires-clause-before
pin_in-done-requires-clause-before g c = before_since g.C.Disk.facts g.B.Disk.facts c.args.seat.now
    c.args.before c.requires.before
    (world g.C.Disk.facts g.B.Disk.facts c.borrow_buckets-buckets.new.seat)
    c.borrow_buckets-buckets.ensures.waited.since

pub return_buckets-requires : goal.return_buckets-requires
return_buckets-requires g c = works_buckets g.C.Disk.facts g.B.Disk.facts c.args.parts.now
    c.borrow_buckets-buckets.new.seat c.pin_in-done.new.seat c.borrow_buckets-buckets.new.hand
    _ _ _ c.borrow_buckets-buckets.ensures.lent
    c.pin_in-done.ensures.seat c.pin_in-done.ensures.kept (other_number 2)
    c.pin_in-done.ensures.buckets

pub returns-clause-rest : goal.returns-clause-rest
returns-clause-rest g c = same_but_buckets c.args.hand.now c.borrow_buckets-buckets.new.hand
    c.return_buckets.new.hand _ c.borrow_buckets-buckets.ensures.hand c.return_buckets.ensures.hand

pub returns-clause-ok : goal.returns-clause-ok
returns-clause-ok g c = map_if_ok c.pin_in-done.result (λ answer h.
    placed_between g.C.Disk.facts g.B.Disk.facts c.args.before c.args.count answer c.args.seat.now
    c.borrow_buckets-buckets.new.seat c.pin_in-done.new.seat c.return_buckets.new.seat
    c.borrow_buckets-buckets.ensures.still c.borrow_buckets-buckets.ensures.waited h
    c.return_buckets.ensures.waited c.return_buckets.ensures.seen c.return_buckets.ensures.heard
    c.return_buckets.ensures.works.seat) c.pin_in-done.ensures.ok

pub returns-clause-knows : goal.returns-clause-knows
returns-clause-knows g c = map_if_ok c.pin_in-done.result (λ answer h.
    map_if_ok answer (λ p own. known_returned g.C.Disk.facts g.B.Disk.facts c.pin_in-done.new.seat
    c.return_buckets.new.seat (λ i. IsOwn i p) c.return_buckets.ensures.waited
    c.return_buckets.ensures.seen own) h) c.pin_in-done.ensures.knows

pub returns-clause-apart : goal.returns-clause-apart
returns-clause-apart g c = map_if_ok c.pin_in-done.result (λ answer h.
    map_if_ok answer (λ p new. new_between g.C.Disk.facts g.B.Disk.facts p c.args.seat.now
    c.borrow_buckets-buckets.new.seat c.pin_in-done.new.seat c.return_buckets.new.seat
    c.requires.works.seat c.borrow_buckets-buckets.ensures.waited new c.pin_in-done.ensures.seat
    c.return_buckets.ensures.waited) h) c.pin_in-done.ensures.apart

pub returns-clause-err : goal.returns-clause-err
returns-clause-err g c = map_if_err c.pin_in-done.result (λ e h.
    halted_between g.C.Disk.facts g.B.Disk.facts e c.args.seat.now
    c.borrow_buckets-buckets.new.seat c.pin_in-done.new.seat c.return_buckets.new.seat
    c.borrow_buckets-buckets.ensures.waited h c.return_buckets.ensures.waited
    c.return_buckets.ensures.seen) c.pin_in-done.ensures.err

pub returns-clause-keeps : goal.returns-clause-keeps
returns-clause-keeps g c = kept_between g.C.Disk.facts g.B.Disk.facts c.args.seat.now
    c.borrow_buckets-buckets.new.seat c.pin_in-done.new.seat c.return_buckets.new.seat
    c.requires.works.seat c.borrow_buckets-buckets.ensures.waited c.pin_in-done.ensures.keeps
    c.pin_in-done.ensures.seat c.return_buckets.ensures.waited
