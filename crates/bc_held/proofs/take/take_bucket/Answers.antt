use Rattle.std.proofs.Common.{None}
use Rattle.bc_held.proofs.Doing.{kept_between, kept_parts, known_returned, map_on_err, new_between, none_left, taken_between, took_between}
use Rattle.bc_held.proofs.Hands.{same_hand, these_as, tied}
use Rattle.bc_held.specs.Held.{IsHeldFor, IsVacantIn}
use Rattle.bc_held.specs.Taken.{TookOr}
use Rattle.bc_place.proofs.Knowing.{before_since}
use Rattle.bc_place.proofs.Storing.{kept_between as places_between}
use Rattle.bc_place.proofs.of_bc_deed.May.{did_nothing, map_if_ok, other_number}
use Rattle.bc_place.proofs.of_bc_hand.Between.{did_between}
use Rattle.bc_place.proofs.of_bc_hand.Lends.{works_buckets}
use Rattle.bc_place.specs.bc_hand.Seats.{world}
use Rattle.bc_held.proofs.take.take_bucket.Goals as goal

pub returns-in-Some-clause-err : goal.returns-in-Some-clause-err
returns-in-Some-clause-err g c = did_nothing g.C.Disk.facts g.B.Disk.facts c.args.seat.now
    c.requires.works.seat

pub take_in-done-requires-clause-before : goal.take_in-done-requires-clause-before
take_in-done-requires-clause-before g c = before_since g.C.Disk.facts g.B.Disk.facts
    c.args.seat.now c.args.before c.requires.before
    (world g.C.Disk.facts g.B.Disk.facts c.lend_buckets-buckets.new.seat)
    c.lend_buckets-buckets.ensures.waited.since

pub return_buckets-requires : goal.return_buckets-requires
return_buckets-requires g c = works_buckets g.C.Disk.facts g.B.Disk.facts c.args.parts.now
    c.lend_buckets-buckets.new.seat c.take_in-done.new.seat c.lend_buckets-buckets.new.hand
    _ _ _ c.lend_buckets-buckets.ensures.lent
    c.take_in-done.ensures.seat c.take_in-done.ensures.kept (other_number 2)
    c.take_in-done.ensures.buckets

pub returns-clause-ok : goal.returns-clause-ok
returns-clause-ok g c = map_if_ok c.take_in-done.result (λ answer h.
    taken_between g.C.Disk.facts g.B.Disk.facts c.args.seat.now
    c.lend_buckets-buckets.new.seat c.take_in-done.new.seat c.return_buckets.new.seat
    c.lend_buckets-buckets.ensures.still c.lend_buckets-buckets.ensures.waited
    c.return_buckets.ensures.waited c.return_buckets.ensures.seen c.return_buckets.ensures.heard
    c.return_buckets.ensures.works.seat c.args.before c.args.want answer _ _ h)
    c.take_in-done.ensures.ok

pub returns-clause-part : goal.returns-clause-part
returns-clause-part g c = map_if_ok c.take_in-done.result (λ answer h. tied c.args.hand.now
    c.lend_buckets-buckets.new.hand c.return_buckets.new.hand c.get_mut.result.now
    c.take_in-done.new.part c.lend_buckets-buckets.result.1 (these_as c.args.hand.now.buckets
    c.lend_buckets-buckets.result.0 c.get_mut.result.now c.get_mut.ensures.part
    c.lend_buckets-buckets.ensures.these) c.lend_buckets-buckets.ensures.taken
    c.return_buckets.ensures.hand (λ p q. TookOr g.C.Disk.facts g.B.Disk.facts c.args.before
    c.args.want answer p q c.args.seat.now c.return_buckets.new.seat) (took_between
    g.C.Disk.facts g.B.Disk.facts c.args.seat.now c.lend_buckets-buckets.new.seat
    c.take_in-done.new.seat c.return_buckets.new.seat c.lend_buckets-buckets.ensures.still
    c.lend_buckets-buckets.ensures.waited c.return_buckets.ensures.waited
    c.return_buckets.ensures.seen c.return_buckets.ensures.heard
    c.return_buckets.ensures.works.seat c.args.before c.args.want answer _ _ h))
    c.take_in-done.ensures.ok

pub returns-clause-none : goal.returns-clause-none
returns-clause-none g c = map_if_ok c.take_in-done.result (λ answer h. none_left
    g.C.Disk.facts g.B.Disk.facts c.args.before c.args.want answer
    c.get_mut.result.now c.take_in-done.new.part c.lend_buckets-buckets.new.seat
    c.take_in-done.new.seat h (λ same. same_hand c.args.hand.now
    c.lend_buckets-buckets.new.hand c.return_buckets.new.hand c.get_mut.result.now
    c.take_in-done.new.part c.lend_buckets-buckets.result.1 (these_as c.args.hand.now.buckets
    c.lend_buckets-buckets.result.0 c.get_mut.result.now c.get_mut.ensures.part
    c.lend_buckets-buckets.ensures.these) c.lend_buckets-buckets.ensures.taken
    c.return_buckets.ensures.hand c.lend_buckets-buckets.ensures.hand same))
    c.take_in-done.ensures.ok

pub returns-clause-same : goal.returns-clause-same
returns-clause-same g c = map_on_err c.take_in-done.result (λ same. same_hand c.args.hand.now
    c.lend_buckets-buckets.new.hand c.return_buckets.new.hand c.get_mut.result.now
    c.take_in-done.new.part c.lend_buckets-buckets.result.1 (these_as c.args.hand.now.buckets
    c.lend_buckets-buckets.result.0 c.get_mut.result.now c.get_mut.ensures.part
    c.lend_buckets-buckets.ensures.these) c.lend_buckets-buckets.ensures.taken
    c.return_buckets.ensures.hand c.lend_buckets-buckets.ensures.hand same)
    c.take_in-done.ensures.same

pub returns-clause-knows : goal.returns-clause-knows
returns-clause-knows g c = map_if_ok c.take_in-done.result (λ answer h.
    map_if_ok answer (λ b holds. known_returned g.C.Disk.facts g.B.Disk.facts
    c.take_in-done.new.seat c.return_buckets.new.seat (λ i. IsHeldFor i b)
    c.return_buckets.ensures.waited c.return_buckets.ensures.seen holds) h)
    c.take_in-done.ensures.knows

pub returns-clause-vacant : goal.returns-clause-vacant
returns-clause-vacant g c = map_if_ok c.take_in-done.result (λ answer h.
    map_if_ok answer (λ b vacant. known_returned g.C.Disk.facts g.B.Disk.facts
    c.take_in-done.new.seat c.return_buckets.new.seat (λ i. IsVacantIn b)
    c.return_buckets.ensures.waited c.return_buckets.ensures.seen vacant) h)
    c.take_in-done.ensures.vacant

pub returns-clause-other : goal.returns-clause-other
returns-clause-other g c = map_if_ok c.take_in-done.result (λ answer h.
    map_if_ok answer (λ b new. new_between g.C.Disk.facts g.B.Disk.facts c.args.seat.now
    c.lend_buckets-buckets.new.seat c.take_in-done.new.seat c.return_buckets.new.seat
    c.lend_buckets-buckets.ensures.still c.lend_buckets-buckets.ensures.waited
    c.return_buckets.ensures.waited c.return_buckets.ensures.seen c.return_buckets.ensures.heard
    c.return_buckets.ensures.works.seat b c.requires.works.seat new c.take_in-done.ensures.seat) h)
    c.take_in-done.ensures.other

pub returns-clause-keeps : goal.returns-clause-keeps
returns-clause-keeps g c = kept_between g.C.Disk.facts g.B.Disk.facts c.args.seat.now
    c.lend_buckets-buckets.new.seat c.take_in-done.new.seat c.return_buckets.new.seat
    c.lend_buckets-buckets.ensures.still c.lend_buckets-buckets.ensures.waited
    c.return_buckets.ensures.waited c.return_buckets.ensures.seen c.return_buckets.ensures.heard
    c.return_buckets.ensures.works.seat _ c.requires.works.seat c.take_in-done.ensures.keeps
    c.take_in-done.ensures.seat
    (kept_parts g.C.Disk.facts g.B.Disk.facts c.lend_buckets-buckets.new.seat
    c.take_in-done.new.seat _ c.take_in-done.ensures.kept)

pub returns-clause-places : goal.returns-clause-places
returns-clause-places g c = places_between g.C.Disk.facts g.B.Disk.facts c.args.seat.now
    c.lend_buckets-buckets.new.seat c.take_in-done.new.seat c.return_buckets.new.seat
    c.requires.works.seat c.lend_buckets-buckets.ensures.waited c.take_in-done.ensures.places
    c.take_in-done.ensures.seat c.return_buckets.ensures.waited

pub returns-clause-err : goal.returns-clause-err
returns-clause-err g c = map_on_err c.take_in-done.result (λ did.
    did_between g.C.Disk.facts g.B.Disk.facts None c.args.seat.now
    c.lend_buckets-buckets.new.seat c.take_in-done.new.seat c.return_buckets.new.seat
    c.lend_buckets-buckets.ensures.still c.lend_buckets-buckets.ensures.waited did
    c.return_buckets.ensures.waited c.return_buckets.ensures.seen c.return_buckets.ensures.heard
    c.return_buckets.ensures.works.seat) c.take_in-done.ensures.err
