use Rattle.std.proofs.Common.{None}
use Rattle.bc_held.proofs.Doing.{holds_spine, kept_between, kept_parts, let_go_between, map_on_err, map_on_ok, went_between}
use Rattle.bc_held.proofs.Hands.{same_hand, these_as, tied}
use Rattle.bc_held.proofs.Keeping.{held_borrowed, vacant_since}
use Rattle.bc_place.proofs.Knowing.{before_since}
use Rattle.bc_place.proofs.Storing.{kept_between as places_between}
use Rattle.bc_place.proofs.of_bc_deed.May.{did_nothing, other_number}
use Rattle.bc_place.proofs.of_bc_hand.Between.{did_between}
use Rattle.bc_place.proofs.of_bc_hand.Lends.{works_buckets}
use Rattle.bc_place.specs.bc_hand.Seats.{world}
use Rattle.bc_held.specs.Taken.{LetGo}
use Rattle.bc_held.proofs.let_go.let_go_bucket.Goals as goal

pub returns-in-Some-clause-err : goal.returns-in-Some-clause-err
returns-in-Some-clause-err g c = did_nothing g.C.Disk.facts g.B.Disk.facts c.args.seat.now
    c.requires.works.seat

pub let_go_in-done-requires-clause-before : goal.let_go_in-done-requires-clause-before
let_go_in-done-requires-clause-before g c = before_since g.C.Disk.facts g.B.Disk.facts
    c.args.seat.now c.args.before c.requires.before
    (world g.C.Disk.facts g.B.Disk.facts c.lend_buckets-buckets.new.seat)
    c.lend_buckets-buckets.ensures.waited.since

pub return_buckets-requires : goal.return_buckets-requires
return_buckets-requires g c = works_buckets g.C.Disk.facts g.B.Disk.facts c.args.parts.now
    c.lend_buckets-buckets.new.seat c.let_go_in-done.new.seat c.lend_buckets-buckets.new.hand
    _ _ _ c.lend_buckets-buckets.ensures.lent
    c.let_go_in-done.ensures.seat c.let_go_in-done.ensures.kept (other_number 2)
    c.let_go_in-done.ensures.buckets

pub returns-clause-ok : goal.returns-clause-ok
returns-clause-ok g c = map_on_ok c.let_go_in-done.result (let_go_between g.C.Disk.facts
    g.B.Disk.facts c.args.seat.now c.lend_buckets-buckets.new.seat c.let_go_in-done.new.seat
    c.return_buckets.new.seat c.lend_buckets-buckets.ensures.still
    c.lend_buckets-buckets.ensures.waited c.return_buckets.ensures.waited
    c.return_buckets.ensures.seen c.return_buckets.ensures.heard
    c.return_buckets.ensures.works.seat c.args.before c.args.bucket _ _)
    c.let_go_in-done.ensures.ok

pub returns-clause-part : goal.returns-clause-part
returns-clause-part g c = map_on_ok c.let_go_in-done.result (λ h. tied c.args.hand.now
    c.lend_buckets-buckets.new.hand c.return_buckets.new.hand c.get_mut.result.now
    c.let_go_in-done.new.part c.lend_buckets-buckets.result.1 (these_as c.args.hand.now.buckets
    c.lend_buckets-buckets.result.0 c.get_mut.result.now c.get_mut.ensures.part
    c.lend_buckets-buckets.ensures.these) c.lend_buckets-buckets.ensures.taken
    c.return_buckets.ensures.hand (λ p q. LetGo g.C.Disk.facts g.B.Disk.facts c.args.before
    c.args.bucket p q c.args.seat.now c.return_buckets.new.seat) (went_between g.C.Disk.facts
    g.B.Disk.facts c.args.seat.now c.lend_buckets-buckets.new.seat c.let_go_in-done.new.seat
    c.return_buckets.new.seat c.lend_buckets-buckets.ensures.still
    c.lend_buckets-buckets.ensures.waited c.return_buckets.ensures.waited
    c.return_buckets.ensures.seen c.return_buckets.ensures.heard
    c.return_buckets.ensures.works.seat c.args.before c.args.bucket _ _ h))
    c.let_go_in-done.ensures.ok

pub returns-clause-same : goal.returns-clause-same
returns-clause-same g c = map_on_err c.let_go_in-done.result (λ same. same_hand c.args.hand.now
    c.lend_buckets-buckets.new.hand c.return_buckets.new.hand c.get_mut.result.now
    c.let_go_in-done.new.part c.lend_buckets-buckets.result.1 (these_as c.args.hand.now.buckets
    c.lend_buckets-buckets.result.0 c.get_mut.result.now c.get_mut.ensures.part
    c.lend_buckets-buckets.ensures.these) c.lend_buckets-buckets.ensures.taken
    c.return_buckets.ensures.hand c.lend_buckets-buckets.ensures.hand same)
    c.let_go_in-done.ensures.same

pub returns-clause-keeps : goal.returns-clause-keeps
returns-clause-keeps g c = kept_between g.C.Disk.facts g.B.Disk.facts c.args.seat.now
    c.lend_buckets-buckets.new.seat c.let_go_in-done.new.seat c.return_buckets.new.seat
    c.lend_buckets-buckets.ensures.still c.lend_buckets-buckets.ensures.waited
    c.return_buckets.ensures.waited c.return_buckets.ensures.seen c.return_buckets.ensures.heard
    c.return_buckets.ensures.works.seat _ c.requires.works.seat c.let_go_in-done.ensures.keeps
    c.let_go_in-done.ensures.seat
    (kept_parts g.C.Disk.facts g.B.Disk.facts c.lend_buckets-buckets.new.seat
    c.let_go_in-done.new.seat _ c.let_go_in-done.ensures.kept)

pub returns-clause-places : goal.returns-clause-places
returns-clause-places g c = places_between g.C.Disk.facts g.B.Disk.facts c.args.seat.now
    c.lend_buckets-buckets.new.seat c.let_go_in-done.new.seat c.return_buckets.new.seat
    c.requires.works.seat c.lend_buckets-buckets.ensures.waited c.let_go_in-done.ensures.places
    c.let_go_in-done.ensures.seat c.return_buckets.ensures.waited

pub let_go_in-done-requires-clause-held : goal.let_go_in-done-requires-clause-held
let_go_in-done-requires-clause-held g c = held_borrowed g.C.Disk.facts g.B.Disk.facts
    c.args.seat.now c.lend_buckets-buckets.new.seat c.requires.works.seat
    c.lend_buckets-buckets.ensures.waited c.args.bucket c.requires.held

pub let_go_in-done-requires-clause-vacant : goal.let_go_in-done-requires-clause-vacant
let_go_in-done-requires-clause-vacant g c = λ for_tree. vacant_since g.C.Disk.facts
    g.B.Disk.facts c.args.seat.now
    (world g.C.Disk.facts g.B.Disk.facts c.lend_buckets-buckets.new.seat)
    (holds_spine g.C.Disk.facts g.B.Disk.facts c.args.parts.now c.args.seat.now c.args.hand.now
    c.requires.works (c.requires.tree for_tree)) c.lend_buckets-buckets.ensures.waited.since
    c.args.bucket (c.requires.vacant for_tree)

pub returns-clause-err : goal.returns-clause-err
returns-clause-err g c = map_on_err c.let_go_in-done.result (λ did.
    did_between g.C.Disk.facts g.B.Disk.facts None c.args.seat.now
    c.lend_buckets-buckets.new.seat c.let_go_in-done.new.seat c.return_buckets.new.seat
    c.lend_buckets-buckets.ensures.still c.lend_buckets-buckets.ensures.waited did
    c.return_buckets.ensures.waited c.return_buckets.ensures.seen c.return_buckets.ensures.heard
    c.return_buckets.ensures.works.seat) c.let_go_in-done.ensures.err
