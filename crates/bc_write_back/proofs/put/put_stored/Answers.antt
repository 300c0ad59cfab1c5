use Rattle.std.proofs.Common.{inl, inr, length, List, sym, subst, arith}
use Rattle.bc_key.specs.declared.key.Key.{Key}
use Rattle.bc_request.specs.bc_fetch.Fetch.{HasLeafFor, HasStoppedAt}
use Rattle.bc_stored.proofs.Ready.{ready_still}
use Rattle.bc_stored.specs.bc_place.Named.{AreKeysFor}
use Rattle.bc_write_back.proofs.Coming.{came_to, may_still, no_memory, stopped_in_hand, way_went}
use Rattle.bc_write_back.proofs.Going.{as_leaving, as_unnoted}
use Rattle.bc_write_back.proofs.Hands.{has_three, keys_few}
use Rattle.bc_write_back.proofs.Walking.{keeps_went}
use Rattle.bc_write_back.proofs.put.put_stored.Goals as goal

pub returns-in_default-clause-err : goal.returns-in_default-clause-err
returns-in_default-clause-err g c = inr (no_memory g.C.Disk.facts g.B.Disk.facts
    c.args.seat.now c.requires.works.seat)

pub take_both-requires-clause-leaves : goal.take_both-requires-clause-leaves
take_both-requires-clause-leaves g c = c.in-Ok-leaf_at.ensures.ok.rest

pub returns-in-Err-clause-err : goal.returns-in-Err-clause-err
returns-in-Err-clause-err g c = inl (subst (λ n. HasStoppedAt g.C.Disk.facts g.B.Disk.facts
    c.args.first n c.in-Err.error c.args.seat.now c.leaf_at.new.seat) c.len-count.ensures
    c.in-Err.ensures.stopped)

pub put_in_hand-done-requires-clause-may : goal.put_in_hand-done-requires-clause-may
put_in_hand-done-requires-clause-may g c =
    let cf = g.C.Disk.facts in
    let bf = g.B.Disk.facts in
    may_still cf bf c.args.first (length c.args.values.now) c.args.seat.now c.take_both.new.seat
    (as_unnoted cf bf c.args.seat.now c.take_both.new.seat
    (way_went cf bf c.args.seat.now c.leaf_at.new.seat c.take_both.new.seat
    c.in-Ok-leaf_at.ensures.did c.take_both.ensures.done)) c.requires.may

pub put_in_hand-done-requires-clause-ready : goal.put_in_hand-done-requires-clause-ready
put_in_hand-done-requires-clause-ready g c =
    let cf = g.C.Disk.facts in
    let bf = g.B.Disk.facts in
    ready_still cf bf c.args.seat.now c.take_both.new.seat
    (keeps_went cf bf c.args.seat.now c.take_both.new.seat
    (as_leaving cf bf c.args.seat.now c.take_both.new.seat
    (way_went cf bf c.args.seat.now c.leaf_at.new.seat c.take_both.new.seat
    c.in-Ok-leaf_at.ensures.did c.take_both.ensures.done))) c.args.first c.args.values.now
    c.args.places.now c.requires.ready

pub put_in_hand-done-requires-clause-three : goal.put_in_hand-done-requires-clause-three
put_in_hand-done-requires-clause-three g c = has_three c.leaf_at.new.hand c.take_both.new.hand
    (length c.args.parts.now.run.start) c.in-Ok-leaf_at.number c.args.first
    (length c.args.values.now)
    (subst (λ n. HasLeafFor c.leaf_at.new.hand c.in-Ok-leaf_at.number c.args.first n)
    c.len-count.ensures c.in-Ok-leaf_at.ensures.ok) c.in-Ok-leaf_at.ensures.part
    c.take_both.ensures.leaves c.take_both.ensures.buckets c.take_both.ensures.journal

pub returns-in-Ok-done-clause-ok : goal.returns-in-Ok-done-clause-ok
returns-in-Ok-done-clause-ok g c = came_to g.C.Disk.facts g.B.Disk.facts c.in-Ok-done.put
    c.in-Ok-leaf_at.number c.as_slice-keys.result.now c.args.places.now c.args.of c.args.first
    c.args.values.now c.args.seat.now c.leaf_at.new.seat c.take_both.new.seat
    c.put_in_hand-done.new.seat c.give_back.new.seat
    (subst (λ (ks : List Key). AreKeysFor c.args.first c.args.places.now ks)
    (sym c.as_slice-keys.ensures) c.in-Ok.ensures.keys)
    c.in-Ok-leaf_at.ensures.did c.take_both.ensures.done c.in-Ok-done.ensures.ok
    c.give_back.ensures.done

pub returns-clause-err : goal.returns-clause-err
returns-clause-err g c = inr (stopped_in_hand g.C.Disk.facts g.B.Disk.facts
    c.in-Err-done.error c.args.seat.now c.leaf_at.new.seat c.take_both.new.seat
    c.put_in_hand-done.new.seat c.give_back.new.seat c.in-Ok-leaf_at.ensures.did
    c.take_both.ensures.done c.in-Err-done.ensures.err c.in-Err-done.ensures.cause
    c.give_back.ensures.done)

pub put_in_hand-done-requires-clause-few : goal.put_in_hand-done-requires-clause-few
put_in_hand-done-requires-clause-few g c =
    let most = keys_few c.args.first c.args.places.now c.as_slice-keys.result.now
    (subst (λ (ks : List Key). AreKeysFor c.args.first c.args.places.now ks)
    (sym c.as_slice-keys.ensures) c.in-Ok.ensures.keys) c.requires.filled in
    let all = c.requires.total in
    let count = c.len-count.ensures in
    omega (arith, most, all, count)
