use Rattle.std.proofs.Common.{◌*◌, ◌≤◌, length, None, inl, refl, sym, ap, ◌∙◌, subst, arith}
use Rattle.bc_disk.specs.declared.geometry.Geometry.{Geometry}
use Rattle.bc_journal.specs.Journal.{Journal}
use Rattle.bc_new_chain.proofs.InHand.{same_some}
use Rattle.bc_new_chain.proofs.of_bc_chain.of_bc_deed.May.{did_nothing}
use Rattle.bc_new_chain.proofs.of_bc_chain.of_bc_deed.Sequence.{done_one}
use Rattle.bc_new_chain.proofs.of_bc_chain.of_bc_place.Keeping.{keeps_both as places_both}
use Rattle.bc_new_chain.proofs.of_bc_chain.of_bc_place.Storing.{keeps_nothing}
use Rattle.bc_new_chain.proofs.of_bc_held.Keeping.{keeps_nothing as held_nothing}
use Rattle.bc_new_chain.specs.bc_hand.Seats.{kinds}
use Rattle.bc_new_chain.specs.bc_hand.declared.hand.Hand.{Hand}
use Rattle.bc_new_chain.specs.bc_machine.World.{cache_among}
use Rattle.bc_new_chain.proofs.Keeping.{holds_on}
use Rattle.bc_refill.specs.Hands.{HasAll}
use Rattle.bc_refill.specs.Named.{CanName}
use Rattle.bc_refill.specs.Rooms.{IsRoomFor}
use Rattle.bc_refill.proofs.Alike.{alike, alike_all, alike_then}
use Rattle.bc_refill.proofs.Filled.{finds}
use Rattle.bc_refill.proofs.Holding.{held_both}
use Rattle.bc_refill.proofs.Renewing.{some_of}
use Rattle.bc_refill.proofs.TopLevel.{cause_all, err_all, idled, not_begun, ok_all}
use Rattle.bc_refill.proofs.refill.refill.Goals as goal

pub idle-requires : goal.idle-requires
idle-requires g c =
    let all = c.requires.all in
    let part = some_of c.args.hand.now.buckets all.2.buckets in
    (part.0, all.0, part.1, all.1)

pub returns-in-Some-clause-err : goal.returns-in-Some-clause-err
returns-in-Some-clause-err g c = λ p j is at. inl (not_begun g.C.Disk.facts g.B.Disk.facts
    c.args.hand.now c.args.hand.now c.args.seat.now c.args.seat.now refl
    (done_one g.C.Disk.facts g.B.Disk.facts None c.args.seat.now c.args.seat.now
    (did_nothing g.C.Disk.facts g.B.Disk.facts c.args.seat.now c.requires.works.seat)))

pub returns-in-Some-clause-cause : goal.returns-in-Some-clause-cause
returns-in-Some-clause-cause g c = c.in-Some.ensures.stopped c.in-Some.device refl

pub returns-in-Some-clause-found : goal.returns-in-Some-clause-found
returns-in-Some-clause-found g c = finds g.C.Disk.facts g.B.Disk.facts c.args.parts.now
    c.args.seat.now c.args.hand.now c.requires.works

pub returns-in-Some-clause-keeps : goal.returns-in-Some-clause-keeps
returns-in-Some-clause-keeps g c = keeps_nothing g.C.Disk.facts g.B.Disk.facts c.args.seat.now
    c.requires.works.seat

pub returns-in-Some-clause-held : goal.returns-in-Some-clause-held
returns-in-Some-clause-held g c = held_nothing g.C.Disk.facts g.B.Disk.facts None c.args.seat.now

pub returns-in-Some-idle-clause-ok : goal.returns-in-Some-idle-clause-ok
returns-in-Some-idle-clause-ok g c = λ p j is at.
    let all = c.requires.all in
    let own = same_some c.args.hand.now.journal all.0 j all.1 at in
    inl (idled g.C.Disk.facts g.B.Disk.facts c.in-Some-idle.answer all.0.ring.geometry p j
    c.args.parts.now c.args.hand.now c.args.seat.now c.requires.works all.2 is
    (ap (λ (x : Journal). x.ring.geometry) (sym own)) (c.in-Some-idle.ensures.some p j is at))

pub returns-in-Some-idle-clause-found : goal.returns-in-Some-idle-clause-found
returns-in-Some-idle-clause-found g c = finds g.C.Disk.facts g.B.Disk.facts c.args.parts.now
    c.args.seat.now c.args.hand.now c.requires.works

pub returns-in-Some-idle-clause-keeps : goal.returns-in-Some-idle-clause-keeps
returns-in-Some-idle-clause-keeps g c = keeps_nothing g.C.Disk.facts g.B.Disk.facts
    c.args.seat.now c.requires.works.seat

pub returns-in-Some-idle-clause-held : goal.returns-in-Some-idle-clause-held
returns-in-Some-idle-clause-held g c = held_nothing g.C.Disk.facts g.B.Disk.facts None
    c.args.seat.now

pub geometry_in-g-requires : goal.geometry_in-g-requires
geometry_in-g-requires g c = (c.requires.all.0, c.requires.all.1)

pub sizes_in-sizes-requires : goal.sizes_in-sizes-requires
sizes_in-sizes-requires g c = some_of c.args.hand.now.buckets c.requires.all.2.buckets

pub returns-in_default-room_for-clause-err : goal.returns-in_default-room_for-clause-err
returns-in_default-room_for-clause-err g c = λ p j is at. not_begun g.C.Disk.facts g.B.Disk.facts
    c.args.hand.now c.args.hand.now c.args.seat.now c.args.seat.now refl
    (done_one g.C.Disk.facts g.B.Disk.facts None c.args.seat.now c.args.seat.now
    (did_nothing g.C.Disk.facts g.B.Disk.facts c.args.seat.now c.requires.works.seat))

pub returns-in_default-room_for-clause-found : goal.returns-in_default-room_for-clause-found
returns-in_default-room_for-clause-found g c = finds g.C.Disk.facts g.B.Disk.facts c.args.parts.now
    c.args.seat.now c.args.hand.now c.requires.works

pub returns-in_default-room_for-clause-keeps : goal.returns-in_default-room_for-clause-keeps
returns-in_default-room_for-clause-keeps g c = keeps_nothing g.C.Disk.facts g.B.Disk.facts
    c.args.seat.now c.requires.works.seat

pub returns-in_default-room_for-clause-held : goal.returns-in_default-room_for-clause-held
returns-in_default-room_for-clause-held g c = held_nothing g.C.Disk.facts g.B.Disk.facts None
    c.args.seat.now

pub returns-then-not-promise_all-clause-err : goal.returns-then-not-promise_all-clause-err
returns-then-not-promise_all-clause-err g c = λ p j is at. not_begun g.C.Disk.facts
    g.B.Disk.facts c.args.hand.now c.promise_all.new.hand c.args.seat.now
    c.promise_all.new.seat c.promise_all.ensures.hand c.promise_all.ensures.done

pub returns-then-not-promise_all-clause-found : goal.returns-then-not-promise_all-clause-found
returns-then-not-promise_all-clause-found g c = finds g.C.Disk.facts g.B.Disk.facts
    c.args.parts.now c.promise_all.new.seat c.promise_all.new.hand c.promise_all.ensures.works

pub refill_in-requires-clause-all : goal.refill_in-requires-clause-all
refill_in-requires-clause-all g c =
    let all = c.requires.all in
    subst (λ (h : Hand _ _). HasAll c.geometry_in-g.result h) (sym c.promise_all.ensures.hand)
    (subst (λ (y : Geometry). HasAll y c.args.hand.now)
    (sym (c.geometry_in-g.ensures all.0 all.1)) all.2)

pub refill_in-requires-clause-disk : goal.refill_in-requires-clause-disk
refill_in-requires-clause-disk g c =
    let all = c.requires.all in
    subst (λ (k : Geometry). k.bucket * k.nbuckets
    ≤ (cache_among g.C.Disk.facts g.B.Disk.facts c.args.parts.now.run.start).sectors)
    (sym (c.geometry_in-g.ensures all.0 all.1)) (c.requires.disk all.0 all.1)

pub refill_in-requires-clause-can : goal.refill_in-requires-clause-can
refill_in-requires-clause-can g c =
    let all = c.requires.all in
    let part = some_of c.args.hand.now.buckets all.2.buckets in
    let p = part.0 in
    let is = part.1 in
    let same = c.geometry_in-g.ensures all.0 all.1 in
    let sizes = c.sizes_in-sizes.ensures in
    let deeds = sizes.deeds p is in
    let ok = c.promise_all.ensures.ok c.if-not-promise_all.false in (
      p,
      all.0,
      ap (λ (h : Hand _ _). h.buckets) c.promise_all.ensures.hand ∙ is,
      ap (λ (h : Hand _ _). h.journal) c.promise_all.ensures.hand ∙ all.1,
      subst (λ (y : Geometry). CanName y p all.0) (sym same)
          (c.in_default-idle.ensures.none p all.0 is all.1),
      omega (arith, deeds, ok),
      subst (λ n. IsRoomFor c.geometry_in-g.result n (length p.chain.items) c.in-Ok.room)
          (sizes.raised p is)
          (subst (λ n. IsRoomFor c.geometry_in-g.result c.sizes_in-sizes.result.raised n
          c.in-Ok.room) (sizes.chained p is) c.in-Ok.ensures),
    )

pub returns-clause-kinds : goal.returns-clause-kinds
returns-clause-kinds g c = c.refill_in.ensures.kinds
    ∙ ap (λ (h : Hand _ _). kinds h) c.promise_all.ensures.hand

pub returns-clause-ok : goal.returns-clause-ok
returns-clause-ok g c = ok_all g.C.Disk.facts g.B.Disk.facts c.geometry_in-g.result
    c.args.hand.now c.promise_all.new.hand c.refill_in.new.hand c.args.seat.now
    c.promise_all.new.seat c.refill_in.new.seat c.geometry_in-g.ensures
    c.promise_all.ensures.hand c.promise_all.ensures.done c.refill_in.result
    c.refill_in.ensures.ok

pub returns-clause-err : goal.returns-clause-err
returns-clause-err g c = err_all g.C.Disk.facts g.B.Disk.facts c.geometry_in-g.result
    c.args.hand.now c.promise_all.new.hand c.refill_in.new.hand c.args.seat.now
    c.promise_all.new.seat c.refill_in.new.seat c.geometry_in-g.ensures
    c.promise_all.ensures.hand c.promise_all.ensures.done c.refill_in.result
    c.refill_in.ensures.cause c.refill_in.ensures.err

pub returns-clause-cause : goal.returns-clause-cause
returns-clause-cause g c = cause_all g.C.Disk.facts g.B.Disk.facts c.refill_in.new.seat
    c.refill_in.result c.refill_in.ensures.cause

pub returns-clause-found : goal.returns-clause-found
returns-clause-found g c = finds g.C.Disk.facts g.B.Disk.facts
    c.args.parts.now c.refill_in.new.seat c.refill_in.new.hand c.refill_in.ensures.works

pub returns-in-Some-clause-same : goal.returns-in-Some-clause-same
returns-in-Some-clause-same g c = alike g.C.Disk.facts g.B.Disk.facts c.args.seat.now

pub returns-in-Some-idle-clause-same : goal.returns-in-Some-idle-clause-same
returns-in-Some-idle-clause-same g c = alike g.C.Disk.facts g.B.Disk.facts c.args.seat.now

pub returns-in_default-room_for-clause-same : goal.returns-in_default-room_for-clause-same
returns-in_default-room_for-clause-same g c = alike g.C.Disk.facts g.B.Disk.facts
    c.args.seat.now

pub returns-then-not-promise_all-clause-same : goal.returns-then-not-promise_all-clause-same
returns-then-not-promise_all-clause-same g c = c.promise_all.ensures.done.same

pub returns-clause-same : goal.returns-clause-same
returns-clause-same g c =
    let cf = g.C.Disk.facts in
    let bf = g.B.Disk.facts in
    let all = c.requires.all in
    let part = some_of c.args.hand.now.buckets all.2.buckets in
    alike_then cf bf c.args.seat.now c.promise_all.new.seat c.refill_in.new.seat
    c.promise_all.ensures.done.same
    (alike_all cf bf c.refill_in.result c.geometry_in-g.result part.0 c.promise_all.new.hand
    c.refill_in.new.hand c.promise_all.new.seat c.refill_in.new.seat
    (ap (λ (h : Hand _ _). h.buckets) c.promise_all.ensures.hand ∙ part.1) c.refill_in.ensures.ok
    c.refill_in.ensures.err)

pub returns-clause-left : goal.returns-clause-left
returns-clause-left g c =
    let all = c.requires.all in
    let part = some_of c.args.hand.now.buckets all.2.buckets in
    let deeds = c.sizes_in-sizes.ensures.deeds part.0 part.1 in
    let ok = c.promise_all.ensures.ok c.if-not-promise_all.false in
    let left = c.refill_in.ensures.left part.0
    (ap (λ (h : Hand _ _). h.buckets) c.promise_all.ensures.hand ∙ part.1) in
    omega (arith, deeds, ok, left)

pub returns-clause-keeps : goal.returns-clause-keeps
returns-clause-keeps g c = places_both g.C.Disk.facts g.B.Disk.facts c.args.seat.now
    c.promise_all.new.seat c.refill_in.new.seat c.promise_all.ensures.keeps
    c.refill_in.ensures.keeps

pub returns-clause-held : goal.returns-clause-held
returns-clause-held g c = held_both g.C.Disk.facts g.B.Disk.facts c.args.seat.now
    c.promise_all.new.seat c.refill_in.new.seat
    (holds_on g.C.Disk.facts g.B.Disk.facts c.args.parts.now c.args.seat.now
    c.promise_all.new.seat c.args.hand.now c.promise_all.new.hand c.requires.works
    c.promise_all.ensures.works (ap (λ (h : Hand _ _). kinds h) c.promise_all.ensures.hand))
    c.promise_all.ensures.held c.refill_in.ensures.held
