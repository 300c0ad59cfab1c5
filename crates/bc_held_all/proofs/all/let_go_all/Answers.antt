use Rattle.std.proofs.Common.{◌+◌, List, ◌∷◌, drop, length, take, sym, ap, ◌∙◌, subst, arith}
use Rattle.std.proofs.lemmas.List.{drop_more, take-append-drop}
use Rattle.bc_held.proofs.Doing.{holds_spine}
use Rattle.bc_held.proofs.of_bc_place.Keeping.{keeps_both as places_both}
use Rattle.bc_held.specs.declared.held.HeldBucket.{HeldBucket}
use Rattle.bc_held_all.proofs.Going.{gone_ties, held_less, keeps_gone, next_gone, rest_both, spine_stays, ties_both, ties_same}
use Rattle.bc_held_all.proofs.Lists.{in_first, in_place}
use Rattle.bc_held_all.specs.All.{AreHeld}
use Rattle.bc_held_all.proofs.all.let_go_all.Goals as goal

pub let_go_bucket-requires-clause-held : goal.let_go_bucket-requires-clause-held
let_go_bucket-requires-clause-held g c =
    let cf = g.C.Disk.facts in
    let bf = g.B.Disk.facts in
    let l = c.loop-bucket in
    let bs = c.args.buckets.now in
    let i = l.bucket-index in
    let b = c.bucket-item.result in
    let rest = drop_more bs i b c.loop-bucket-test.true
    ∙ ap (λ (x : HeldBucket). x ∷ drop (i + 1) bs) (sym c.bucket-item.is) in
    (subst (λ (xs : List HeldBucket). AreHeld cf bf xs l.seat) rest l.invariant.5).held b
    (in_first b (drop (i + 1) bs))

pub let_go_bucket-requires-clause-vacant : goal.let_go_bucket-requires-clause-vacant
let_go_bucket-requires-clause-vacant g c =
    let cf = g.C.Disk.facts in
    let bf = g.B.Disk.facts in
    let l = c.loop-bucket in
    let bs = c.args.buckets.now in
    let i = l.bucket-index in
    let b = c.bucket-item.result in
    let rest = drop_more bs i b c.loop-bucket-test.true
    ∙ ap (λ (x : HeldBucket). x ∷ drop (i + 1) bs) (sym c.bucket-item.is) in
    λ tree. (subst (λ (xs : List HeldBucket). AreHeld cf bf xs l.seat) rest l.invariant.5).vacant b
    (in_first b (drop (i + 1) bs))

pub returns-in-Err-clause-err : goal.returns-in-Err-clause-err
returns-in-Err-clause-err g c =
    let l = c.loop-bucket in record {
      gone = take l.bucket-index c.args.buckets.now;
      rest = drop l.bucket-index c.args.buckets.now;
      are = sym (take-append-drop l.bucket-index c.args.buckets.now);
      between = l.seat;
      went = l.invariant.6;
      did = c.in-Err.ensures.err;
      halted = c.in-Err.ensures.cause;
    }

pub returns-in-Err-clause-keeps : goal.returns-in-Err-clause-keeps
returns-in-Err-clause-keeps g c =
    let cf = g.C.Disk.facts in
    let bf = g.B.Disk.facts in
    let l = c.loop-bucket in
    keeps_gone cf bf c.args.buckets.now c.bucket-item.result c.args.seat.now l.seat
    c.let_go_bucket.new.seat (holds_spine cf bf c.args.parts.now l.seat l.hand l.invariant.0
    (spine_stays c.args.hand.now l.hand l.invariant.1 c.requires.spine))
    (in_place c.args.buckets.now l.bucket-index c.bucket-item.result c.loop-bucket-test.true
    c.bucket-item.is) l.invariant.7 c.let_go_bucket.ensures.keeps

pub returns-in-Err-clause-places : goal.returns-in-Err-clause-places
returns-in-Err-clause-places g c = places_both g.C.Disk.facts g.B.Disk.facts c.args.seat.now
    c.loop-bucket.seat c.let_go_bucket.new.seat c.loop-bucket.invariant.8
    c.let_go_bucket.ensures.places

pub returns-in-Err-clause-part : goal.returns-in-Err-clause-part
returns-in-Err-clause-part g c = ties_both c.args.hand.now c.loop-bucket.hand
    c.let_go_bucket.new.hand c.loop-bucket.invariant.9
    (ties_same c.loop-bucket.hand c.let_go_bucket.new.hand c.in-Err.ensures.same)

pub returns-in-Err-clause-same : goal.returns-in-Err-clause-same
returns-in-Err-clause-same g c = λ none. absurd
    (let long = ap (λ (xs : List HeldBucket). length xs) none in
    let test = c.loop-bucket-test.true in omega (arith, long, test))

pub returns-clause-same : goal.returns-clause-same
returns-clause-same g c = λ none. c.loop-bucket.invariant.10
    (let long = ap (λ (xs : List HeldBucket). length xs) none in
    let test = c.loop-bucket-test.false in omega (arith, long, test))

pub loop-bucket-preserved : goal.loop-bucket-preserved
loop-bucket-preserved g c =
    let cf = g.C.Disk.facts in
    let bf = g.B.Disk.facts in
    let l = c.loop-bucket in
    let bs = c.args.buckets.now in
    let i = l.bucket-index in
    let b = c.bucket-item.result in
    let next = c.let_go_bucket.new.seat in
    let spine = (holds_spine cf bf c.args.parts.now l.seat l.hand l.invariant.0
    (spine_stays c.args.hand.now l.hand l.invariant.1 c.requires.spine)) in
    let rest = drop_more bs i b c.loop-bucket-test.true
    ∙ ap (λ (x : HeldBucket). x ∷ drop (i + 1) bs) (sym c.bucket-item.is) in
    let left = l.invariant.3 in
    let spent = c.let_go_bucket.ensures.left in (
      c.let_go_bucket.ensures.works,
      c.let_go_bucket.ensures.hand ∙ l.invariant.1,
      rest_both c.args.hand.now l.hand c.let_go_bucket.new.hand l.invariant.2
          c.let_go_bucket.ensures.rest,
      omega (arith, left, spent),
      c.let_go_bucket.ensures.places.opening.before c.args.before l.invariant.4,
      held_less cf bf b (drop (i + 1) bs) l.seat next spine
          (subst (λ (xs : List HeldBucket). AreHeld cf bf xs l.seat) rest l.invariant.5)
          c.let_go_bucket.ensures.keeps,
      next_gone cf bf c.args.before bs i b c.args.seat.now l.seat next c.loop-bucket-test.true
          c.bucket-item.is l.invariant.6 c.in_default.ensures.ok,
      keeps_gone cf bf bs b c.args.seat.now l.seat next spine
          (in_place bs i b c.loop-bucket-test.true c.bucket-item.is) l.invariant.7
          c.let_go_bucket.ensures.keeps,
      places_both cf bf c.args.seat.now l.seat next l.invariant.8
          c.let_go_bucket.ensures.places,
      ties_both c.args.hand.now l.hand c.let_go_bucket.new.hand l.invariant.9
          (gone_ties cf bf c.args.before b l.hand c.let_go_bucket.new.hand l.seat next
          c.in_default.ensures.part),
      (λ none. absurd (omega (arith, none))),
    )
