use Rattle.std.proofs.Common.{List, [], ◌∷◌, ◌++◌, length, None, refl, sym, ap, ◌∙◌, subst, arith}
use Rattle.std.proofs.lemmas.List.{length-append}
use Rattle.std.proofs.lemmas.List.Elements.{All-append}
use Rattle.std.specs.Prelude.{All, IfOk}
use Rattle.bc_disk.specs.Chain.{sets_in_chain}
use Rattle.bc_new_chain.proofs.Keeping.{holds_on}
use Rattle.bc_new_chain.specs.bc_hand.Seats.{world}
use Rattle.bc_new_chain.specs.bc_held.Held.{IsHeldFor}
use Rattle.bc_new_chain.specs.bc_held.Taken.{IsNewBucket, TiesBuckets, TookOr}
use Rattle.bc_new_chain.specs.bc_held.declared.held.HeldBucket.{HeldBucket}
use Rattle.bc_new_chain.specs.bc_held.declared.held.Want.TheVariants as want
use Rattle.bc_new_chain.specs.bc_machine.World.{FromEach}
use Rattle.bc_new_chain.specs.bc_place.Place.{HasBefore}
use Rattle.bc_refill.proofs.Going.{all_on, cut_in, fits, rest_then, tied_same}
use Rattle.bc_refill.proofs.Holding.{held_none}
use Rattle.bc_refill.proofs.Renewing.{some_of}
use Rattle.bc_refill.proofs.Taking.{all_one, did_take, has_mine_more, has_mine_on, no_bucket, no_sound, none_took, stopped_taking, tied_more}
use Rattle.bc_refill.specs.Taken.{HasMine, HasNoChain, HaveTaken, IsForSet}
use Rattle.bc_refill.specs.declared.answer.Refilled.TheVariants as answer
use Rattle.bc_refill.proofs.take.take_each.Goals as goal

pub loop-done-init : goal.loop-done-init
loop-done-init g c =
    let cf = g.C.Disk.facts in
    let bf = g.B.Disk.facts in
    let h = c.args.hand.now in
    let v = c.args.seat.now in
    let none = c.requires.empty in (
      c.requires.works,
      refl,
      refl,
      c.requires.all,
      sym (ap (λ (bs : List HeldBucket). length bs) none),
      omega arith,
      c.requires.room,
      omega arith,
      subst (λ (bs : List HeldBucket). TiesBuckets h h (λ p q. HaveTaken cf bf
          c.args.g.now.first_bucket bs p q v v)) (sym none)
          (tied_same h (λ p q. HaveTaken cf bf c.args.g.now.first_bucket [] p q v v)
          (λ p. (refl, refl))),
      subst (λ (bs : List HeldBucket). All (IsForSet c.args.g.now) bs) (sym none)
          (λ k d below. absurd (omega (arith, below))),
      subst (λ (bs : List HeldBucket). HasMine cf bf bs v v) (sym none)
          (held_none cf bf v c.requires.works.seat),
      omega arith,
      omega arith,
    )

pub take_bucket-requires-clause-before : goal.take_bucket-requires-clause-before
take_bucket-requires-clause-before g c =
    let l = c.loop-done in
    subst (λ n. FromEach (world g.C.Disk.facts g.B.Disk.facts l.seat) (HasBefore n))
    (sym l.invariant.12)
    (cut_in g.C.Disk.facts g.B.Disk.facts c.args.parts.now l.seat l.hand c.args.g.now
    l.invariant.0 l.invariant.3).before

pub returns-in-Err-clause-err : goal.returns-in-Err-clause-err
returns-in-Err-clause-err g c =
    let l = c.loop-done in
    stopped_taking g.C.Disk.facts g.B.Disk.facts c.args.g.now.first_bucket
    (sets_in_chain c.args.g.now) c.in-Err.error l.into.items c.args.hand.now l.hand
    c.take_bucket.new.hand c.args.seat.now l.seat c.take_bucket.new.seat
    (let many = l.invariant.4 in let few = l.invariant.5 in omega (arith, many, few))
    c.in-Err.ensures.same c.in-Err.ensures.err c.in-Err.ensures.cause l.invariant.8

pub returns-in-Err-clause-left : goal.returns-in-Err-clause-left
returns-in-Err-clause-left g c =
    let l = c.loop-done in
    let left = l.invariant.7 in
    let many = l.invariant.4 in
    let same = c.in-Err.ensures.err.is.promises in
    omega (arith, left, many, same)

pub returns-in-Err-clause-mine : goal.returns-in-Err-clause-mine
returns-in-Err-clause-mine g c =
    let cf = g.C.Disk.facts in
    let bf = g.B.Disk.facts in
    let l = c.loop-done in
    has_mine_on cf bf l.into.items None c.args.seat.now l.seat c.take_bucket.new.seat
    l.invariant.0.seat
    (holds_on cf bf c.args.parts.now c.args.seat.now l.seat c.args.hand.now l.hand
    c.requires.works l.invariant.0 l.invariant.1) c.in-Err.ensures.err
    c.take_bucket.ensures.places c.take_bucket.ensures.keeps l.invariant.10

pub returns-in-Err-answer-clause-none : goal.returns-in-Err-answer-clause-none
returns-in-Err-answer-clause-none g c =
    let cf = g.C.Disk.facts in
    let bf = g.B.Disk.facts in
    let l = c.loop-done in
    no_bucket cf bf c.args.g.now.first_bucket (sets_in_chain c.args.g.now) l.into.items
    c.in-Err-answer.none c.args.hand.now l.hand c.take_bucket.new.hand c.args.seat.now l.seat
    c.take_bucket.new.seat
    (let many = l.invariant.4 in let few = l.invariant.5 in omega (arith, many, few))
    l.invariant.8
    (subst (λ a. TiesBuckets l.hand c.take_bucket.new.hand (λ p q. TookOr cf bf
    c.args.g.now.first_bucket want.Chain a p q l.seat c.take_bucket.new.seat)) c.in-Err-answer.is
    (subst (λ n. TiesBuckets l.hand c.take_bucket.new.hand (λ p q. TookOr cf bf n want.Chain
    c.in-Ok.answer p q l.seat c.take_bucket.new.seat)) l.invariant.12 c.in-Ok.ensures.part))

pub returns-in-Err-answer-clause-left : goal.returns-in-Err-answer-clause-left
returns-in-Err-answer-clause-left g c =
    let cf = g.C.Disk.facts in
    let bf = g.B.Disk.facts in
    let l = c.loop-done in
    let left = l.invariant.7 in
    let many = l.invariant.4 in
    let part = some_of l.hand.buckets l.invariant.3.buckets in
    let same = (none_took cf bf c.args.g.now.first_bucket c.in-Err-answer.none l.hand
    c.take_bucket.new.hand part.0 l.seat c.take_bucket.new.seat part.1
    (subst (λ a. TiesBuckets l.hand c.take_bucket.new.hand (λ p q. TookOr cf bf
    c.args.g.now.first_bucket want.Chain a p q l.seat c.take_bucket.new.seat)) c.in-Err-answer.is
    (subst (λ n. TiesBuckets l.hand c.take_bucket.new.hand (λ p q. TookOr cf bf n want.Chain
    c.in-Ok.answer p q l.seat c.take_bucket.new.seat)) l.invariant.12
    c.in-Ok.ensures.part))).is.promises in
    omega (arith, left, many, same)

pub returns-in-Err-answer-clause-mine : goal.returns-in-Err-answer-clause-mine
returns-in-Err-answer-clause-mine g c =
    let cf = g.C.Disk.facts in
    let bf = g.B.Disk.facts in
    let l = c.loop-done in
    let part = some_of l.hand.buckets l.invariant.3.buckets in
    has_mine_on cf bf l.into.items None c.args.seat.now l.seat c.take_bucket.new.seat
    l.invariant.0.seat
    (holds_on cf bf c.args.parts.now c.args.seat.now l.seat c.args.hand.now l.hand
    c.requires.works l.invariant.0 l.invariant.1)
    (none_took cf bf c.args.g.now.first_bucket c.in-Err-answer.none l.hand
    c.take_bucket.new.hand part.0 l.seat c.take_bucket.new.seat part.1
    (subst (λ a. TiesBuckets l.hand c.take_bucket.new.hand (λ p q. TookOr cf bf
    c.args.g.now.first_bucket want.Chain a p q l.seat c.take_bucket.new.seat)) c.in-Err-answer.is
    (subst (λ n. TiesBuckets l.hand c.take_bucket.new.hand (λ p q. TookOr cf bf n want.Chain
    c.in-Ok.answer p q l.seat c.take_bucket.new.seat)) l.invariant.12 c.in-Ok.ensures.part)))
    c.take_bucket.ensures.places c.take_bucket.ensures.keeps l.invariant.10

pub returns-then-not-is_for_set-clause-none : goal.returns-then-not-is_for_set-clause-none
returns-then-not-is_for_set-clause-none g c =
    let cf = g.C.Disk.facts in
    let bf = g.B.Disk.facts in
    let l = c.loop-done in
    let gm = c.args.g.now in
    let b = c.in-Ok-answer.bucket in
    let w = c.take_bucket.new.seat in
    let k = c.take_bucket.new.hand in
    let items = c.push_reserved.ensures.items in
    let many = l.invariant.4 in
    let test = c.loop-done-test.true in
    let all = l.invariant.11 in
    let long = length-append l.into.items (b ∷ []) in
    let tie = subst (λ a. TiesBuckets l.hand k (λ p q. TookOr cf bf gm.first_bucket want.Chain a p
    q l.seat w)) c.in-Ok-answer.is
    (subst (λ n. TiesBuckets l.hand k (λ p q. TookOr cf bf n want.Chain c.in-Ok.answer p q l.seat
    w)) l.invariant.12 c.in-Ok.ensures.part) in
    let knows = subst (λ a. IfOk a (λ x. FromEach (world cf bf w) (IsHeldFor w.first x)))
    c.in-Ok-answer.is c.in-Ok.ensures.knows in
    let kinds_are = c.take_bucket.ensures.hand ∙ l.invariant.1 in
    let rest = rest_then c.args.hand.now l.hand k l.invariant.2 c.take_bucket.ensures.rest in
    let cut = cut_in cf bf c.args.parts.now w k gm c.take_bucket.ensures.works
    (all_on gm l.hand k c.take_bucket.ensures.hand c.take_bucket.ensures.rest l.invariant.3) in
    subst (λ (bs : List HeldBucket). TiesBuckets c.args.hand.now k (λ p q. HasNoChain cf bf
    gm.first_bucket (sets_in_chain gm) answer.Unsound bs p q c.args.seat.now w)) (sym items)
    (no_sound cf bf gm.first_bucket (sets_in_chain gm) gm (l.into.items ++ b ∷ []) b
    c.args.hand.now k c.args.seat.now w (omega (arith, long, many, test, all))
    c.take_bucket.ensures.works.seat (fits cf bf w gm b cut knows)
    (λ fit. let on = c.is_for_set.ensures.1 fit in let off = c.if-not-is_for_set.true in
    absurd (cc))
    (tied_more cf bf gm.first_bucket l.into.items b c.args.hand.now l.hand k c.args.seat.now l.seat w
    l.invariant.8 tie))

pub returns-then-not-is_for_set-clause-mine : goal.returns-then-not-is_for_set-clause-mine
returns-then-not-is_for_set-clause-mine g c =
    let cf = g.C.Disk.facts in
    let bf = g.B.Disk.facts in
    let l = c.loop-done in
    let gm = c.args.g.now in
    let b = c.in-Ok-answer.bucket in
    let w = c.take_bucket.new.seat in
    let k = c.take_bucket.new.hand in
    let part = some_of l.hand.buckets l.invariant.3.buckets in
    let tie = subst (λ a. TiesBuckets l.hand k (λ p q. TookOr cf bf gm.first_bucket want.Chain a p
    q l.seat w)) c.in-Ok-answer.is
    (subst (λ n. TiesBuckets l.hand k (λ p q. TookOr cf bf n want.Chain c.in-Ok.answer p q l.seat
    w)) l.invariant.12 c.in-Ok.ensures.part) in
    let knows = subst (λ a. IfOk a (λ x. FromEach (world cf bf w) (IsHeldFor w.first x)))
    c.in-Ok-answer.is c.in-Ok.ensures.knows in
    let new = subst (λ a. IfOk a (λ x. IsNewBucket cf bf x l.seat w)) c.in-Ok-answer.is
    c.in-Ok.ensures.other in
    let did = did_take cf bf gm.first_bucket b l.hand k part.0 l.seat w part.1 tie in
    subst (λ (bs : List HeldBucket). HasMine cf bf bs c.args.seat.now w)
    (sym c.push_reserved.ensures.items)
    (has_mine_more cf bf l.into.items b did.0 c.args.seat.now l.seat w l.invariant.0.seat
    (holds_on cf bf c.args.parts.now c.args.seat.now l.seat c.args.hand.now l.hand
    c.requires.works l.invariant.0 l.invariant.1) did.1 c.take_bucket.ensures.places
    c.take_bucket.ensures.keeps did.2 knows new l.invariant.10)

pub loop-done-preserved : goal.loop-done-preserved
loop-done-preserved g c =
    let cf = g.C.Disk.facts in
    let bf = g.B.Disk.facts in
    let l = c.loop-done in
    let gm = c.args.g.now in
    let b = c.in-Ok-answer.bucket in
    let w = c.take_bucket.new.seat in
    let k = c.take_bucket.new.hand in
    let part = some_of l.hand.buckets l.invariant.3.buckets in
    let items = c.push_reserved.ensures.items in
    let capacity = c.push_reserved.ensures.capacity in
    let long = ap (λ (xs : List HeldBucket). length xs) items
    ∙ length-append l.into.items (b ∷ []) in
    let many = l.invariant.4 in
    let test = c.loop-done-test.true in
    let all = l.invariant.11 in
    let room = l.invariant.6 in
    let left = l.invariant.7 in
    let spent = c.take_bucket.ensures.left in
    let tie = subst (λ a. TiesBuckets l.hand k (λ p q. TookOr cf bf gm.first_bucket want.Chain a p
    q l.seat w)) c.in-Ok-answer.is
    (subst (λ n. TiesBuckets l.hand k (λ p q. TookOr cf bf n want.Chain c.in-Ok.answer p q l.seat
    w)) l.invariant.12 c.in-Ok.ensures.part) in
    let knows = subst (λ a. IfOk a (λ x. FromEach (world cf bf w) (IsHeldFor w.first x)))
    c.in-Ok-answer.is c.in-Ok.ensures.knows in
    let new = subst (λ a. IfOk a (λ x. IsNewBucket cf bf x l.seat w)) c.in-Ok-answer.is
    c.in-Ok.ensures.other in
    let did = did_take cf bf gm.first_bucket b l.hand k part.0 l.seat w part.1 tie in
    let fit = c.is_for_set.ensures.0 c.if-not-is_for_set.false in (
      c.take_bucket.ensures.works,
      c.take_bucket.ensures.hand ∙ l.invariant.1,
      rest_then c.args.hand.now l.hand k l.invariant.2 c.take_bucket.ensures.rest,
      all_on gm l.hand k c.take_bucket.ensures.hand c.take_bucket.ensures.rest l.invariant.3,
      omega (arith, long, many),
      omega (arith, test, all),
      omega (arith, capacity, room),
      omega (arith, left, spent),
      subst (λ (bs : List HeldBucket). TiesBuckets c.args.hand.now k (λ p q. HaveTaken cf bf
          gm.first_bucket bs p q c.args.seat.now w)) (sym items)
          (tied_more cf bf gm.first_bucket l.into.items b c.args.hand.now l.hand k c.args.seat.now
          l.seat w l.invariant.8 tie),
      subst (λ (bs : List HeldBucket). All (IsForSet gm) bs) (sym items)
          (All-append (IsForSet gm) l.into.items (b ∷ []) l.invariant.9 (all_one gm b fit)),
      subst (λ (bs : List HeldBucket). HasMine cf bf bs c.args.seat.now w) (sym items)
          (has_mine_more cf bf l.into.items b did.0 c.args.seat.now l.seat w l.invariant.0.seat
          (holds_on cf bf c.args.parts.now c.args.seat.now l.seat c.args.hand.now l.hand
          c.requires.works l.invariant.0 l.invariant.1) did.1 c.take_bucket.ensures.places
          c.take_bucket.ensures.keeps did.2 knows new l.invariant.10),
      l.invariant.11,
      l.invariant.12,
    )
