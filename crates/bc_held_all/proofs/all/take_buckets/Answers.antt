use Rattle.std.proofs.Common.{◌≡◌, ◌+◌, List, [], ◌∷◌, ◌++◌, drop, inl, inr, length, take, refl, sym, ap, ◌∙◌, subst, arith, rules}
use Rattle.std.proofs.lemmas.List.{length-append, take-append-drop}
use Rattle.std.specs.Prelude.{IfOk, OnErr}
use Rattle.bc_held.proofs.Doing.{holds_spine}
use Rattle.bc_held.proofs.of_bc_place.Keeping.{keeps_both as places_both}
use Rattle.bc_held.specs.Held.{IsHeldFor, IsVacantIn}
use Rattle.bc_held.specs.Taken.{HasTakenOr, IsNewBucket}
use Rattle.bc_held.specs.bc_hand.Seats.{world}
use Rattle.bc_held.specs.bc_machine.World.{FromEach}
use Rattle.bc_held.specs.declared.held.HeldBucket.{HeldBucket}
use Rattle.bc_held.specs.declared.held.Want.{Want}
use Rattle.bc_held_all.proofs.Going.{AreNew, held_more, held_on, kept_apart, keeps_both, new_more, new_on, one_taken, rest_both, spine_stays, taken_ties, ties_both, ties_none, ties_same}
use Rattle.bc_held_all.proofs.Lists.{split_next, take_next}
use Rattle.bc_held_all.specs.All.{AreHeld, HaveHalted, HaveLetGo, HaveTaken, KeepsHeldApart, wants_of}
use Rattle.bc_held_all.proofs.all.take_buckets.Goals as goal

pub returns-in-Err-clause-err : goal.returns-in-Err-clause-err
returns-in-Err-clause-err g c =
    let l = c.loop-done in inl (record {
      these = take l.done (wants_of c.args.needs);
      more = drop l.done (wants_of c.args.needs);
      are = sym (take-append-drop l.done (wants_of c.args.needs));
      had = l.seat;
      took = l.invariant.8;
      did = c.in-Err.ensures.err;
      halted = c.in-Err.ensures.cause;
    })

pub returns-in-Err-clause-keeps : goal.returns-in-Err-clause-keeps
returns-in-Err-clause-keeps g c =
    let cf = g.C.Disk.facts in
    let bf = g.B.Disk.facts in
    let l = c.loop-done in
    keeps_both cf bf c.args.seat.now l.seat c.take_bucket.new.seat
    (holds_spine cf bf c.args.parts.now l.seat l.hand l.invariant.0
    (spine_stays c.args.hand.now l.hand l.invariant.1 c.requires.spine)) l.invariant.11 c.take_bucket.ensures.keeps

pub returns-in-Err-clause-places : goal.returns-in-Err-clause-places
returns-in-Err-clause-places g c = places_both g.C.Disk.facts g.B.Disk.facts c.args.seat.now
    c.loop-done.seat c.take_bucket.new.seat c.loop-done.invariant.12 c.take_bucket.ensures.places

pub returns-in-Err-clause-part : goal.returns-in-Err-clause-part
returns-in-Err-clause-part g c = ties_both c.args.hand.now c.loop-done.hand c.take_bucket.new.hand
    c.loop-done.invariant.14
    (ties_same c.loop-done.hand c.take_bucket.new.hand c.in-Err.ensures.same)

pub returns-in-Err-clause-same : goal.returns-in-Err-clause-same
returns-in-Err-clause-same g c = λ none. c.in-Err.ensures.same ∙ c.loop-done.invariant.15
    (let long = ap (λ (xs : List HeldBucket). length xs) none in
    let count = c.loop-done.invariant.3 in omega (arith, long, count))

pub loop-done-init : goal.loop-done-init
loop-done-init g c = (
  c.requires.works,
  refl,
  refl,
  sym (ap (λ (xs : List HeldBucket). length xs) c.requires.empty),
  omega arith,
  c.requires.room,
  omega arith,
  c.requires.before,
  search rules,
  search rules,
  search rules,
  search rules,
  search rules,
  search rules,
  ties_none c.args.hand.now,
  (λ none. refl),
)

pub loop-done-preserved : goal.loop-done-preserved
loop-done-preserved g c =
    let cf = g.C.Disk.facts in
    let bf = g.B.Disk.facts in
    let l = c.loop-done in
    let bs = l.into.items in
    let b = c.in-Ok-answer.bucket in
    let next = c.take_bucket.new.seat in
    let spine = (holds_spine cf bf c.args.parts.now l.seat l.hand l.invariant.0
    (spine_stays c.args.hand.now l.hand l.invariant.1 c.requires.spine)) in
    let keeps = c.take_bucket.ensures.keeps in
    let took = subst (λ a. HasTakenOr cf bf c.args.before c.want_at-want.result a l.seat next)
    c.in-Ok-answer.is c.in-Ok.ensures.ok in
    let knows = subst (λ a. IfOk a (λ x. FromEach (world cf bf next) (IsHeldFor next.first x)))
    c.in-Ok-answer.is c.in-Ok.ensures.knows in
    let vacant = subst (λ a. IfOk a (λ x. FromEach (world cf bf next) (IsVacantIn x)))
    c.in-Ok-answer.is c.in-Ok.ensures.vacant in
    let new = subst (λ a. IfOk a (λ x. IsNewBucket cf bf x l.seat next)) c.in-Ok-answer.is
    c.in-Ok.ensures.other in
    let items = c.push_reserved.ensures.items in
    let long = ap (λ (xs : List HeldBucket). length xs) items ∙ length-append bs (b ∷ []) in
    let count = l.invariant.3 in
    let test = c.loop-done-test.true in
    let all = l.invariant.13 in
    let capacity = c.push_reserved.ensures.capacity in
    let room = l.invariant.5 in
    let left = l.invariant.6 in
    let spent = c.take_bucket.ensures.left in (
      c.take_bucket.ensures.works,
      c.take_bucket.ensures.hand ∙ l.invariant.1,
      rest_both c.args.hand.now l.hand c.take_bucket.new.hand l.invariant.2
          c.take_bucket.ensures.rest,
      omega (arith, long, count),
      omega (arith, test, all),
      omega (arith, capacity, room),
      omega (arith, left, spent),
      c.take_bucket.ensures.places.opening.before c.args.before l.invariant.7,
      subst (λ (ws : List Want). HaveTaken cf bf c.args.before ws c.push_reserved.new.self.items
          c.args.seat.now next)
          (sym (take_next (wants_of c.args.needs) l.done c.want_at-want.result
          c.want_at-want.ensures))
          (subst (λ (xs : List HeldBucket). HaveTaken cf bf c.args.before
          (take l.done (wants_of c.args.needs) ++ c.want_at-want.result ∷ []) xs c.args.seat.now
          next) (sym items)
          (one_taken cf bf c.args.before (take l.done (wants_of c.args.needs)) bs
          c.want_at-want.result b c.args.seat.now l.seat next l.invariant.8 took)),
      subst (λ (xs : List HeldBucket). AreHeld cf bf xs next) (sym items)
          (held_more cf bf bs b l.seat next spine l.invariant.9 keeps knows vacant new),
      subst (λ (xs : List HeldBucket). AreNew cf bf xs c.args.seat.now next) (sym items)
          (new_more cf bf bs b c.args.seat.now l.seat next l.invariant.10 l.invariant.11 keeps new),
      keeps_both cf bf c.args.seat.now l.seat next spine l.invariant.11 keeps,
      places_both cf bf c.args.seat.now l.seat next l.invariant.12
          c.take_bucket.ensures.places,
      l.invariant.13,
      ties_both c.args.hand.now l.hand c.take_bucket.new.hand l.invariant.14
          (taken_ties cf bf c.args.before c.want_at-want.result c.in-Ok.answer l.hand
          c.take_bucket.new.hand l.seat next c.in-Ok.ensures.part),
      (λ none. absurd (omega (arith, none))),
    )

pub let_go_all-requires-clause-before : goal.let_go_all-requires-clause-before
let_go_all-requires-clause-before g c = c.take_bucket.ensures.places.opening.before c.args.before
    c.loop-done.invariant.7

pub let_go_all-requires-clause-are : goal.let_go_all-requires-clause-are
let_go_all-requires-clause-are g c =
    let cf = g.C.Disk.facts in
    let bf = g.B.Disk.facts in
    let l = c.loop-done in
    subst (λ (xs : List HeldBucket). AreHeld cf bf xs c.take_bucket.new.seat)
    (sym c.deref.ensures.value)
    (held_on cf bf l.into.items l.seat c.take_bucket.new.seat
    (holds_spine cf bf c.args.parts.now l.seat l.hand l.invariant.0
    (spine_stays c.args.hand.now l.hand l.invariant.1 c.requires.spine)) l.invariant.9 c.take_bucket.ensures.keeps)

pub returns-in-Err-let_go_all-clause-err : goal.returns-in-Err-let_go_all-clause-err
returns-in-Err-let_go_all-clause-err g c =
    let cf = g.C.Disk.facts in
    let bf = g.B.Disk.facts in
    let l = c.loop-done in inr (record {
      none = c.in-Err-answer.none;
      refused = c.take_bucket.new.seat;
      why = record {
        these = take l.done (wants_of c.args.needs);
        this = c.want_at-want.result;
        more = drop (l.done + 1) (wants_of c.args.needs);
        are = split_next (wants_of c.args.needs) l.done c.want_at-want.result
            c.want_at-want.ensures;
        had = l.seat;
        took = l.invariant.8;
        why = subst (λ a. HasTakenOr cf bf c.args.before c.want_at-want.result a l.seat
            c.take_bucket.new.seat) c.in-Err-answer.is c.in-Ok.ensures.ok;
      };
      halted = subst (λ (xs : List HeldBucket). HaveHalted cf bf c.args.before
          c.in-Err-let_go_all.error xs c.take_bucket.new.seat c.let_go_all.new.seat)
          c.deref.ensures.value c.in-Err-let_go_all.ensures.err;
    })

pub returns-in-Err-let_go_all-clause-keeps : goal.returns-in-Err-let_go_all-clause-keeps
returns-in-Err-let_go_all-clause-keeps g c =
    let cf = g.C.Disk.facts in
    let bf = g.B.Disk.facts in
    let l = c.loop-done in
    let next = c.take_bucket.new.seat in
    let spine = (holds_spine cf bf c.args.parts.now l.seat l.hand l.invariant.0
    (spine_stays c.args.hand.now l.hand l.invariant.1 c.requires.spine)) in
    kept_apart cf bf l.into.items c.args.seat.now next c.let_go_all.new.seat
    (holds_spine cf bf c.args.parts.now next c.take_bucket.new.hand c.take_bucket.ensures.works
    (spine_stays l.hand c.take_bucket.new.hand c.take_bucket.ensures.hand
    (spine_stays c.args.hand.now l.hand l.invariant.1 c.requires.spine)))
    (keeps_both cf bf c.args.seat.now l.seat next spine l.invariant.11 c.take_bucket.ensures.keeps)
    (new_on cf bf l.into.items c.args.seat.now l.seat next c.take_bucket.ensures.keeps.other
    l.invariant.10)
    (subst (λ (xs : List HeldBucket). KeepsHeldApart cf bf xs next c.let_go_all.new.seat)
    c.deref.ensures.value c.let_go_all.ensures.keeps)

pub returns-in-Err-let_go_all-clause-places : goal.returns-in-Err-let_go_all-clause-places
returns-in-Err-let_go_all-clause-places g c =
    let cf = g.C.Disk.facts in
    let bf = g.B.Disk.facts in
    places_both cf bf c.args.seat.now c.take_bucket.new.seat c.let_go_all.new.seat
    (places_both cf bf c.args.seat.now c.loop-done.seat c.take_bucket.new.seat
    c.loop-done.invariant.12 c.take_bucket.ensures.places) c.let_go_all.ensures.places

pub returns-in-Err-answer-clause-ok : goal.returns-in-Err-answer-clause-ok
returns-in-Err-answer-clause-ok g c =
    let cf = g.C.Disk.facts in
    let bf = g.B.Disk.facts in
    let l = c.loop-done in (
      c.clear.ensures.items,
      record {
        taken = l.into.items;
        refused = c.take_bucket.new.seat;
        why = record {
          these = take l.done (wants_of c.args.needs);
          this = c.want_at-want.result;
          more = drop (l.done + 1) (wants_of c.args.needs);
          are = split_next (wants_of c.args.needs) l.done c.want_at-want.result
              c.want_at-want.ensures;
          had = l.seat;
          took = l.invariant.8;
          why = subst (λ a. HasTakenOr cf bf c.args.before c.want_at-want.result a l.seat
              c.take_bucket.new.seat) c.in-Err-answer.is c.in-Ok.ensures.ok;
        };
        gone = subst (λ (xs : List HeldBucket). HaveLetGo cf bf c.args.before xs
            c.take_bucket.new.seat c.let_go_all.new.seat) c.deref.ensures.value
            c.in_default.ensures.ok;
      },
    )

pub returns-in-Err-answer-clause-keeps : goal.returns-in-Err-answer-clause-keeps
returns-in-Err-answer-clause-keeps g c =
    let cf = g.C.Disk.facts in
    let bf = g.B.Disk.facts in
    let l = c.loop-done in
    let next = c.take_bucket.new.seat in
    let spine = (holds_spine cf bf c.args.parts.now l.seat l.hand l.invariant.0
    (spine_stays c.args.hand.now l.hand l.invariant.1 c.requires.spine)) in
    kept_apart cf bf l.into.items c.args.seat.now next c.let_go_all.new.seat
    (holds_spine cf bf c.args.parts.now next c.take_bucket.new.hand c.take_bucket.ensures.works
    (spine_stays l.hand c.take_bucket.new.hand c.take_bucket.ensures.hand
    (spine_stays c.args.hand.now l.hand l.invariant.1 c.requires.spine)))
    (keeps_both cf bf c.args.seat.now l.seat next spine l.invariant.11 c.take_bucket.ensures.keeps)
    (new_on cf bf l.into.items c.args.seat.now l.seat next c.take_bucket.ensures.keeps.other
    l.invariant.10)
    (subst (λ (xs : List HeldBucket). KeepsHeldApart cf bf xs next c.let_go_all.new.seat)
    c.deref.ensures.value c.let_go_all.ensures.keeps)

pub returns-in-Err-answer-clause-places : goal.returns-in-Err-answer-clause-places
returns-in-Err-answer-clause-places g c =
    let cf = g.C.Disk.facts in
    let bf = g.B.Disk.facts in
    places_both cf bf c.args.seat.now c.take_bucket.new.seat c.let_go_all.new.seat
    (places_both cf bf c.args.seat.now c.loop-done.seat c.take_bucket.new.seat
    c.loop-done.invariant.12 c.take_bucket.ensures.places) c.let_go_all.ensures.places

pub returns-in-Err-let_go_all-clause-part : goal.returns-in-Err-let_go_all-clause-part
returns-in-Err-let_go_all-clause-part g c =
    let l = c.loop-done in
    ties_both c.args.hand.now l.hand c.let_go_all.new.hand l.invariant.14
    (ties_both l.hand c.take_bucket.new.hand c.let_go_all.new.hand
    (taken_ties g.C.Disk.facts g.B.Disk.facts c.args.before c.want_at-want.result c.in-Ok.answer
    l.hand c.take_bucket.new.hand l.seat c.take_bucket.new.seat c.in-Ok.ensures.part)
    c.let_go_all.ensures.part)

pub returns-in-Err-answer-clause-part : goal.returns-in-Err-answer-clause-part
returns-in-Err-answer-clause-part g c =
    let l = c.loop-done in
    ties_both c.args.hand.now l.hand c.let_go_all.new.hand l.invariant.14
    (ties_both l.hand c.take_bucket.new.hand c.let_go_all.new.hand
    (taken_ties g.C.Disk.facts g.B.Disk.facts c.args.before c.want_at-want.result c.in-Ok.answer
    l.hand c.take_bucket.new.hand l.seat c.take_bucket.new.seat c.in-Ok.ensures.part)
    c.let_go_all.ensures.part)

pub returns-in-Err-let_go_all-clause-same : goal.returns-in-Err-let_go_all-clause-same
returns-in-Err-let_go_all-clause-same g c =
    let l = c.loop-done in λ none.
    c.let_go_all.ensures.same (c.deref.ensures.value ∙ none)
    ∙ subst (λ a. OnErr a (c.take_bucket.new.hand ≡ l.hand)) c.in-Err-answer.is c.in-Ok.ensures.none
    ∙ l.invariant.15 (let long = ap (λ (xs : List HeldBucket). length xs) none in
    let count = l.invariant.3 in omega (arith, long, count))
