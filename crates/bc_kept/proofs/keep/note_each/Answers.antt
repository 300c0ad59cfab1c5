use Rattle.std.proofs.Common.{◌≡◌, ◌≤◌, ◌+◌, ℕ, List, Option, ◌∷◌, drop, inr, sym, ap, ◌∙◌, subst, arith, rules}
use Rattle.std.proofs.lemmas.List.{drop_more}
use Rattle.bc_candidate.specs.Noted.{HasNoted, HasNotNoted, HasNotedOr}
use Rattle.bc_fill.specs.declared.fill.Placed.{Placed}
use Rattle.bc_stored.specs.All.{AreOwnApart}
use Rattle.bc_stored.specs.bc_hand.Seats.{empty, world}
use Rattle.bc_stored.specs.bc_machine.World.{FromEach}
use Rattle.bc_kept.specs.Kept.{AreKeepable}
use Rattle.bc_kept.proofs.Going.{fit_at, kept_own, noted_more, rest_keepable, rest_own, sectors_more, sectors_most}
use Rattle.bc_kept.proofs.keep.note_each.Goals as goal

pub note_candidate-requires-clause-count : goal.note_candidate-requires-clause-count
note_candidate-requires-clause-count g c =
    subst (λ (q : Placed). (1 ≤ q.count) × (q.count ≤ 32768)) (sym c.index-places-i.is)
    (fit_at c.args.places.now c.loop-i.i c.index-places-i.result c.loop-i-test.true c.requires.fit)

pub note_candidate-requires-clause-range : goal.note_candidate-requires-clause-range
note_candidate-requires-clause-range g c =
    let more = sectors_more c.args.places.now c.loop-i.i c.index-places-i.result
    c.loop-i-test.true in
    let most = sectors_most c.args.places.now (c.loop-i.i + 1) in
    let its = ap (λ (q : Placed). q.count) c.index-places-i.is in
    let next = c.loop-i.invariant.3 in
    let range = c.requires.range in omega (arith, more, most, its, next, range)

pub note_candidate-requires-clause-keep : goal.note_candidate-requires-clause-keep
note_candidate-requires-clause-keep g c =
    let rest = drop_more c.args.places.now c.loop-i.i c.index-places-i.result c.loop-i-test.true
    ∙ ap (λ (q : Placed). q ∷ drop (c.loop-i.i + 1) c.args.places.now) (sym c.index-places-i.is) in
    λ o is course. (subst (λ (qs : List Placed).
    FromEach (world g.C.Disk.facts g.B.Disk.facts c.loop-i.seat)
    (AreKeepable c.loop-i.seat.first c.loop-i.next qs)) rest c.loop-i.invariant.5 o is course).0

pub overflow_add-next : goal.overflow_add-next
overflow_add-next g c =
    let more = sectors_more c.args.places.now c.loop-i.i c.index-places-i.result
    c.loop-i-test.true in
    let most = sectors_most c.args.places.now (c.loop-i.i + 1) in
    let its = ap (λ (q : Placed). q.count) c.index-places-i.is in
    let next = c.loop-i.invariant.3 in
    let from = c.from-next.ensures in
    let range = c.requires.range in omega (arith, more, most, its, next, from, range)

pub returns-in-Ok-None-clause-stopped : goal.returns-in-Ok-None-clause-stopped
returns-in-Ok-None-clause-stopped g c =
    let refused : HasNotNoted g.C.Disk.facts g.B.Disk.facts c.loop-i.seat
    c.note_candidate.new.seat =
    subst (λ (o : Option ℕ). HasNotedOr g.C.Disk.facts g.B.Disk.facts o c.loop-i.next
    c.index-places-i.result c.loop-i.seat c.note_candidate.new.seat) c.in-Ok-None.field-0-is
    c.in-Ok-None.ensures.ok in record {
      noted = c.loop-i.seat;
      were = c.loop-i.invariant.6;
      ended = inr (c.loop-i-test.true, refused);
      own = kept_own g.C.Disk.facts g.B.Disk.facts (drop c.loop-i.i c.args.places.now) c.loop-i.seat
          c.note_candidate.new.seat refused.keeps.places c.loop-i.invariant.4;
    }

pub returns-in-Err-clause-stopped : goal.returns-in-Err-clause-stopped
returns-in-Err-clause-stopped g c = record {
  noted = c.loop-i.seat;
  were = c.loop-i.invariant.6;
  ended = inr (c.loop-i-test.true, c.in-Err.ensures.err);
  own = kept_own g.C.Disk.facts g.B.Disk.facts (drop c.loop-i.i c.args.places.now) c.loop-i.seat
      c.note_candidate.new.seat c.in-Err.ensures.keeps.places c.loop-i.invariant.4;
}

pub loop-i-preserved : goal.loop-i-preserved
loop-i-preserved g c =
    let cf = g.C.Disk.facts in
    let bf = g.B.Disk.facts in
    let l = c.loop-i in
    let ps = c.args.places.now in
    let p = c.index-places-i.result in
    let next = c.note_candidate.new.seat in
    let noted : HasNoted cf bf c.in-Ok-Some.field-0-0 l.next p l.seat next =
    subst (λ (o : Option ℕ). HasNotedOr cf bf o l.next p l.seat next) c.in-Ok-Some.field-0-is
    c.in-Ok-Some.ensures.ok in
    let still : c.note_candidate.new.hand ≡ empty = search rules in
    let spent = noted.did.is.promises in
    let left = l.invariant.2 in
    let more = sectors_more ps l.i p c.loop-i-test.true in
    let its = ap (λ (q : Placed). q.count) c.index-places-i.is in
    let at = l.invariant.3 in
    let from = c.from-next.ensures in
    let rest = drop_more ps l.i p c.loop-i-test.true
    ∙ ap (λ (q : Placed). q ∷ drop (l.i + 1) ps) (sym c.index-places-i.is) in (
      c.note_candidate.ensures.works,
      still,
      omega (arith, spent, left),
      omega (arith, more, its, at, from),
      rest_own cf bf c.in-Ok-Some.field-0-0 l.next p (drop (l.i + 1) ps) l.seat next
          (subst (λ (qs : List Placed). FromEach (world cf bf l.seat)
          (AreOwnApart l.seat.first qs)) rest l.invariant.4) noted,
      subst (λ n. FromEach (world cf bf next)
          (AreKeepable next.first (l.next + n) (drop (l.i + 1) ps))) (sym from)
          (rest_keepable cf bf (l.next + p.count) (drop (l.i + 1) ps) l.seat next noted.claim
          (λ o is course. (subst (λ (qs : List Placed). FromEach (world cf bf l.seat)
          (AreKeepable l.seat.first l.next qs)) rest l.invariant.5 o is course).1)),
      noted_more cf bf c.args.first l.next c.in-Ok-Some.field-0-0 ps l.i p c.args.seat.now l.seat
          next c.loop-i-test.true c.index-places-i.is l.invariant.3 l.invariant.6 noted,
    )
