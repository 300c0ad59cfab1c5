use Rattle.std.proofs.Common.{◌≡◌, inl, inr, ◌+◌, ◌-◌, ℕ, Option, refl, subst, arith}
use Rattle.std.specs.Prelude.{IfNone, IfSome, length}
use Rattle.std.proofs.lemmas.Bool.{cases_eq}
use Rattle.bc_append.specs.bc_hand.Seats.{world}
use Rattle.bc_append.specs.bc_machine.World.{FromEach, cache_among}
use Rattle.bc_append.proofs.of_bc_place.Keeping.{keeps_both, keeps_waited}
use Rattle.bc_append.proofs.of_bc_place.of_bc_deed.May.{did_nothing}
use Rattle.bc_turn.specs.Need.{PartNeedsFrom}
use Rattle.bc_turn.specs.Parts.{WasLeft}
use Rattle.bc_turn.specs.declared.error.Left.{Left}
use Rattle.bc_turn.proofs.Emptying.{start_sets}
use Rattle.bc_turn.proofs.Known.{sets_know}
use Rattle.bc_turn.proofs.Parting.{both_sets, failed_before, left_before}
use Rattle.bc_turn.proofs.Told.{law_all}
use Rattle.bc_turn.proofs.parts.empty_leaves.Goals as goal

less_six : (j part : ℕ) → 6 + j ≡ part → part - 6 ≡ j
less_six j part is = omega (arith, is)

pub loop-part-init : goal.loop-part-init
loop-part-init g c = (
  c.requires.works,
  c.requires.empty,
  c.requires.come,
  refl,
  start_sets g.C.Disk.facts g.B.Disk.facts c.args.parts.now c.args.low c.args.seat.now
      c.requires.works.seat,
  (λ j few. absurd (omega (arith, few))),
  keeps_waited g.C.Disk.facts g.B.Disk.facts c.args.seat.now c.args.seat.now
      c.requires.works.seat (did_nothing g.C.Disk.facts g.B.Disk.facts c.args.seat.now
      c.requires.works.seat).is,
)

pub returns-in-Ok-Some-clause-most : goal.returns-in-Ok-Some-clause-most
returns-in-Ok-Some-clause-most g c =
    let before = c.loop-part.invariant.3 in
    let done = c.empty_taken.ensures.most in
    omega (arith, before, done)

pub returns-in-Ok-Some-clause-keeps : goal.returns-in-Ok-Some-clause-keeps
returns-in-Ok-Some-clause-keeps g c = keeps_both g.C.Disk.facts g.B.Disk.facts c.args.seat.now
    c.loop-part.seat c.empty_taken.new.seat c.loop-part.invariant.6 c.empty_taken.ensures.keeps

pub returns-in-Ok-Some-clause-promises : goal.returns-in-Ok-Some-clause-promises
returns-in-Ok-Some-clause-promises g c =
    let before = c.loop-part.invariant.3 in
    let done = c.empty_taken.ensures.promises in
    omega (arith, before, done)

pub returns-in-Ok-Some-clause-ok : goal.returns-in-Ok-Some-clause-ok
returns-in-Ok-Some-clause-ok g c = both_sets g.C.Disk.facts g.B.Disk.facts c.args.parts.now
    c.args.low c.args.seat.now
    c.loop-part.seat c.empty_taken.new.seat c.loop-part.invariant.4 c.in-Ok-Some.ensures.ok

pub returns-in-Ok-Some-clause-left : goal.returns-in-Ok-Some-clause-left
returns-in-Ok-Some-clause-left g c =
    let cf = g.C.Disk.facts in
    let bf = g.B.Disk.facts in
    let sectors = (cache_among cf bf c.args.parts.now.run.start).sectors in
    left_before cf bf c.args.parts.now c.args.low sectors c.args.seat.now c.loop-part.seat
    c.empty_taken.new.seat c.in-Ok-Some.left c.loop-part.invariant.4
    (subst (λ (o : Option Left). IfSome o (WasLeft cf bf c.args.parts.now sectors c.args.low
    c.loop-part.seat c.empty_taken.new.seat)) c.in-Ok-Some.field-0-is c.in-Ok-Some.ensures.left)

pub returns-in-Err-clause-most : goal.returns-in-Err-clause-most
returns-in-Err-clause-most g c =
    let before = c.loop-part.invariant.3 in
    let done = c.empty_taken.ensures.most in
    omega (arith, before, done)

pub returns-in-Err-clause-keeps : goal.returns-in-Err-clause-keeps
returns-in-Err-clause-keeps g c = keeps_both g.C.Disk.facts g.B.Disk.facts c.args.seat.now
    c.loop-part.seat c.empty_taken.new.seat c.loop-part.invariant.6 c.empty_taken.ensures.keeps

pub returns-in-Err-clause-promises : goal.returns-in-Err-clause-promises
returns-in-Err-clause-promises g c =
    let before = c.loop-part.invariant.3 in
    let done = c.empty_taken.ensures.promises in
    omega (arith, before, done)

pub returns-in-Err-clause-err : goal.returns-in-Err-clause-err
returns-in-Err-clause-err g c = failed_before g.C.Disk.facts g.B.Disk.facts c.args.parts.now
    c.args.low c.args.seat.now
    c.loop-part.seat c.empty_taken.new.seat c.in-Err.error c.loop-part.invariant.4
    c.in-Err.ensures.err

pub loop-part-preserved : goal.loop-part-preserved
loop-part-preserved g c =
    let cf = g.C.Disk.facts in
    let bf = g.B.Disk.facts in
    let n = length c.args.parts.now.run.start - 6 in
    let before = c.loop-part.invariant.3 in
    let done = subst (λ (o : Option Left). IfNone o (c.empty_taken.new.seat.promises
    ≡ c.loop-part.seat.promises)) c.in-Ok-None.field-0-is c.in-Ok-None.ensures.even in
    let sets = c.in-Ok-None.ensures.ok in
    let knows = subst (λ (o : Option Left). IfNone o (FromEach (world cf bf c.empty_taken.new.seat)
    (PartNeedsFrom n (c.loop-part.part - 6) c.args.low))) c.in-Ok-None.field-0-is
    c.in-Ok-None.ensures.knows in (
      c.empty_taken.ensures.works,
      c.empty_taken.ensures.empty,
      c.empty_taken.ensures.come,
      omega (arith, before, done),
      both_sets cf bf c.args.parts.now c.args.low c.args.seat.now c.loop-part.seat
          c.empty_taken.new.seat c.loop-part.invariant.4 sets,
      (λ j few. elim (cases_eq (6 + j) c.loop-part.part) [
        | inl is ↦ subst (λ i. FromEach (world cf bf c.empty_taken.new.seat)
            (PartNeedsFrom n i c.args.low)) (less_six j c.loop-part.part is) knows
        | inr other ↦ sets_know cf bf c.args.parts.now c.loop-part.seat c.empty_taken.new.seat n j c.args.low sets
            (c.loop-part.invariant.5 j (omega (arith, few, other)))
      ]),
      keeps_both cf bf c.args.seat.now c.loop-part.seat c.empty_taken.new.seat
          c.loop-part.invariant.6 c.empty_taken.ensures.keeps,
    )

pub returns-clause-knows : goal.returns-clause-knows
returns-clause-knows g c =
    let cf = g.C.Disk.facts in
    let bf = g.B.Disk.facts in
    let some = c.requires.leaves.0 in
    let end = c.loop-part-test.false in
    let count = c.part_count-part-end.ensures in
    law_all (world cf bf c.loop-part.seat) (length c.args.parts.now.run.start - 6) c.args.low
    (omega (arith, some)) (λ j few. c.loop-part.invariant.5 j (omega (arith, few, end, count)))
