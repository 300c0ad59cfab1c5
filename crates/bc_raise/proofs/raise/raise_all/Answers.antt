use Rattle.std.proofs.Common.{None, get_or, refl, arith}
use Rattle.bc_held.proofs.of_bc_place.Keeping.{keeps_both}
use Rattle.bc_held.proofs.of_bc_place.Storing.{keeps_nothing}
use Rattle.bc_held.proofs.of_bc_deed.May.{did_nothing}
use Rattle.bc_held.proofs.of_bc_deed.Sequence.{done_first}
use Rattle.bc_held.proofs.Keeping.{keeps_nothing as held_nothing}
use Rattle.bc_raise.proofs.InHand.{held_both, spine_on}
use Rattle.bc_raise.proofs.Many.{done_more, next_may, raised_all, raised_next, raised_none, raised_some}
use Rattle.bc_raise.proofs.raise.raise_all.Goals as goal

pub loop-bucket-init : goal.loop-bucket-init
loop-bucket-init g c =
    let cf = g.C.Disk.facts in
    let bf = g.B.Disk.facts in
    let v = c.args.seat.now in (
      c.requires.works,
      omega arith,
      c.requires.before,
      raised_none c.args.victims.now c.args.hand.now c.requires.victims.0
          c.requires.victims.1 c.requires.victims.2,
      done_first cf bf None v v (did_nothing cf bf v c.requires.works.seat),
      keeps_nothing cf bf v c.requires.works.seat,
      held_nothing cf bf None v,
    )

pub raise-requires-clause-may : goal.raise-requires-clause-may
raise-requires-clause-may g c = next_may c.args.victims.now c.loop-bucket.bucket-index
    (get_or c.args.victims.now c.loop-bucket.bucket-index 0) c.args.hand.now c.loop-bucket.hand
    c.loop-bucket-test.true refl c.loop-bucket.invariant.3

pub returns-in-Err-clause-err : goal.returns-in-Err-clause-err
returns-in-Err-clause-err g c = raised_some g.C.Disk.facts g.B.Disk.facts c.args.before
    c.args.victims.now c.loop-bucket.bucket-index c.args.hand.now c.loop-bucket.hand
    c.raise.new.hand c.args.seat.now c.loop-bucket.seat c.raise.new.seat c.loop-bucket-test.true
    c.loop-bucket.invariant.3 c.loop-bucket.invariant.4 c.in-Err.ensures.err c.in-Err.ensures.same

pub returns-in-Err-clause-keeps : goal.returns-in-Err-clause-keeps
returns-in-Err-clause-keeps g c = keeps_both g.C.Disk.facts g.B.Disk.facts c.args.seat.now
    c.loop-bucket.seat c.raise.new.seat c.loop-bucket.invariant.5 c.raise.ensures.keeps

pub returns-in-Err-clause-held : goal.returns-in-Err-clause-held
returns-in-Err-clause-held g c =
    let l = c.loop-bucket in
    held_both g.C.Disk.facts g.B.Disk.facts c.args.seat.now l.seat c.raise.new.seat
    (spine_on g.C.Disk.facts g.B.Disk.facts c.args.parts.now c.args.seat.now l.seat
    c.args.hand.now l.hand l.invariant.3.0 l.invariant.3.1 l.invariant.3.2 l.invariant.3.3
    c.requires.works l.invariant.0) l.invariant.6 c.raise.ensures.held

pub loop-bucket-preserved : goal.loop-bucket-preserved
loop-bucket-preserved g c =
    let cf = g.C.Disk.facts in
    let bf = g.B.Disk.facts in
    let l = c.loop-bucket in
    let ns = c.args.victims.now in
    let i = l.bucket-index in
    let n = get_or ns i 0 in
    let next = c.raise.new.seat in
    let spent = c.in-Ok.ensures.ok.is.promises in
    let left = l.invariant.1 in (
      c.raise.ensures.works,
      omega (arith, spent, left),
      c.raise.ensures.keeps.opening.before c.args.before l.invariant.2,
      raised_next ns i n c.args.hand.now l.hand c.raise.new.hand
          c.loop-bucket-test.true refl l.invariant.3 c.in-Ok.ensures.part,
      done_more cf bf c.args.before ns i n c.args.seat.now l.seat next c.loop-bucket-test.true refl
          l.invariant.4 c.in-Ok.ensures.ok,
      keeps_both cf bf c.args.seat.now l.seat next l.invariant.5 c.raise.ensures.keeps,
      held_both cf bf c.args.seat.now l.seat next
          (spine_on cf bf c.args.parts.now c.args.seat.now l.seat c.args.hand.now l.hand
          l.invariant.3.0 l.invariant.3.1 l.invariant.3.2 l.invariant.3.3 c.requires.works
          l.invariant.0) l.invariant.6 c.raise.ensures.held,
    )

pub returns-clause-part : goal.returns-clause-part
returns-clause-part g c = raised_all c.args.victims.now c.loop-bucket.bucket-index
    c.args.hand.now c.loop-bucket.hand (let end = c.loop-bucket-test.false in omega (arith, end))
    c.loop-bucket.invariant.3
