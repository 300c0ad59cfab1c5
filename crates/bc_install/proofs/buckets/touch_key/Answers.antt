use Rattle.std.proofs.Common.{◌≡◌, ◌<◌, subst, arith}
use Rattle.bc_install.specs.Buckets.{TouchesAt}
use Rattle.bc_install.proofs.Touching.{HasTouchedTo, to_all, to_next}
use Rattle.bc_install.proofs.buckets.touch_key.Goals as goal

pub loop-sector-preserved : goal.loop-sector-preserved
loop-sector-preserved c =
    let before = c.loop-sector.invariant in record {
      from = let low = before.from in omega (arith, low);
      touched = to_next c.args.first c.args.key.now c.loop-sector.sector c.args.part.now
          c.loop-sector.part c.touch_at.new.part before.from before.touched
          (subst (λ t. TouchesAt c.args.first t c.loop-sector.part c.touch_at.new.part)
          c.place.ensures c.touch_at.ensures);
    }

pub returns : goal.returns
returns c =
    let key = c.args.key.now in
    let test = c.loop-sector-test.false in
    let ends = c.loop-sector.auto.sector-end in
    let some = c.if-key-eq0.false in
    let last : c.loop-sector.sector ≡ key.end = omega (arith, test, ends) in
    let count : 0 < key.count = omega (arith, some) in
    to_all c.args.first key c.args.part.now c.loop-sector.part count
    (subst (λ s. HasTouchedTo c.args.first key s c.args.part.now c.loop-sector.part) last
    c.loop-sector.invariant.touched)
