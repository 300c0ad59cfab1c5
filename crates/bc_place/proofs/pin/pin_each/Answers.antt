use Rattle.std.proofs.Common.{◌<◌, ◌^◌, ap, ◌∙◌, arith, rules}
use Rattle.bc_bucket.specs.declared.bucket.Bucket.{Bucket}
use Rattle.bc_place.proofs.Counts.{pins_all, pins_none, pins_one}
use Rattle.bc_place.proofs.pin.pin_each.Goals.{else-get-lt4294967295, then-get-lt4294967295}
use Rattle.bc_place.proofs.pin.pin_each.Goals as goal

pub loop-init : goal.loop-init
loop-init c =
    let is = ap (λ (b : Bucket). b.pins) c.get-known.ensures in
    let small : c.get-known.result.pins < 2 ^ 32 = search rules in
    pins_none c.args.bucket c.args.buckets.now (omega (arith, is, small))

pub loop-preserved : goal.loop-preserved
loop-preserved c =
    let is = ap (λ (b : Bucket). b.pins) c.get.ensures in
    elim c.if-get-lt4294967295.branch [
      | then-get-lt4294967295 w ↦ let less = w.if-get-lt4294967295.true in
          w.buckets-is ∙ w.pin.ensures ∙ pins_one c.loop.counter c.args.bucket c.args.buckets.now
          c.loop.buckets c.requires c.loop.invariant (omega (arith, is, less))
      | else-get-lt4294967295 w ↦ let all = w.if-get-lt4294967295.false in
          w.buckets-is ∙ pins_all c.loop.counter c.args.bucket c.args.buckets.now c.loop.buckets
          c.requires c.loop.invariant (omega (arith, is, all))
    ]
