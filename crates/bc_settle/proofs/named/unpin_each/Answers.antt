use Rattle.std.proofs.Common.{ap, ◌∙◌, arith}
use Rattle.bc_bucket.specs.declared.bucket.Bucket.{Bucket}
use Rattle.bc_settle.proofs.Naming.{unpins_all, unpins_none, unpins_one}
use Rattle.bc_settle.proofs.named.unpin_each.Goals.{else-get-gt0, then-get-gt0}
use Rattle.bc_settle.proofs.named.unpin_each.Goals as goal

pub loop-init : goal.loop-init
loop-init c = unpins_none c.args.bucket c.args.buckets.now

pub loop-preserved : goal.loop-preserved
loop-preserved c =
    let is = ap (λ (b : Bucket). b.pins) c.get.ensures in
    elim c.if-get-gt0.branch [
      | then-get-gt0 w ↦ w.buckets-is ∙ w.unpin.ensures ∙ unpins_one c.loop.counter c.args.bucket
          c.args.buckets.now c.loop.buckets c.requires c.loop.invariant
      | else-get-gt0 w ↦ let none = w.if-get-gt0.false in
          w.buckets-is ∙ unpins_all c.loop.counter c.args.bucket c.args.buckets.now c.loop.buckets
          c.requires c.loop.invariant (omega (arith, is, none))
    ]
