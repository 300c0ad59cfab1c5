use Rattle.std.proofs.Common.{sym, ap, subst, arith}
use Rattle.bc_alloc.specs.Reserves.{IsInOrder, Reserves}
use Rattle.bc_bucket.specs.Bucket.{raised}
use Rattle.bc_bucket.specs.Buckets.{Buckets, changed}
use Rattle.bc_fill.specs.Fill.{AreOpen}
use Rattle.bc_raise.proofs.Fitting.{open_raised, order_raised}
use Rattle.bc_raise.proofs.raise.raise_one.Goals as goal

pub invariant_of-part : goal.invariant_of-part
invariant_of-part c =
    let p = c.args.part.now in record {
      order = subst IsInOrder (sym c.raise.ensures.raised)
          (order_raised p c.args.bucket c.requires);
      fit = c.raise.ensures.fit;
      «open» = ∣ subst (λ (b : Buckets). AreOpen p.fill c.raise.new.self b)
          (sym c.raise.ensures.buckets)
          (subst (λ (r : Reserves). AreOpen p.fill r (changed raised c.args.bucket p.buckets))
          (sym c.raise.ensures.raised)
          (open_raised p c.args.bucket c.requires)) ∣₁;
      sized = let sized = p.sized in
          let same = ap (λ (b : Buckets). b.size) c.raise.ensures.buckets in
          omega (arith, sized, same);
    }
