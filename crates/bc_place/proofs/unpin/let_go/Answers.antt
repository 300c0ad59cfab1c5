use Rattle.std.proofs.Common.{refl, sym, ap, subst, arith}
use Rattle.bc_alloc.specs.Buckets.{AreFor}
use Rattle.bc_bucket.specs.Buckets.{Buckets}
use Rattle.bc_fill.specs.Fill.{AreOpen}
use Rattle.bc_place.specs.Next.{without_pins}
use Rattle.bc_place.proofs.Fitting.{still_fit, still_open}
use Rattle.bc_place.proofs.Parts.{are_open}
use Rattle.bc_place.proofs.unpin.let_go.Goals as goal

pub invariant_of-part : goal.invariant_of-part
invariant_of-part c =
    let p = c.args.part.now in
    let is = c.unpin_each.ensures in record {
      order = p.order;
      fit = subst (λ (b : Buckets). AreFor p.reserves b) (sym is)
          (still_fit (without_pins c.args.place.count) (λ x. refl) _ p.reserves p.buckets p.fit);
      «open» = ∣ subst (λ (b : Buckets). AreOpen p.fill p.reserves b) (sym is)
          (still_open (without_pins c.args.place.count) (λ x. refl) _ p.fill p.reserves p.buckets
          (are_open p)) ∣₁;
      sized = let sized = p.sized in
          let same = ap (λ (b : Buckets). b.size) is in omega (arith, sized, same);
    }
