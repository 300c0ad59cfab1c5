use Rattle.std.proofs.Common.{sym, ap, subst, arith}
use Rattle.bc_alloc.specs.Buckets.{AreFor}
use Rattle.bc_bucket.specs.Buckets.{Buckets}
use Rattle.bc_fill.specs.Fill.{AreOpen}
use Rattle.bc_install.proofs.Opened.{are_open, fit_touched, open_touched}
use Rattle.bc_install.proofs.buckets.touch_at.Goals as goal

pub invariant_of-part : goal.invariant_of-part
invariant_of-part c =
    let p = c.args.part.now in
    let is = c.touch.ensures in record {
      order = p.order;
      fit = subst (λ (b : Buckets). AreFor p.reserves b) (sym is)
          (fit_touched p.reserves p.buckets _ p.fit);
      «open» = ∣ subst (λ (b : Buckets). AreOpen p.fill p.reserves b) (sym is)
          (open_touched p.fill p.reserves p.buckets _ (are_open p)) ∣₁;
      sized = let sized = p.sized in
          let same = ap (λ (b : Buckets). b.size) is in omega (arith, sized, same);
    }
