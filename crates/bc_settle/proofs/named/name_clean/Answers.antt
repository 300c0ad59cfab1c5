use Rattle.std.proofs.Common.{sym, ap, subst, arith}
use Rattle.bc_alloc.specs.Buckets.{AreFor}
use Rattle.bc_bucket.specs.Buckets.{Buckets}
use Rattle.bc_fill.specs.Fill.{AreOpen}
use Rattle.bc_candidate.proofs.of_bc_place.Parts.{are_open}
use Rattle.bc_settle.proofs.Naming.{fits_place, open_place, size_place}
use Rattle.bc_settle.proofs.named.name_clean.Goals as goal

pub invariant_of-part : goal.invariant_of-part
invariant_of-part c =
    let p = c.args.part.now in
    let is = c.name_place.ensures in record {
      order = p.order;
      fit = subst (λ (b : Buckets). AreFor p.reserves b) (sym is)
          (fits_place p.reserves c.args.at c.args.count p.buckets p.fit);
      «open» = ∣ subst (λ (b : Buckets). AreOpen p.fill p.reserves b) (sym is)
          (open_place p.fill p.reserves c.args.at c.args.count p.buckets (are_open p)) ∣₁;
      sized = let sized = p.sized in
          let same = size_place c.args.at c.args.count p.buckets in
          let now = ap (λ (b : Buckets). b.size) is in omega (arith, sized, same, now);
    }
