use Rattle.std.proofs.Common.{sym, ap, subst, arith}
use Rattle.bc_alloc.specs.Buckets.{AreFor}
use Rattle.bc_bucket.specs.Buckets.{Buckets}
use Rattle.bc_fill.specs.Fill.{AreOpen}
use Rattle.bc_place.proofs.Marking.{fit_named, open_named, size_named}
use Rattle.bc_place.proofs.Parts.{are_open}
use Rattle.bc_place.proofs.name.name_places.Goals as goal

pub invariant_of-part : goal.invariant_of-part
invariant_of-part c =
    let p = c.args.part.now in
    let ps = c.args.places.now in
    let is = c.name_all.ensures in record {
      order = p.order;
      fit = subst (λ (b : Buckets). AreFor p.reserves b) (sym is)
          (fit_named p.reserves ps p.buckets p.fit);
      «open» = ∣ subst (λ (b : Buckets). AreOpen p.fill p.reserves b) (sym is)
          (open_named p.fill p.reserves ps p.buckets (are_open p)) ∣₁;
      sized = let sized = p.sized in
          let same = size_named ps p.buckets in
          let now = ap (λ (b : Buckets). b.size) is in omega (arith, sized, same, now);
    }
