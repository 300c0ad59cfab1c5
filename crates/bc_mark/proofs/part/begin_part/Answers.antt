use Rattle.std.proofs.Common.{true, refl, sym, ap, subst, arith}
use Rattle.bc_alloc.specs.Buckets.{AreFor}
use Rattle.bc_bucket.specs.Buckets.{Buckets}
use Rattle.bc_fill.specs.Fill.{AreOpen}
use Rattle.bc_place.proofs.Parts.{are_open}
use Rattle.bc_mark.proofs.part.begin_part.Goals as goal

pub invariant_of-part : goal.invariant_of-part
invariant_of-part c =
    let p = c.args.part.now in
    let is = c.begin.ensures in record {
      order = p.order;
      fit = subst (λ (b : Buckets). AreFor p.reserves b) (sym is)
          (record { same_count = p.fit.same_count; not_held = p.fit.not_held });
      «open» = ∣ subst (λ (b : Buckets). AreOpen p.fill p.reserves b) (sym is) (record {
        distinct = (are_open p).distinct;
        each = (are_open p).each;
        free = (are_open p).free;
      }) ∣₁;
      sized = let sized = p.sized in
          let same = ap (λ (b : Buckets). b.size) is in omega (arith, sized, same);
    }

pub returns : goal.returns
returns c = record {
  beside = record { reserves = refl; fill = refl; chain = refl; renewing = refl; served = refl };
  buckets = c.begin.ensures;
  round = ap (λ w. record { walk = w; going = true; next = 0 }) c.clear.ensures;
}
