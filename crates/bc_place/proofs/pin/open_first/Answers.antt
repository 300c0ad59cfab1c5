use Rattle.std.proofs.Common.{List, true, sym, ap, subst, arith}
use Rattle.bc_alloc.specs.Reserves.{TakesFirst}
use Rattle.bc_alloc.specs.declared.purpose.Purpose.{Purpose}
use Rattle.bc_alloc.specs.declared.purpose.Purpose.TheVariants as list
use Rattle.bc_alloc.specs.Reserves.{list_of}
use Rattle.bc_bucket.specs.Bucket.{with_held}
use Rattle.bc_bucket.specs.Buckets.{Buckets, changed}
use Rattle.bc_fill.proofs.Opens.{plain_is_plain}
use Rattle.bc_fill.proofs.Taken.{still_open}
use Rattle.bc_fill.specs.Fill.{AreOpen}
use Rattle.bc_fill.specs.declared.fill.Open.{Open}
use Rattle.bc_place.proofs.Parts.{are_open}
use Rattle.bc_place.proofs.pin.open_first.Goals as goal

pub invariant_of-part : goal.invariant_of-part
invariant_of-part c =
    let p = c.args.part.now in
    let taken = subst (λ (q : Purpose). TakesFirst q c.in-Ok.bucket p.reserves c.take.new.self)
    (plain_is_plain (list_of list.Plain p.reserves).buckets) c.in-Ok.ensures.taken in
    record {
      order = c.raised_len-raised.ensures.in_order;
      fit = c.in-Ok.ensures.fit;
      «open» = ∣ subst (λ (b : Buckets). AreOpen c.add_bucket.new.self c.take.new.self b)
          (sym c.in-Ok.ensures.held)
          (subst (λ (fs : List Open). AreOpen fs c.take.new.self
          (changed (with_held true) c.in-Ok.bucket p.buckets)) (sym c.add_bucket.ensures)
          (still_open p.fill p.reserves c.take.new.self p.buckets list.Plain c.in-Ok.bucket p.order
          p.fit p.sized (are_open p) taken)) ∣₁;
      sized = let sized = p.sized in
          let same = ap (λ (b : Buckets). b.size) c.in-Ok.ensures.held in
          omega (arith, sized, same);
    }
