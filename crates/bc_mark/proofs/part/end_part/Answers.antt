use Rattle.std.proofs.Common.{arith}
use Rattle.bc_mark.proofs.Fitted.{settled_fit, settled_open}
use Rattle.bc_place.proofs.Parts.{are_open}
use Rattle.bc_mark.proofs.part.end_part.Goals as goal

pub invariant_of-part-2 : goal.invariant_of-part-2
invariant_of-part-2 c =
    let p = c.args.part.now in
    let is = c.settle.ensures in record {
      order = p.order;
      fit = settled_fit p.buckets.touched p.round.walk p.buckets c.settle.new.self is
          p.reserves p.fit;
      «open» = ∣ settled_open p.buckets.touched p.round.walk p.buckets c.settle.new.self
          is p.fill p.reserves (are_open p) ∣₁;
      sized = let sized = p.sized in
          let same = is.same_size in omega (arith, sized, same);
    }
