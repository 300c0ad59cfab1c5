use Rattle.std.proofs.Common.{false, refl, sym, ap, subst, arith}
use Rattle.bc_alloc.specs.Buckets.{AreFor}
use Rattle.bc_alloc.specs.Reserves.{Reserves}
use Rattle.bc_bucket.specs.Bucket.{with_held}
use Rattle.bc_bucket.specs.Buckets.{Buckets, changed}
use Rattle.bc_fill.specs.Fill.{AreOpen}
use Rattle.bc_held.proofs.Parting.{back_opens, unheld_fit, unheld_opens}
use Rattle.bc_held.proofs.part.put_down.Goals as goal

pub invariant_of-part : goal.invariant_of-part
invariant_of-part c =
    let p = c.args.part.now in record {
      order = c.put_back.ensures.in_order;
      fit = c.put_back.ensures.fit;
      «open» = ∣ subst (λ (b : Buckets). AreOpen p.fill c.put_back.new.self b)
          (sym c.put_back.ensures.buckets)
          (subst (λ (r : Reserves). AreOpen p.fill r
          (changed (with_held false) c.args.bucket.bucket p.buckets)) (sym c.put_back.ensures.lists)
          (back_opens p c.args.bucket.bucket (c.if-not-is_taken.ensures.0 refl).shut)) ∣₁;
      sized = let sized = p.sized in
          let same = ap (λ (b : Buckets). b.size) c.put_back.ensures.buckets in
          omega (arith, sized, same);
    }

pub invariant_of-part-in-Moving : goal.invariant_of-part-in-Moving
invariant_of-part-in-Moving c =
    let p = c.args.part.now in record {
      order = p.order;
      fit = subst (λ (b : Buckets). AreFor p.reserves b) (sym c.let_go.ensures)
          (unheld_fit p.reserves p.buckets c.args.bucket.bucket p.fit);
      «open» = ∣ subst (λ (b : Buckets). AreOpen p.fill p.reserves b) (sym c.let_go.ensures)
          (unheld_opens p c.args.bucket.bucket (c.if-not-is_taken.ensures.0 refl).shut) ∣₁;
      sized = let sized = p.sized in
          let same = ap (λ (b : Buckets). b.size) c.let_go.ensures in omega (arith, sized, same);
    }

pub invariant_of-part-in-Tree : goal.invariant_of-part-in-Tree
invariant_of-part-in-Tree c =
    let p = c.args.part.now in record {
      order = p.order;
      fit = subst (λ (b : Buckets). AreFor p.reserves b) (sym c.let_go-in-Tree.ensures)
          (unheld_fit p.reserves p.buckets c.args.bucket.bucket p.fit);
      «open» = ∣ subst (λ (b : Buckets). AreOpen p.fill p.reserves b) (sym c.let_go-in-Tree.ensures)
          (unheld_opens p c.args.bucket.bucket (c.if-not-is_taken.ensures.0 refl).shut) ∣₁;
      sized = let sized = p.sized in
          let same = ap (λ (b : Buckets). b.size) c.let_go-in-Tree.ensures in omega (arith, sized, same);
    }

pub invariant_of-part-in-Plain : goal.invariant_of-part-in-Plain
invariant_of-part-in-Plain c =
    let p = c.args.part.now in record {
      order = p.order;
      fit = subst (λ (b : Buckets). AreFor p.reserves b) (sym c.let_go-in-Plain.ensures)
          (unheld_fit p.reserves p.buckets c.args.bucket.bucket p.fit);
      «open» = ∣ subst (λ (b : Buckets). AreOpen p.fill p.reserves b) (sym c.let_go-in-Plain.ensures)
          (unheld_opens p c.args.bucket.bucket (c.if-not-is_taken.ensures.0 refl).shut) ∣₁;
      sized = let sized = p.sized in
          let same = ap (λ (b : Buckets). b.size) c.let_go-in-Plain.ensures in omega (arith, sized, same);
    }
