use Rattle.std.proofs.Common.{◌<◌, List, length, sym, ap, subst, arith}
use Rattle.bc_alloc.specs.Buckets.{AreFor}
use Rattle.bc_bucket.specs.Buckets.{Buckets}
use Rattle.bc_bucket.specs.declared.bucket.Bucket.{Bucket}
use Rattle.bc_fill.specs.Fill.{AreOpen}
use Rattle.bc_install.proofs.Brought.{made_fit, made_open, none_open}
use Rattle.bc_install.proofs.Opened.{are_open}
use Rattle.bc_install.proofs.buckets.make_node.Goals as goal

pub invariant_of-part : goal.invariant_of-part
invariant_of-part c =
    let p = c.args.part.now in
    let used = p.buckets.size in
    let is = c.bring.ensures in
    let test = c.if-bucket-records.false in
    let same_records = ap (λ (xs : List Bucket). length xs) c.records.ensures in
    let within : c.args.bucket < length p.buckets.records = omega (arith, test, same_records) in
    let none = none_open p.fill c.open.result.now c.args.bucket c.is_open.result
    c.open.ensures.value c.is_open.ensures c.if-is_open.false in record {
      order = p.order;
      fit = subst (λ (b : Buckets). AreFor p.reserves b) (sym is)
          (made_fit p.fill p.reserves p.buckets used c.args.bucket within p.fit);
      «open» = ∣ subst (λ (b : Buckets). AreOpen p.fill p.reserves b) (sym is)
          (made_open p.fill p.reserves p.buckets used c.args.bucket within none
          (are_open p)) ∣₁;
      sized = let sized = p.sized in
          let same = ap (λ (b : Buckets). b.size) is in omega (arith, sized, same);
    }
