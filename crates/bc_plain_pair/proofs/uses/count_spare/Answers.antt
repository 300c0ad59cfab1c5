use Rattle.std.proofs.Common.{◌<◌, ℕ, ap, subst, arith}
use Rattle.bc_disk.specs.declared.geometry.Geometry.{Geometry}
use Rattle.bc_plain_pair.specs.Uses.{CountsUses}
use Rattle.bc_plain_pair.proofs.Spares.{none_below, spare_more}
use Rattle.bc_plain_pair.proofs.uses.count_spare.Goals as goal

pub loop-bucket-init : goal.loop-bucket-init
loop-bucket-init c = record { below = none_below c.args.v.now.geometry c.args.v.now.reading; few = omega arith }

pub loop-bucket-preserved : goal.loop-bucket-preserved
loop-bucket-preserved c =
    let so = c.loop-bucket.invariant in
    let test = c.loop-bucket-test.true in
    let same = ap (λ (g : Geometry). g.nbuckets) c.geometry.ensures in
    let inside : c.loop-bucket.bucket < c.args.v.now.geometry.nbuckets = omega (arith, test, same) in
    let few = so.few in
    let one = c.one_if-count.ensures.few in
    let counts = subst (λ (b : ℕ). CountsUses c.args.v.now.geometry c.args.v.now.reading b c.count_uses-kinds.result) c.from.ensures c.count_uses-kinds.ensures in
    record {
      below = spare_more c.args.v.now.geometry c.args.v.now.reading c.loop-bucket.bucket c.loop-bucket.count c.count_uses-kinds.result c.one_if-count.result _ so.below inside counts c.one_if-count.ensures.is (omega arith);
      few = omega (arith, few, one);
    }
