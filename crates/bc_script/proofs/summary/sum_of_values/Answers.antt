use Rattle.std.proofs.Common.{◌<◌, length, refl, sym, arith}
use Rattle.bc_script.proofs.Sums.{sector_more}
use Rattle.bc_script.proofs.summary.sum_of_values.Goals as goal

pub loop-place-preserved : goal.loop-place-preserved
loop-place-preserved c =
    let count = c.len-place-end.ensures in
    let inside : c.loop-place.place < length c.args.values.now = omega arith in
    sector_more c.args.first c.loop-place.place c.loop-place.sum _ c.stamp_of-sum.result c.args.values.now c.get.result c.new-seen.result
    inside (sym c.get.ensures) c.new-seen.ensures c.stamp_of-sum.ensures refl c.loop-place.invariant
