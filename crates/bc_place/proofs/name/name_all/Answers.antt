use Rattle.std.proofs.Common.{◌∙◌}
use Rattle.bc_place.proofs.Marking.{named_more}
use Rattle.bc_place.proofs.name.name_all.Goals as goal

pub loop-place-preserved : goal.loop-place-preserved
loop-place-preserved c = c.name_one.ensures ∙ named_more c.args.places.now c.loop-place.place-index
    _ c.args.buckets.now c.loop-place.buckets c.loop-place-test.true c.place-item.is
    c.loop-place.invariant
