use Rattle.bc_plain.proofs.Frees.{free_more}
use Rattle.bc_plain.proofs.Told.{either}
use Rattle.bc_plain.proofs.fill.is_free_in.Goals as goal

pub loop-one-preserved : goal.loop-one-preserved
loop-one-preserved c =
    either c.loop-one.free c.is_free_of-free.result c.loop-one.invariant c.is_free_of-free.ensures
    (free_more c.args.size c.args.sector c.loop-one.one-index c.args.buckets.now _ c.loop-one-test.true)
