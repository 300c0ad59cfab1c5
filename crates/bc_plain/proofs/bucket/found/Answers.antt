use Rattle.bc_plain.proofs.Walks.{found_more}
use Rattle.bc_plain.proofs.bucket.found.Goals as goal

pub loop-reference-preserved : goal.loop-reference-preserved
loop-reference-preserved c =
    found_more c.args.own c.loop-reference.reference-index c.args.references.now c.loop-reference.found _ _ c.loop-reference-test.true c.loop-reference.invariant c.counted-found.ensures c.walk_counts.ensures.more
