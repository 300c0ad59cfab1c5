use Rattle.bc_plain.proofs.Claims.{kept_more}
use Rattle.bc_plain.proofs.flight.without.Goals as goal

pub loop-claim-preserved : goal.loop-claim-preserved
loop-claim-preserved c =
    kept_more c.args.seat c.loop-claim.claim-index c.args.claims.now c.loop-claim.others.items _ _ c.loop-claim-test.true c.loop-claim.invariant c.in_ok-keep.ensures
