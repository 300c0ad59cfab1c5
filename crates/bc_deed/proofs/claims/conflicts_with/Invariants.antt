use Rattle.std.proofs.Common.{◌≡◌, drop}
use Rattle.bc_flight.specs.Claims.{conflicts_any}
use Rattle.bc_deed.proofs.claims.conflicts_with.Given as goal

abbrev pub invariant-loop-other : goal.invariant-loop-other
invariant-loop-other l = conflicts_any l.claim l.claims ≡ conflicts_any l.claim (drop l.other-index l.claims)
