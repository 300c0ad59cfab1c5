use Rattle.std.proofs.Common.{◌≡◌, drop}
use Rattle.bc_flight.specs.Flight.{claim_of}
use Rattle.bc_plain.proofs.flight.claim_of.Given as goal

abbrev pub invariant-loop-claim : goal.invariant-loop-claim
invariant-loop-claim l = claim_of l.seat (drop l.claim-index l.claims) ≡ claim_of l.seat l.claims
