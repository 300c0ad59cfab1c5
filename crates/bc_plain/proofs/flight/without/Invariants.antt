use Rattle.std.proofs.Common.{◌≡◌, take}
use Rattle.bc_flight.specs.Flight.{without}
use Rattle.bc_plain.proofs.flight.without.Given as goal

abbrev pub invariant-loop-claim : goal.invariant-loop-claim
invariant-loop-claim l = l.others.items ≡ without l.seat (take l.claim-index l.claims)
