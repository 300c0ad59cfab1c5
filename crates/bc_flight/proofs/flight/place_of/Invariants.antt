use Rattle.std.proofs.Common.{◌≡◌, drop}
use Rattle.bc_flight.specs.Flight.{claim_of}
use Rattle.bc_flight.proofs.flight.place_of.Given as goal

abbrev pub invariant-loop-i : goal.invariant-loop-i
invariant-loop-i l = claim_of l.seat l.claims ≡ claim_of l.seat (drop l.i l.claims)
