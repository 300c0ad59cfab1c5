use Rattle.std.proofs.Common.{◌≡◌}
use Rattle.bc_plain_rows.proofs.flights.claims_and_candidates_beside_plain_lists.Given as goal

abbrev pub invariant-loop-step : goal.invariant-loop-step
invariant-loop-step g l = l.flight.seats ≡ 12
