use Rattle.std.proofs.Common.{◌≡◌}
use Rattle.bc_containers_bench.proofs.claims.release_all.Given as goal

abbrev pub invariant-loop-claim : goal.invariant-loop-claim
invariant-loop-claim l = l.flight.seats ≡ l.fn.flight.seats
