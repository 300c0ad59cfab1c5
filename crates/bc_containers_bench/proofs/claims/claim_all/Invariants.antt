use Rattle.std.proofs.Common.{◌≡◌, ℕ, ◌≤◌}
use Rattle.std.specs.Prelude.{None}
use Rattle.bc_flight.specs.Flight.{claim_of}
use Rattle.bc_containers_bench.proofs.claims.claim_all.Given as goal

abbrev pub invariant-loop-seat : goal.invariant-loop-seat
invariant-loop-seat l = ((k : ℕ) → l.seat ≤ k → claim_of k l.flight.claims ≡ None) × (l.flight.seats ≡ l.fn.flight.seats)
