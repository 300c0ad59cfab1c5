use Rattle.std.proofs.Common.{◌≡◌}
use Rattle.bc_plain_rows.proofs.flights.all_seats_and_all_candidates.Given as goal

abbrev pub invariant-loop-seat : goal.invariant-loop-seat
invariant-loop-seat g l = l.flight.seats ≡ 320

abbrev pub invariant-loop-place : goal.invariant-loop-place
invariant-loop-place g l = l.flight.seats ≡ 320

abbrev pub invariant-loop-seat-2 : goal.invariant-loop-seat-2
invariant-loop-seat-2 g l = l.flight.seats ≡ 320
