use Rattle.std.proofs.Common.{◌≡◌, ◌+◌, ◌≤◌}
use Rattle.bc_parts_bench.specs.Seats.{IsSameSeat, count_of}
use Rattle.bc_parts_bench.proofs.in_parts.work.Given as goal

abbrev pub invariant-loop : goal.invariant-loop
invariant-loop g l = record {
  seat : IsSameSeat l.fn.seat l.seat;
  promises : l.events ≤ l.seat.promises + l.counter;
  count : count_of l.fn.seat.first l.seat.seen ≡ l.counter;
}
