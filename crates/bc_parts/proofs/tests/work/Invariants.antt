use Rattle.std.proofs.Common.{◌≡◌, []}
use Rattle.bc_parts.proofs.tests.work.Given as goal

abbrev pub invariant-loop-k : goal.invariant-loop-k
invariant-loop-k g l = record {
  run : l.seat.run ≡ l.fn.seat.run;
  first : l.seat.first ≡ l.fn.seat.first;
  end : l.seat.end ≡ l.fn.seat.end;
  idle : l.seat.parts ≡ [];
}
