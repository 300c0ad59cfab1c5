use Rattle.std.proofs.Common.{◌≡◌, length}
use Rattle.bc_parts.specs.Machine.{StandFrom}
use Rattle.bc_parts.specs.contracts.tests.CountersMachine.TheImpl as counters
use Rattle.bc_parts.proofs.tests.zero_counters.Given as goal

abbrev pub invariant-loop : goal.invariant-loop
invariant-loop l = record {
  many : length l.counters.items ≡ l.counter;
  stand : StandFrom counters.ghosts (λ _. 0) 0 l.counters.items;
}
