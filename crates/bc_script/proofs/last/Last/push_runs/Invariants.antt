use Rattle.std.proofs.Common.{◌≡◌, ◌+◌, take, length}
use Rattle.bc_model.specs.Values.{all_values}
use Rattle.bc_script.specs.Last.{Goes}
use Rattle.bc_script.proofs.last.Last.push_runs.Given as goal

abbrev pub invariant-loop-run : goal.invariant-loop-run
invariant-loop-run l = record {
  next : l.next ≡ l.first + length (all_values (take l.run-index l.runs));
  goes : Goes l.first (all_values (take l.run-index l.runs)) l.initial.self l.self l.initial.text.items l.text.items;
}
