use Rattle.std.proofs.Common.{◌≡◌, ◌+◌, length, take}
use Rattle.bc_model.specs.Values.{all_values}
use Rattle.bc_model.proofs.run.find.Given as goal

abbrev pub invariant-loop-run : goal.invariant-loop-run
invariant-loop-run l = l.left + length (all_values (take l.run-index l.runs)) ≡ l.fn.i
