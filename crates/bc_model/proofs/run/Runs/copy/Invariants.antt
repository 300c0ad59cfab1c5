use Rattle.std.proofs.Common.{◌≡◌, take}
use Rattle.std.specs.Prelude.{All}
use Rattle.bc_model.specs.Values.{all_values, runs_of, AreJoined, IsRun}
use Rattle.bc_model.proofs.run.Runs.copy.Given as goal

abbrev pub invariant-loop-run : goal.invariant-loop-run
invariant-loop-run l = (all_values (runs_of l.copy) ≡ all_values (take l.run-index l.self.rest.items)) × All IsRun (runs_of l.copy) × AreJoined l.copy
