use Rattle.std.proofs.Common.{◌-◌}
use Rattle.std.specs.Prelude.{All}
use Rattle.bc_script.specs.Answer.{IsPrintable}
use Rattle.bc_output.proofs.tests.many_answers.Given as goal

abbrev pub invariant-loop-count : goal.invariant-loop-count
invariant-loop-count l = All IsPrintable l.answers.items

abbrev pub decreases-loop-count : goal.decreases-loop-count
decreases-loop-count l = 1000 - l.count
