use Rattle.std.specs.Prelude.{All}
use Rattle.bc_script.specs.Answer.{IsPrintable}
use Rattle.bc_script_bench.proofs.texts.answers_of.Given as goal

abbrev pub invariant-loop-line : goal.invariant-loop-line
invariant-loop-line l = All IsPrintable l.answers.items
