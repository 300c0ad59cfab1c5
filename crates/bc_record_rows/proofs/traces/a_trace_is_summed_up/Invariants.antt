use Rattle.std.specs.Prelude.{All}
use Rattle.bc_script.specs.Answer.{IsPrintable}
use Rattle.bc_record_rows.proofs.traces.a_trace_is_summed_up.Given as goal

abbrev pub invariant-loop-runs : goal.invariant-loop-runs
invariant-loop-runs g l = All IsPrintable l.answers.items
