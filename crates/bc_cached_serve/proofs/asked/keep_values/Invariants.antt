use Rattle.std.proofs.Common.{take}
use Rattle.std.specs.Prelude.{All}
use Rattle.bc_cached_serve.specs.Answered.{KeepsValues}
use Rattle.bc_cached_serve.proofs.asked.keep_values.Given as goal

abbrev pub invariant-loop-line : goal.invariant-loop-line
invariant-loop-line l = All KeepsValues (take l.line-index l.lines)
