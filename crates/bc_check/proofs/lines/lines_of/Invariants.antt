use Rattle.bc_check.specs.Counts.{ListsLines}
use Rattle.bc_check.proofs.lines.lines_of.Given as goal

abbrev pub invariant-loop-bucket : goal.invariant-loop-bucket
invariant-loop-bucket l = ListsLines l.gens l.uses l.live l.dirty l.bucket l.lines.items
