use Rattle.bc_entries.proofs.Lists.{LeastSoFar}
use Rattle.bc_entries.proofs.list.last_missing.Given as goal

abbrev pub invariant-loop-entry : goal.invariant-loop-entry
invariant-loop-entry l = LeastSoFar l.all l.from l.next l.entry-index
