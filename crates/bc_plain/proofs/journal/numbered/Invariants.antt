use Rattle.std.proofs.Common.{ℕ, suc, ◌-◌, ◌≤◌, List, ◌++◌}
use Rattle.bc_jset.specs.Entries.{FoundEntry, AreNumbered}
use Rattle.bc_plain.proofs.journal.numbered.Given as goal

abbrev pub invariant-loop-entry : goal.invariant-loop-entry
invariant-loop-entry l = record {
  low : l.low ≤ l.number;
  high : l.number ≤ l.high;
  lists : (rest : List FoundEntry) (next : ℕ) → AreNumbered l.all l.number rest next → AreNumbered l.all l.low (l.list.items ++ rest) next;
  needs : (es : List FoundEntry) → AreNumbered l.all l.low es (suc l.high) → (rest : List FoundEntry) × AreNumbered l.all l.number rest (suc l.high);
}

abbrev pub decreases-loop-entry : goal.decreases-loop-entry
decreases-loop-entry l = l.high - l.number
