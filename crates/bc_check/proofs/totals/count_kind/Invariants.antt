use Rattle.std.proofs.Common.{ℕ}
use Rattle.bc_counts.specs.Counts.{CountsBelow}
use Rattle.bc_check.specs.Totals.{HasKindRow}
use Rattle.bc_counts.proofs.Counting.{Between}
use Rattle.bc_check.proofs.totals.count_kind.Given as goal

abbrev pub invariant-loop-i : goal.invariant-loop-i
invariant-loop-i l = record {
  end : ℕ;
  between : Between l.index.keys l.i end;
  counts : CountsBelow (HasKindRow l.g l.gens l.index.keys l.dirty) end l.count;
}
