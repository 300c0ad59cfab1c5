use Rattle.std.proofs.Common.{ℕ, ◌<◌, length, get_or}
use Rattle.bc_counts.specs.Counts.{CountsBelow, HasRow, Asks}
use Rattle.bc_counts.proofs.Counting.{Between}
use Rattle.bc_check.proofs.counts.count_into.Given as goal

abbrev pub invariant-loop-i : goal.invariant-loop-i
invariant-loop-i l = record {
  end : ℕ;
  between : Between l.index.keys l.i end;
  counts : (bucket : ℕ) → bucket < length l.table → CountsBelow (HasRow l.g l.gens l.index.keys (Asks l.dirty) bucket) end (get_or l.table bucket 0);
}
