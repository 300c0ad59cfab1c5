use Rattle.std.proofs.Common.{ℕ, ◌<◌, ◌≤◌, slice_index_or}
use Rattle.std.specs.Prelude.{All}
use Rattle.bc_jset.specs.Entries.{FoundEntry}
use Rattle.bc_plain.proofs.journal.greatest.Given as goal

abbrev pub invariant-loop-entry : goal.invariant-loop-entry
invariant-loop-entry l = record {
  above : (k : ℕ) (d : FoundEntry) → k < l.entry-index → (slice_index_or l.all k d).item.seq ≤ l.number;
  least : (n : ℕ) → All (λ (e : FoundEntry). e.item.seq ≤ n) l.all → l.number ≤ n;
}
