use Rattle.std.proofs.Common.{◌≡◌, ℕ, ◌+◌, ◌<◌, ◌≤◌, length}
use Rattle.std.specs.Prelude.{slice_index_or}
use Rattle.bc_pair.proofs.records.add_chain.Given as goal

abbrev pub invariant-loop-i : goal.invariant-loop-i
invariant-loop-i l = record {
  records : l.gens.records ≡ l.initial.gens.records;
  many : length l.gens.chain ≡ l.i;
  each : (k d : ℕ) → k < l.i → slice_index_or l.gens.chain k d ≡ l.l.prio + k;
}
