use Rattle.std.proofs.Common.{◌≡◌, ℕ, ◌+◌, ◌*◌, ◌<◌, length, slice_index_or}
use Rattle.bc_disk.specs.declared.gens.BucketRecord.{BucketRecord}
use Rattle.bc_disk.specs.Chain.{records_in_set}
use Rattle.bc_prio.specs.Set.{IsRecord}
use Rattle.bc_prio.proofs.set.get_records.Given as goal

abbrev pub invariant-loop-i : goal.invariant-loop-i
invariant-loop-i l = record {
  holds : (k : ℕ) → k < l.i → (d : BucketRecord) → IsRecord l.bytes k (slice_index_or l.gens.records (l.part * records_in_set l.g + k) d);
  before : (k : ℕ) (d : BucketRecord) → k < l.part * records_in_set l.g → slice_index_or l.gens.records k d ≡ slice_index_or l.initial.gens.records k d;
  long : length l.gens.records ≡ length l.initial.gens.records;
  chain : l.gens.chain ≡ l.initial.gens.chain;
}
