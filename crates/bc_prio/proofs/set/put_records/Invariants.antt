use Rattle.std.proofs.Common.{ℕ, ◌+◌, ◌*◌, ◌<◌, slice_index_or}
use Rattle.bc_bytes.specs.Fields.{SameOutside}
use Rattle.bc_disk.specs.declared.gens.BucketRecord.{BucketRecord}
use Rattle.bc_disk.specs.Chain.{records_in_set}
use Rattle.bc_prio.specs.Set.{IsRecord}
use Rattle.bc_prio.proofs.set.put_records.Given as goal

abbrev pub invariant-loop-i : goal.invariant-loop-i
invariant-loop-i l = record {
  holds : (k : ℕ) → k < l.i → (d : BucketRecord) → IsRecord l.bytes k (slice_index_or l.gens.records (l.part * records_in_set l.g + k) d);
  others : SameOutside (3 * l.i) l.initial.bytes l.bytes 40;
}
