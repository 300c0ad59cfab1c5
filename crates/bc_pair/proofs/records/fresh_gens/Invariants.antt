use Rattle.std.proofs.Common.{◌≡◌, ℕ, ◌<◌, ◌≤◌, [], length}
use Rattle.std.specs.Prelude.{slice_index_or}
use Rattle.bc_disk.specs.declared.gens.BucketRecord.{BucketRecord}
use Rattle.bc_pair.specs.Records.{unused, used}
use Rattle.bc_pair.proofs.records.fresh_gens.Given as goal

abbrev pub invariant-loop-bucket : goal.invariant-loop-bucket
invariant-loop-bucket l = record {
  many : length l.gens.records ≡ l.g.nbuckets;
  below : (k : ℕ) (d : BucketRecord) → k < l.bucket → slice_index_or l.gens.records k d ≡ used;
  behind : (k : ℕ) (d : BucketRecord) → l.bucket ≤ k → k < l.g.nbuckets → slice_index_or l.gens.records k d ≡ unused;
  chain : l.gens.chain ≡ [];
}
