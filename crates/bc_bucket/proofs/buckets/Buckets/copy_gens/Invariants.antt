use Rattle.std.proofs.Common.{◌≡◌, length, map, take}
use Rattle.bc_bucket.specs.Buckets.{shown_on_disk}
use Rattle.bc_bucket.proofs.buckets.Buckets.copy_gens.Given as goal

abbrev pub invariant-loop-k : goal.invariant-loop-k
invariant-loop-k l = (take l.k l.into.records ≡ map shown_on_disk (take l.k l.bucket-items)) × (l.into.chain ≡ l.initial.into.chain) × (length l.into.records ≡ length l.initial.into.records)
