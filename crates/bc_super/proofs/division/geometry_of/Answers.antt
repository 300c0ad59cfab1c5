use Rattle.std.proofs.Common.{◌≡◌, ℕ, zero, suc, ◌+◌, ◌*◌, ◌<◌, ◌≤◌, arith}
use Rattle.bc_super.proofs.Buckets.{wide, is_block, is_bucket_of, narrow}
use Rattle.bc_super.proofs.division.geometry_of.Goals as goal

pub invariant_of-result : goal.invariant_of-result
invariant_of-result c =
    let s = c.args.s.now in
    let usable = c.requires.1 in
    let first = usable.first_bucket in
    record {
      block_is_one = is_block s.block usable.block;
      bucket_is_one = is_bucket_of s.bucket usable.bucket;
      bucket_from = wide s.bucket usable.bucket;
      bucket_to = narrow s.bucket usable.bucket;
      first_behind_super = some_first s.first_bucket s.bucket first.0;
      buckets_from = usable.fewest;
      buckets_to = usable.most;
      journal_within = usable.within;
      node_is_one = c.min.ensures;
    }
  where
    some_first : (first bucket : ℕ) → 16 ≤ first * bucket → 0 < first
    some_first zero bucket far = absurd (omega arith)
    some_first (suc n) bucket far = omega arith
