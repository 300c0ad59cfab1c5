use Rattle.std.proofs.Common.{ℕ, ◌<◌, slice_index_or}
use Rattle.bc_bucket.specs.Bucket.{no_bucket}
use Rattle.bc_begun.proofs.bytes.are_bytes.Given as goal

-- those that were looked at
abbrev pub invariant-loop-bucket : goal.invariant-loop-bucket
invariant-loop-bucket l = (k : ℕ) → k < l.bucket-index
    → ((slice_index_or l.bucket-items k no_bucket).generation < 256)
    × ((slice_index_or l.bucket-items k no_bucket).last_gc < 256)
