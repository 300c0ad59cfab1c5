use Rattle.std.proofs.Common.{ℕ, ◌<◌}
use Rattle.bc_plain_pair.specs.Uses.{HasOneKind}
use Rattle.bc_plain_pair.proofs.uses.has_one_kind.Given as goal

abbrev pub invariant-loop-bucket : goal.invariant-loop-bucket
invariant-loop-bucket l = (k : ℕ) → k < l.bucket → HasOneKind l.v.geometry l.v.reading k
