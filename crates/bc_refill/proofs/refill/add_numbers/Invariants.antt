use Rattle.std.proofs.Common.{◌≡◌, ◌≤◌, length, take, vec_capacity}
use Rattle.bc_refill.specs.Taken.{numbers_of}
use Rattle.bc_refill.proofs.refill.add_numbers.Given as goal

abbrev pub invariant-loop-bucket : goal.invariant-loop-bucket
invariant-loop-bucket l = (l.into.items ≡ numbers_of (take l.bucket-index l.taken))
    × (length l.taken ≤ vec_capacity l.into)
