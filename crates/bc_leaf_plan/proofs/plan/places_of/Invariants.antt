use Rattle.std.proofs.Common.{◌≡◌, ◌≤◌, length, take}
use Rattle.std.specs.Prelude.{vec_capacity}
use Rattle.bc_leaf_plan.specs.Way.{places}
use Rattle.bc_leaf_plan.proofs.plan.places_of.Given as goal

abbrev pub invariant-loop-bucket : goal.invariant-loop-bucket
invariant-loop-bucket l = (l.to.items ≡ places (take l.bucket-index l.buckets))
    × (length l.to.items ≡ l.bucket-index) × (length l.buckets ≤ vec_capacity l.to)
