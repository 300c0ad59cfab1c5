use Rattle.std.proofs.Common.{◌≡◌, take}
use Rattle.std.specs.Prelude.{All}
use Rattle.bc_leaf_plan.specs.Leaf.{EndsWithin}
use Rattle.bc_leaf_plan.proofs.plan.outside.Given as goal

abbrev pub invariant-loop-bucket : goal.invariant-loop-bucket
invariant-loop-bucket l = All (EndsWithin l.sectors l.spine) (take l.bucket-index l.buckets)
    × (l.node ≡ l.spine.geometry.node_sectors)
