use Rattle.std.proofs.Common.{take}
use Rattle.std.specs.Prelude.{All}
use Rattle.bc_image.specs.Pointers.{PointsInto}
use Rattle.bc_image.specs.Tree.{Node}
use Rattle.bc_plain_pair.proofs.uses.has_node.Given as goal

abbrev pub invariant-loop-node : goal.invariant-loop-node
invariant-loop-node l = All (λ (n : Node). PointsInto l.g n.key l.bucket → ⊥) (take l.node-index l.nodes)
