use Rattle.std.proofs.Common.{◌≡◌, ◌+◌, drop}
use Rattle.bc_node.specs.Sets.{taken_by}
use Rattle.bc_plain_nodes.proofs.leaf.left.Given as goal

abbrev pub invariant-loop-set : goal.invariant-loop-set
invariant-loop-set l = l.left + taken_by l.g l.sets ≡ l.g.node_sectors + taken_by l.g (drop l.set-index l.sets)
