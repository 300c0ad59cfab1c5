use Rattle.std.proofs.Common.{◌≡◌, take}
use Rattle.std.specs.Prelude.{All}
use Rattle.bc_tree.specs.Spine.{Covers, HaveCome, children_in, row_end}
use Rattle.bc_tree.proofs.build.push_nodes.Given as goal

abbrev pub invariant-loop-node : goal.invariant-loop-node
invariant-loop-node l =
    HaveCome (children_in (take l.node-index l.fn.nodes)) l.fn.leaves l.leaves
    × (l.leaves.end ≡ row_end l.fn.leaves.end (take l.node-index l.fn.nodes))
    × All Covers (take l.node-index l.fn.nodes)
