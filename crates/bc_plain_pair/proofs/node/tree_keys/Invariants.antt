use Rattle.std.proofs.Common.{◌≡◌, take}
use Rattle.bc_image.specs.Tree.{tree_keys}
use Rattle.bc_plain_pair.proofs.node.tree_keys.Given as goal

abbrev pub invariant-loop-node : goal.invariant-loop-node
invariant-loop-node l = l.all.items ≡ tree_keys (take l.node-index l.nodes)
