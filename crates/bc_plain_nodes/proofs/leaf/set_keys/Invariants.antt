use Rattle.std.proofs.Common.{◌≡◌, take}
use Rattle.bc_image.specs.Tree.{set_keys}
use Rattle.bc_plain_nodes.proofs.leaf.set_keys.Given as goal

abbrev pub invariant-loop-set : goal.invariant-loop-set
invariant-loop-set l = l.keys.items ≡ set_keys (take l.set-index l.sets)
