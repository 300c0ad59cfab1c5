use Rattle.std.proofs.Common.{take}
use Rattle.bc_image.specs.Tree.{set_keys}
use Rattle.bc_node.specs.Leaf.{AreAdded}
use Rattle.bc_replay.proofs.index.add_sets.Given as goal

abbrev pub invariant-loop-set : goal.invariant-loop-set
invariant-loop-set l = AreAdded (set_keys (take l.set-index l.sets)) l.initial.map.keys l.map.keys
