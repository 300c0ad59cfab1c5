use Rattle.std.proofs.Common.{take}
use Rattle.bc_node.specs.Leaf.{AreAdded}
use Rattle.bc_replay.proofs.index.add_keys.Given as goal

abbrev pub invariant-loop-key : goal.invariant-loop-key
invariant-loop-key l = AreAdded (take l.key-index l.keys) l.initial.map.keys l.map.keys
