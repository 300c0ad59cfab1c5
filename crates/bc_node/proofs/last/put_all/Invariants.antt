use Rattle.std.proofs.Common.{take}
use Rattle.bc_node.specs.Leaf.{ArePut}
use Rattle.bc_node.proofs.last.put_all.Given as goal

abbrev pub invariant-loop-key : goal.invariant-loop-key
invariant-loop-key l = ArePut (take l.key-index l.keys) l.initial.map.keys l.map.keys
