use Rattle.std.proofs.Common.{◌+◌, ◌*◌, ◌≤◌, take}
use Rattle.bc_node.specs.Leaf.{ArePut}
use Rattle.bc_node.proofs.last.put_within.Given as goal

abbrev pub invariant-loop-key : goal.invariant-loop-key
invariant-loop-key l = record {
  gone : ArePut (take l.key-index l.keys) l.initial.map.keys l.map.keys;
  room : l.initial.map.spare ≤ l.map.spare + 2 * l.key-index;
}
