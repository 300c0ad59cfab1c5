use Rattle.std.proofs.Common.{◌+◌, ◌*◌, ◌≤◌, take}
use Rattle.bc_node.specs.Leaf.{AreAdded}
use Rattle.bc_node.proofs.pending.add_all.Given as goal

abbrev pub invariant-loop-key : goal.invariant-loop-key
invariant-loop-key l = record {
  gone : AreAdded (take l.key-index l.keys) l.initial.map.keys l.map.keys;
  room : l.initial.map.spare ≤ l.map.spare + 2 * l.key-index;
}
