use Rattle.std.proofs.Common.{◌<◌, take}
use Rattle.bc_extent.specs.Extents.{IsInOrder}
use Rattle.bc_tree.specs.Parts.{AreParts}
use Rattle.bc_tree.proofs.parts.keys_between.Given as goal

abbrev pub invariant-loop-i : goal.invariant-loop-i
invariant-loop-i l = record {
  parts : AreParts l.from l.end (take l.i l.keys.keys) l.parts.items;
  order : 0 < l.i → IsInOrder l.keys.keys;
}
