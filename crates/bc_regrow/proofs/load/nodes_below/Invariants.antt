use Rattle.std.proofs.Common.{◌≡◌, take}
use Rattle.bc_disk.specs.Disk.{IsKept}
use Rattle.bc_tree.specs.Spine.{last_end}
use Rattle.bc_regrow.specs.Held.{AreHeldBelow}
use Rattle.bc_regrow.proofs.load.nodes_below.Given as goal

abbrev pub invariant-loop-key : goal.invariant-loop-key
invariant-loop-key g l = record {
  held : AreHeldBelow l.g (g.C.Disk.facts l.initial.cache) l.root.from (take l.key-index l.key-items) l.nodes.items;
  low : l.from ≡ last_end l.root.from (take l.key-index l.key-items);
  kept : IsKept (g.C.Disk.facts l.initial.cache) (g.C.Disk.facts l.cache);
  faults : (g.C.Disk.facts l.cache).faults ≡ (g.C.Disk.facts l.initial.cache).faults;
}
