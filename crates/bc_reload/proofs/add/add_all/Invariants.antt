use Rattle.std.proofs.Common.{◌+◌, ◌≤◌, take}
use Rattle.bc_reload.specs.Added.{HasAdded}
use Rattle.bc_reload.proofs.add.add_all.Given as goal

abbrev pub invariant-loop-key : goal.invariant-loop-key
invariant-loop-key l = record {
  added : HasAdded (take l.key-index l.keys) l.initial.leaf l.leaf;
  spare : l.initial.leaf.spare ≤ l.leaf.spare + l.key-index;
}
