use Rattle.std.proofs.Common.{◌+◌, ◌*◌, drop}
use Rattle.bc_disk.specs.Bytes.{image_of}
use Rattle.bc_image.specs.Tree.{IsWalk}
use Rattle.bc_plain_pair.proofs.Walks.{ListsOn, NeedsOn}
use Rattle.bc_plain_pair.proofs.node.+walk.Given as goal

abbrev pub decreases-add_walk : goal.decreases-add_walk
decreases-add_walk l = 2 * l.level

abbrev pub decreases-add_walks : goal.decreases-add_walks
decreases-add_walks l = 2 * l.level + 1

abbrev pub invariant-add_walks-loop-child : goal.invariant-add_walks-loop-child
invariant-add_walks-loop-child l = record {
  lists : ListsOn (IsWalk l.g (image_of l.image) l.level) l.from l.children l.initial.nodes.items l.nodes.items l.low (drop l.child-index l.children);
  needs : NeedsOn (IsWalk l.g (image_of l.image) l.level) l.from l.children l.low (drop l.child-index l.children);
}
