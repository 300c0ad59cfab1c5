use Rattle.std.proofs.Common.{◌≡◌, take}
use Rattle.bc_tree.specs.Spine.{HaveCome, last_end}
use Rattle.bc_tree.proofs.build.push_children.Given as goal

abbrev pub invariant-loop-key : goal.invariant-loop-key
invariant-loop-key l =
    HaveCome (take l.key-index l.fn.keys) l.fn.leaves l.leaves
    × (l.leaves.end ≡ last_end l.fn.leaves.end (take l.key-index l.fn.keys))
