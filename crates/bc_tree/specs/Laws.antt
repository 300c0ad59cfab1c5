-- Which nodes a tree may have, and how many buckets a change may take.
use Rattle.std.specs.Prelude.{ℕ, ◌≤◌, List, IfSome}
use Rattle.bc_disk.specs.declared.geometry.Geometry.{Geometry}
use Rattle.bc_inner.specs.Inner.{Inner, IsInnerOf}
use Rattle.bc_key.specs.declared.key.Key.{Key}
use Rattle.bc_node.specs.Leaf.{Leaf}
use Rattle.bc_set.specs.declared.set.Set.{Set}
use Rattle.bc_tree.specs.Needs.{merge_needs, rewrite_needs, split_needs}
use Rattle.bc_tree.specs.Spine.{IsProper, Spine}
use Rattle.bc_tree.specs.declared.needs.Needs.{Needs}

-- so many buckets at most
pub record AreFew (tree moving : ℕ) (n : Needs) : Type 0 where
  pub tree_few : n.tree ≤ tree
  pub moving_few : n.moving ≤ moving

abbrev pub RewriteIsFew : Type 0
RewriteIsFew = (s : Spine) (parent : Inner) → AreFew 0 3 (rewrite_needs s parent)

abbrev pub SplitIsFew : Type 0
SplitIsFew = (s : Spine) (parent : Inner) → IfSome (split_needs s parent) (AreFew 5 2)

abbrev pub MergeIsFew : Type 0
MergeIsFew =
    (s : Spine) (left right : Leaf) (parent other : Inner)
    → IfSome (merge_needs s left right parent other) (AreFew 0 4)

-- an inner node that was read may stand in a tree
abbrev pub ReadIsProper : Type 0
ReadIsProper =
    (g : Geometry) (key : Key) (level from : ℕ) (sets : List Set) (inner : Inner)
    → IsInnerOf g key level from sets inner → IsProper g inner
