-- The tree in memory, by slots: of the leaves by their numbers, and of the inner nodes by the
-- buckets that they lie in.
use Rattle.std.specs.Prelude.{◌≡◌, ℕ, zero, suc, ◌^◌, ◌<◌, ◌≤◌, ◌&&◌, ◌==◌, nat_le, nat_lt, Bool}
use Rattle.std.specs.Prelude.{List, [], ◌∷◌, Option, Some, None, if◌then◌else◌}
use Rattle.bc_disk.specs.declared.geometry.Geometry.{Geometry}
use Rattle.bc_facts.specs.Seen.{bucket_of}
use Rattle.bc_image.specs.Reading.{IsReading, Reading}
use Rattle.bc_image.specs.Sound.{HasOneUse, HasPointers, HasRanges}
use Rattle.bc_image.specs.Tree.{Node}
use Rattle.bc_model.specs.Sector.{Image}
use Rattle.bc_opening.specs.Choices.{AreInSlots, IsInner, IsLeaf}
use Rattle.bc_regrow.specs.Parts.{inner_nodes, leaf_nodes}
use Rattle.bc_regrow.specs.Tree.{IsTreeOf}
use Rattle.bc_spine.specs.declared.leaf.LeafRange.{LeafRange}
use Rattle.bc_tree.specs.Spine.{Spine}

abbrev pub node_at : List Node → ℕ → Option Node
node_at [] i = None
node_at (n ∷ nodes) zero = Some n
node_at (n ∷ nodes) (suc i) = node_at nodes i

-- the one of these that lies in a bucket
abbrev pub node_by : Geometry → List Node → ℕ → Option Node
node_by g [] q = None
node_by g (n ∷ nodes) q = if bucket_of g n.key == q then Some n else node_by g nodes q

abbrev pub spans : LeafRange → ℕ → Bool
spans leaf s = nat_le leaf.from s && nat_lt s leaf.end

-- The number of the leaf that has the sector; where none has it, one that no leaf can get: a leaf
-- that comes never takes over such sectors.
abbrev pub slot_at : List LeafRange → ℕ → ℕ
slot_at [] s = 2 ^ 32
slot_at (leaf ∷ leaves) s = if spans leaf s then leaf.number else slot_at leaves s

-- each node is in one slot, and each sector of a leaf has the leaf's
pub record HaveSlots (nodes : List Node) (leaf inner : ℕ → Option Node)
    (slot : ℕ → ℕ) : Type 0 where
  pub leaves : AreInSlots nodes IsLeaf leaf
  pub inner_nodes : AreInSlots nodes IsInner inner
  pub slots : (i : ℕ) (n : Node) (s : ℕ) → leaf i ≡ Some n → n.from ≤ s → s < n.key.end
      → slot s ≡ i

-- So it is with the tree of a sound reading.
abbrev pub LawSlots : Type 0
LawSlots =
    (g : Geometry) (image : Image) (size : ℕ) (r : Reading) (tree : Spine) → IsReading g image r
    → HasRanges r → HasPointers g size r → HasOneUse g r → IsTreeOf g r.nodes tree
    → HaveSlots r.nodes (node_at (leaf_nodes r.nodes)) (node_by g (inner_nodes r.nodes))
    (slot_at tree.leaves)
