-- The nodes of a reading: which of them are leaves, and what stands for them in memory.
use Rattle.std.specs.Prelude.{◌≡◌, ℕ, zero, suc, List, [], ◌∷◌}
use Rattle.bc_disk.specs.declared.geometry.Geometry.{Geometry}
use Rattle.bc_image.specs.Tree.{Node}
use Rattle.bc_inner.specs.Inner.{Inner, IsInnerOf}
use Rattle.bc_key.specs.Key.{ptr_at}
use Rattle.bc_spine.specs.declared.leaf.LeafRange.{LeafRange}

abbrev pub if_leaf : ℕ → Node → List Node → List Node
if_leaf zero n nodes = n ∷ nodes
if_leaf (suc level) n nodes = nodes

abbrev pub if_inner : ℕ → Node → List Node → List Node
if_inner zero n nodes = nodes
if_inner (suc level) n nodes = n ∷ nodes

-- the leaves among nodes, and the others
abbrev pub leaf_nodes : List Node → List Node
leaf_nodes [] = []
leaf_nodes (n ∷ nodes) = if_leaf n.level n (leaf_nodes nodes)

abbrev pub inner_nodes : List Node → List Node
inner_nodes [] = []
inner_nodes (n ∷ nodes) = if_inner n.level n (inner_nodes nodes)

-- the range is that of the leaf, and the leaf stands there
pub record IsRangeOf (n : Node) (leaf : LeafRange) : Type 0 where
  pub begins : leaf.from ≡ n.from
  pub ends : leaf.end ≡ n.key.end
  pub stands : leaf.ptr ≡ ptr_at n.key 0

-- each range is that of the leaf at its place
abbrev pub AreRangesOf : List Node → List LeafRange → Type 0
AreRangesOf [] [] = Unit {0}
AreRangesOf [] (leaf ∷ leaves) = ⊥
AreRangesOf (n ∷ nodes) [] = ⊥
AreRangesOf (n ∷ nodes) (leaf ∷ leaves) = IsRangeOf n leaf × AreRangesOf nodes leaves

-- the inner node has the sets of this one
abbrev pub IsOfNode : Geometry → Node → Inner → Type 0
IsOfNode g n inner = IsInnerOf g n.key n.level n.from n.sets inner

-- each inner node is the one at its place
abbrev pub AreOfNodes : Geometry → List Node → List Inner → Type 0
AreOfNodes g [] [] = Unit {0}
AreOfNodes g [] (inner ∷ inners) = ⊥
AreOfNodes g (n ∷ nodes) [] = ⊥
AreOfNodes g (n ∷ nodes) (inner ∷ inners) = IsOfNode g n inner × AreOfNodes g nodes inners
