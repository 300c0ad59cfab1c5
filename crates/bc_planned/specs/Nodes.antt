-- The new nodes of a plan, all of them, in the order in which they take numbers and places.
use Rattle.std.specs.Prelude.{ℕ, Bool, true, false, List, [], ◌∷◌, ◌++◌, Option, Some, None, is_some, if◌then◌else◌}
use Rattle.bc_plan.specs.declared.write.NewNode.{NewNode}
use Rattle.bc_plan.specs.declared.write.NewNode.TheVariants.{Behind, First, Lowest, Parent, Root, Second}
use Rattle.bc_spine.specs.declared.leaf.LeafRange.{LeafRange}
use Rattle.bc_tree.specs.declared.beside.Beside.{Beside}
use Rattle.bc_tree.specs.declared.beside.Beside.TheVariants.{Comes, Goes, Moves, Stays, Under}
use Rattle.bc_tree.specs.declared.change.NodeChange.{NodeChange}
use Rattle.bc_tree.specs.declared.change.NodeChange.TheVariants.{Move, Set}
use Rattle.bc_tree.specs.declared.plan.Plan.{Plan}

-- ---- which there are

abbrev pub is_moved : NodeChange → Bool
is_moved (Set keys) = false
is_moved (Move next) = true

abbrev pub top_is_moved : Option NodeChange → Bool
top_is_moved None = false
top_is_moved (Some change) = is_moved change

-- two nodes come below a new root
abbrev pub are_under : Beside → Bool
are_under Stays = false
are_under (Comes node) = false
are_under (Moves node) = false
are_under Goes = false
are_under (Under low high) = true

-- one comes behind the one that moves, or in the place of the one that was there
abbrev pub comes_behind : Beside → Bool
comes_behind Stays = false
comes_behind (Comes node) = true
comes_behind (Moves node) = true
comes_behind Goes = false
comes_behind (Under low high) = false

abbrev pub when : Bool → NewNode → List NewNode
when really node = if really then node ∷ [] else []

abbrev pub nodes_by : (second under parent behind root : Bool) → List NewNode
nodes_by second under parent behind root = ((((((First ∷ []) ++ when second Second)
    ++ when under Lowest) ++ when under Behind) ++ when parent Parent) ++ when behind Behind)
    ++ when root Root

-- First the leaves, then the nodes above them, and the root last: each has a greater number than
-- those that it names.
abbrev pub nodes_of : Plan → List NewNode
nodes_of p = nodes_by (is_some p.second) (are_under p.beside) (is_moved p.bottom)
    (comes_behind p.beside) (top_is_moved p.top)

-- ---- the slots of leaves

-- it is a leaf
abbrev pub is_leaf : NewNode → Bool
is_leaf First = true
is_leaf Second = true
is_leaf Parent = false
is_leaf Root = false
is_leaf Behind = false
is_leaf Lowest = false

-- the range in which a leaf comes
abbrev pub range_of : Plan → NewNode → Option LeafRange
range_of p First = Some p.leaves.first
range_of p Second = p.leaves.second
range_of p Parent = None
range_of p Root = None
range_of p Behind = None
range_of p Lowest = None

abbrev pub number_in : Option LeafRange → ℕ
number_in None = 0
number_in (Some range) = range.number

-- Its slot is the range's number. That of an inner node is its bucket's, whatever stands here.
abbrev pub slot_of : Plan → NewNode → ℕ
slot_of p node = number_in (range_of p node)
