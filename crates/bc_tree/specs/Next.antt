-- The tree after a change.
use Rattle.std.specs.Prelude.{ℕ, zero, suc, ◌+◌, List, [], ◌∷◌, ◌++◌, Option, Some, None, take, drop, slice_set}
use Rattle.std.specs.List.{insert, remove}
use Rattle.bc_image.specs.Children.{with_children}
use Rattle.bc_inner.specs.Inner.{Inner}
use Rattle.bc_spine.specs.Exchange.{coming}
use Rattle.bc_spine.specs.declared.exchange.Exchange.{Exchange}
use Rattle.bc_spine.specs.declared.leaf.LeafRange.{LeafRange}
use Rattle.bc_tree.specs.declared.beside.Beside.{Beside}
use Rattle.bc_tree.specs.declared.beside.Beside.TheVariants.{Comes, Goes, Moves, Stays, Under}
use Rattle.bc_tree.specs.declared.change.NodeChange.{NodeChange}
use Rattle.bc_tree.specs.declared.change.NodeChange.TheVariants.{Move, Set}

-- the node that stands in the place of another
abbrev pub node_next : Inner → NodeChange → Inner
node_next node (Set keys) = record node { children = with_children keys node.children }
node_next node (Move next) = next

-- the nodes after a change of the one at a place
abbrev pub nodes_next : List Inner → ℕ → NodeChange → List Inner
nodes_next [] place change = []
nodes_next (node ∷ nodes) zero change = node_next node change ∷ nodes
nodes_next (node ∷ nodes) (suc place) change = node ∷ nodes_next nodes place change

-- the nodes after what becomes of the one behind that at a place
abbrev pub beside_next : List Inner → ℕ → Beside → List Inner
beside_next nodes place Stays = nodes
beside_next nodes place (Comes node) = insert nodes (place + 1) node
beside_next nodes place (Moves node) = slice_set nodes (place + 1) node
beside_next nodes place Goes = remove nodes (place + 1)
beside_next nodes place (Under low high) = low ∷ high ∷ []

-- the nodes below the root after a change of the one at a place, and of the one behind it
abbrev pub below_next : List Inner → ℕ → NodeChange → Beside → List Inner
below_next below place change beside = beside_next (nodes_next below place change) place beside

-- the root after a change of the node above leaves, and of the root, where it is another and
-- changes
abbrev pub root_next : Inner → List Inner → NodeChange → Option NodeChange → Inner
root_next root [] bottom top = node_next root bottom
root_next root (node ∷ nodes) bottom None = root
root_next root (node ∷ nodes) bottom (Some top) = node_next root top

-- the leaves after an exchange
abbrev pub leaves_next : List LeafRange → Exchange → List LeafRange
leaves_next leaves e = take e.place leaves ++ coming e ++ drop (e.place + e.gone) leaves
