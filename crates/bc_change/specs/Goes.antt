-- What a planned change of the tree takes away and brings.
use Rattle.std.specs.Prelude.{◌≡◌, ℕ, ◌+◌, ◌^◌, ◌<◌, List, [], ◌∷◌, ◌++◌, Option, Some, None, map, take, drop}
use Rattle.bc_events.specs.declared.event.Change.{Change}
use Rattle.bc_inner.specs.Inner.{Inner}
use Rattle.bc_meta.specs.Facts.{In}
use Rattle.bc_node.specs.Leaf.{Leaf}
use Rattle.bc_nodes_known.specs.bc_machine.Containers.{inner_slot}
use Rattle.bc_spine.specs.Exchange.{coming, going}
use Rattle.bc_spine.specs.Leaves.{IsRow}
use Rattle.bc_spine.specs.declared.leaf.LeafRange.{LeafRange}
use Rattle.bc_tree.specs.Spine.{Spine, bottom}
use Rattle.bc_tree.specs.declared.beside.Beside.{Beside}
use Rattle.bc_tree.specs.declared.beside.Beside.TheVariants.{Comes, Goes, Moves, Stays, Under}
use Rattle.bc_tree.specs.declared.change.NodeChange.{NodeChange}
use Rattle.bc_tree.specs.declared.change.NodeChange.TheVariants.{Move, Set}
use Rattle.bc_tree.specs.declared.plan.Plan.{Plan}
use Rattle.bc_whole.specs.State.{Opening}

-- ---- inner nodes

-- what becomes of a node brings this one; and it takes the node away
abbrev pub moved : NodeChange → List Inner
moved (Set keys) = []
moved (Move next) = next ∷ []

abbrev pub gives_way : NodeChange → List Inner → List Inner
gives_way (Set keys) nodes = []
gives_way (Move next) nodes = nodes

abbrev pub top_moved : Option NodeChange → List Inner
top_moved None = []
top_moved (Some change) = moved change

abbrev pub top_gives_way : Option NodeChange → Inner → List Inner
top_gives_way None root = []
top_gives_way (Some change) root = gives_way change (root ∷ [])

-- beside a node, those that come; and of those behind it, the one that goes
abbrev pub beside_come : Beside → List Inner
beside_come Stays = []
beside_come (Comes node) = node ∷ []
beside_come (Moves node) = node ∷ []
beside_come Goes = []
beside_come (Under low high) = low ∷ high ∷ []

abbrev pub beside_gone : Beside → List Inner → List Inner
beside_gone Stays behind = []
beside_gone (Comes node) behind = []
beside_gone (Moves node) behind = take 1 behind
beside_gone Goes behind = take 1 behind
beside_gone (Under low high) behind = []

-- the inner nodes that the plan brings, and those of the tree that it takes away
abbrev pub new_nodes : Plan → List Inner
new_nodes plan = moved plan.bottom ++ (top_moved plan.top ++ beside_come plan.beside)

abbrev pub old_nodes : Spine → Plan → List Inner
old_nodes spine plan =
    gives_way plan.bottom (take 1 (drop plan.place (bottom spine.root spine.below)))
    ++ (top_gives_way plan.top spine.root
    ++ beside_gone plan.beside (drop (plan.place + 1) spine.below))

-- The plan moves each node that changes, up to the root, and brings this one: so the journal names
-- it, and no set of a node of the tree does.
abbrev pub BringsBy : List Inner → NodeChange → Option NodeChange → Inner → Type 0
BringsBy [] (Set keys) top root = ⊥
BringsBy [] (Move next) top root = root ≡ next
BringsBy (node ∷ nodes) (Set keys) top root = ⊥
BringsBy (node ∷ nodes) (Move next) None root = ⊥
BringsBy (node ∷ nodes) (Move next) (Some (Set keys)) root = ⊥
BringsBy (node ∷ nodes) (Move next) (Some (Move up)) root = root ≡ up

abbrev pub BringsRoot : Spine → Plan → Inner → Type 0
BringsRoot spine plan root = BringsBy spine.below plan.bottom plan.top root

-- ---- leaves

-- a leaf comes in this range: the one of the lower sectors, or the other one
abbrev pub second_comes : Option LeafRange → Option Leaf → List (LeafRange × Leaf)
second_comes None leaf = []
second_comes (Some range) None = []
second_comes (Some range) (Some leaf) = (range, leaf) ∷ []

abbrev pub new_leaves : Plan → List (LeafRange × Leaf)
new_leaves plan =
    (plan.leaves.first, plan.first) ∷ second_comes plan.leaves.second plan.second

-- ---- the change, as events name it

abbrev pub numbers : List LeafRange → List ℕ
numbers ranges = map (λ (l : LeafRange). l.number) ranges

abbrev pub slots : Opening → List Inner → List ℕ
slots w nodes = map (inner_slot w) nodes

-- The change is what the plan makes of the tree: leaves by their numbers, and inner nodes by their
-- buckets, between the sectors of the leaves that go.
pub record IsChangeBy (w : Opening) (spine : Spine) (plan : Plan) (c : Change) : Type 0 where
  pub row : IsRow c.low (going spine.leaves plan.leaves) c.high
  pub gone : c.gone.items ≡ numbers (going spine.leaves plan.leaves)
  pub come : c.come.items ≡ numbers (coming plan.leaves)
  pub old : c.old.items ≡ slots w (old_nodes spine plan)
  pub new : c.new.items ≡ slots w (new_nodes plan)
  -- numbers of leaves are of 32 bits, and what lies beyond the tree has none of them
  pub few : (k : ℕ) → In k c.come.items → k < 2 ^ 32
