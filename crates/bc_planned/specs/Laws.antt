-- Where the new nodes of a change of one leaf stand, and what they name.
use Rattle.std.specs.Prelude.{◌≡◌, ℕ, ◌+◌, ◌^◌, ◌<◌, List, ◌∷◌, Contains, length}
use Rattle.bc_inner.specs.Inner.{Inner}
use Rattle.bc_key.specs.declared.ptr.Ptr.{Ptr}
use Rattle.bc_node.specs.Leaf.{Leaf}
use Rattle.bc_planned.specs.Nodes.{nodes_of}
use Rattle.bc_planned.specs.Placed.{AreAt, NameEach, NamesAll}
use Rattle.bc_spine.specs.declared.leaf.LeafRange.{LeafRange}
use Rattle.bc_tree.specs.Plan.{IsOfSpine, new_count}
use Rattle.bc_tree.specs.Rewrite.{IsRewrite}
use Rattle.bc_tree.specs.Spine.{IsSpine, Spine}
use Rattle.bc_tree.specs.Split.{IsLeafSplit}
use Rattle.bc_tree.specs.declared.plan.Plan.{Plan}

-- There are as many places as new nodes, and numbers for all of them.
pub record AreEnough (to : List Ptr) (seq : ℕ) (plan : Plan) : Type 0 where
  pub many : new_count plan ≡ length to
  pub numbered : seq + length to < 2 ^ 64

-- The nodes of a leaf that moves stand at these places, in their order, with the numbers from this
-- one on; and so do those of a leaf that is split.
abbrev pub LawMoves : Type 0
LawMoves = (spine : Spine) (parts : ℕ) (leaf : Leaf) (to : List Ptr) (seq : ℕ) (plan : Plan)
    → IsOfSpine spine leaf → IsRewrite spine parts leaf to seq plan → AreEnough to seq plan
    → AreAt spine.geometry plan seq (nodes_of plan) to

abbrev pub LawSplits : Type 0
LawSplits = (spine : Spine) (leaf : Leaf) (to : List Ptr) (seq : ℕ) (plan : Plan)
    → IsOfSpine spine leaf → IsLeafSplit spine leaf to seq plan → AreEnough to seq plan
    → AreAt spine.geometry plan seq (nodes_of plan) to

-- ---- children

-- two ways to number what lies at a place give one number
abbrev pub Agree : (f h : Ptr → ℕ) → Ptr → Type 0
Agree f h ptr = f ptr ≡ h ptr

-- such is each place where a node of the tree stands
pub record StandEach (Q : Ptr → Type 0) (spine : Spine) : Type 0 where
  pub leaves : (l : LeafRange) → Contains spine.leaves l → Q l.ptr
  pub below : (n : Inner) → Contains spine.below n → Q n.ptr

-- Where two ways give one number for each node of the tree, so they do for each child that such a
-- node names.
abbrev pub LawChildren : Type 0
LawChildren = (f h : Ptr → ℕ) (spine : Spine)
    → IsSpine spine.geometry spine.root spine.below spine.leaves → StandEach (Agree f h) spine
    → (n : Inner) → Contains (spine.root ∷ spine.below) n → NamesAll (Agree f h) n

-- And where they do for the places of new nodes too, so they do for all that new nodes name.
abbrev pub LawNewMoved : Type 0
LawNewMoved = (f h : Ptr → ℕ) (spine : Spine) (parts : ℕ) (leaf : Leaf) (to : List Ptr) (seq : ℕ)
    (plan : Plan) → IsSpine spine.geometry spine.root spine.below spine.leaves
    → StandEach (Agree f h) spine → ((ptr : Ptr) → Contains to ptr → Agree f h ptr)
    → IsRewrite spine parts leaf to seq plan → NameEach (Agree f h) plan

abbrev pub LawNewSplit : Type 0
LawNewSplit = (f h : Ptr → ℕ) (spine : Spine) (leaf : Leaf) (to : List Ptr) (seq : ℕ) (plan : Plan)
    → IsSpine spine.geometry spine.root spine.below spine.leaves → StandEach (Agree f h) spine
    → ((ptr : Ptr) → Contains to ptr → Agree f h ptr) → IsLeafSplit spine leaf to seq plan
    → NameEach (Agree f h) plan
