-- Two leaves that become one.
use Rattle.std.specs.Prelude.{◌≡◌, ◌⊎◌, ℕ, ◌+◌, ◌%◌, ◌^◌, ◌<◌, ◌≤◌, List, [], ◌∷◌, ◌++◌, Some, None, drop, slice_get}
use Rattle.bc_inner.specs.Inner.{Inner}
use Rattle.bc_key.specs.declared.key.Key.{Key}
use Rattle.bc_key.specs.declared.ptr.Ptr.{Ptr}
use Rattle.bc_node.specs.Leaf.{IsFull, Leaf}
use Rattle.bc_spine.specs.Exchange.{IsMerged}
use Rattle.bc_spine.specs.declared.leaf.LeafRange.{LeafRange}
use Rattle.bc_tree.specs.Spine.{IsPlaceAt, Spine, bottom}
use Rattle.bc_tree.specs.declared.plan.Plan.{Plan}
use Rattle.bc_tree.specs.declared.plan.PlanError.{PlanError}
use Rattle.bc_tree.specs.declared.plan.PlanError.TheVariants.{Large, Memory}
use Rattle.bc_tree.specs.declared.place.LeafPlace.{LeafPlace}
use Rattle.bc_tree.specs.Across.{HasNextAcross, IsAcrossPlan, across_count}
use Rattle.bc_tree.specs.Plan.{IsKeyOf, IsLeafWith, IsPlannedAbove, moves}

-- the node above a leaf has the next leaf too, which ends at a sector
pub record HasNextLeaf (spine : Spine) (place : LeafPlace) (until : ℕ) : Type 0 where
  pub node : Inner
  pub above : slice_get (bottom spine.root spine.below) place.node ≡ Some node
  pub key : Key
  pub child : slice_get node.children (place.child + 1) ≡ Some key
  pub leaf : LeafRange
  pub there : slice_get spine.leaves (place.leaf + 1) ≡ Some leaf
  pub ends : leaf.end ≡ key.end
  pub end : leaf.end ≡ until

-- a leaf comes in the place of the one that stands here and of the next, and nodes above them move
-- to these places
pub record IsMergePlan (spine : Spine) (place : LeafPlace) (first : Leaf) (to : List Ptr) (seq : ℕ)
    (plan : Plan) : Type 0 where
  pub leaves_are : IsMerged spine.leaves place.leaf first.ptr plan.leaves
  pub first_is : plan.first ≡ first
  pub alone : plan.second ≡ None
  pub key : Key
  pub names : IsKeyOf first.end first.ptr key
  pub above : IsPlannedAbove spine place 2 (key ∷ []) to seq plan

-- the leaf that stands here and the next, which begins at a sector and ends at another, are
-- children of this node, or of this and the next one; and there are as many places as the new nodes
-- above take where they become one
abbrev pub CanJoinHere : Spine → LeafPlace → Inner → ℕ → ℕ → ℕ → Type 0
CanJoinHere spine place node next until k =
    ((next < node.end) × HasNextLeaf spine place until × (k ≡ moves spine node 5))
    ⊎ ((node.end ≤ next)
    × ((other : Inner) × HasNextAcross spine place node other until
    × (k ≡ across_count spine node other)))

-- a leaf comes in their place
abbrev pub IsMadeJoin : Spine → LeafPlace → Inner → ℕ → Leaf → List Ptr → ℕ → Plan → Type 0
IsMadeJoin spine place node next first to seq plan =
    ((next < node.end) × IsMergePlan spine place first to seq plan)
    ⊎ ((node.end ≤ next) × IsAcrossPlan spine place first to seq plan)

-- the leaf of the keys of two neighbours
abbrev pub IsJoined : Leaf → Leaf → Ptr → ℕ → Leaf → Type 0
IsJoined left right to seq leaf =
    IsLeafWith left.from right.end to seq (left.keys ++ right.keys) leaf

-- a leaf with the keys of two neighbours comes in their place, at the first of these places, and
-- nodes above them move to the others
pub record IsLeafMerge (spine : Spine) (left right : Leaf) (to : List Ptr) (seq : ℕ) (plan : Plan)
    : Type 0 where
  pub place : LeafPlace
  pub stands : IsPlaceAt spine left.from place
  pub ptr : Ptr
  pub first_place : slice_get to 0 ≡ Some ptr
  pub leaf_comes : IsJoined left right ptr seq plan.first
  pub leaf_fits : ¬ (IsFull spine.geometry plan.first)
  pub moves : IsMadeJoin spine place stands.parent right.from plan.first (drop 1 to)
      ((seq + 1) % 2 ^ 64) plan

-- why two leaves don't become one: the one doesn't fit in a node
abbrev pub IsNotMerged : Spine → Leaf → Leaf → PlanError → Type 0
IsNotMerged spine left right Large =
    (to : Ptr) × (seq : ℕ) × (leaf : Leaf) × IsJoined left right to seq leaf
    × IsFull spine.geometry leaf
IsNotMerged spine left right Memory = Unit {0}
