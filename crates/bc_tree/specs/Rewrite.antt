-- A leaf that moves.
use Rattle.std.specs.Prelude.{◌≡◌, ℕ, ◌+◌, ◌%◌, ◌^◌, List, [], ◌∷◌, Some, None, drop, slice_get}
use Rattle.bc_key.specs.declared.key.Key.{Key}
use Rattle.bc_key.specs.declared.ptr.Ptr.{Ptr}
use Rattle.bc_node.specs.Leaf.{IsFull, Leaf}
use Rattle.bc_spine.specs.Exchange.{IsMoved as IsMovedLeaf}
use Rattle.bc_tree.specs.Spine.{IsPlaceAt, Spine}
use Rattle.bc_tree.specs.declared.plan.Plan.{Plan}
use Rattle.bc_tree.specs.declared.plan.PlanError.{PlanError}
use Rattle.bc_tree.specs.declared.plan.PlanError.TheVariants.{Large, Memory}
use Rattle.bc_tree.specs.declared.place.LeafPlace.{LeafPlace}
use Rattle.bc_tree.specs.Plan.{IsComing, IsKeyOf, IsPlannedAbove, IsTooLarge, moves}

-- a leaf comes in the place of the one that stands here, and nodes above it move to these places
pub record IsMovePlan (spine : Spine) (place : LeafPlace) (parts : ℕ) (first : Leaf) (to : List Ptr) (seq : ℕ)
    (plan : Plan) : Type 0 where
  pub leaves_are : IsMovedLeaf spine.leaves place.leaf parts first.ptr plan.leaves
  pub first_is : plan.first ≡ first
  pub alone : plan.second ≡ None
  pub key : Key
  pub names : IsKeyOf first.end first.ptr key
  pub above : IsPlannedAbove spine place 1 (key ∷ []) to seq plan

-- a leaf moves to the first of these places, and nodes above it to the others
pub record IsRewrite (spine : Spine) (parts : ℕ) (leaf : Leaf) (to : List Ptr) (seq : ℕ) (plan : Plan)
    : Type 0 where
  pub place : LeafPlace
  pub stands : IsPlaceAt spine leaf.from place
  pub ptr : Ptr
  pub first_place : slice_get to 0 ≡ Some ptr
  pub leaf_comes : IsComing leaf.keys leaf.from leaf.end ptr seq plan.first
  pub leaf_fits : ¬ (IsFull spine.geometry plan.first)
  pub moves : IsMovePlan spine place parts plan.first (drop 1 to) ((seq + 1) % 2 ^ 64) plan

-- why a leaf isn't moved: the leaf that would come doesn't fit in a node
abbrev pub IsNotRewritten : Spine → Leaf → PlanError → Type 0
IsNotRewritten spine leaf Large = IsTooLarge spine.geometry leaf leaf.from leaf.end
IsNotRewritten spine leaf Memory = Unit {0}
