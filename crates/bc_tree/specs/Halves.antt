-- A node above leaves that gives way to two.
use Rattle.std.specs.Prelude.{◌≡◌, ℕ, ◌+◌, ◌/◌, ◌%◌, ◌^◌, ◌<◌, ◌≤◌, true, List, [], ◌∷◌, Option, Some, None, All, length, take, drop, slice_get, if◌then◌else◌}
use Rattle.bc_disk.specs.declared.geometry.Geometry.{Geometry}
use Rattle.bc_inner.specs.Inner.{CoverRange, Inner}
use Rattle.bc_key.specs.declared.key.Key.{Key}
use Rattle.bc_key.specs.declared.ptr.Ptr.{Ptr}
use Rattle.bc_spine.specs.Exchange.{IsFor, coming}
use Rattle.bc_tree.specs.Change.{IsChangeOf}
use Rattle.bc_tree.specs.Children.{HasPointer, children_after}
use Rattle.bc_tree.specs.Group.{AreTwo, IsFresh}
use Rattle.bc_tree.specs.Needs.{fits_node, has_room, is_low, words}
use Rattle.bc_tree.specs.Spine.{NameLeaves, Spine, bottom, children_in}
use Rattle.bc_tree.specs.declared.beside.Beside.{Beside}
use Rattle.bc_tree.specs.declared.beside.Beside.TheVariants.{Comes, Under}
use Rattle.bc_tree.specs.declared.change.NodeChange.{NodeChange}
use Rattle.bc_tree.specs.declared.change.NodeChange.TheVariants.{Move}
use Rattle.bc_spine.specs.declared.exchange.Exchange.{Exchange}
use Rattle.bc_tree.specs.declared.install.NewLeaves.{NewLeaves}
use Rattle.bc_tree.specs.declared.plan.Plan.{Plan}
use Rattle.bc_tree.specs.declared.place.LeafPlace.{LeafPlace}
use Rattle.bc_tree.specs.Plan.{Names, above_count}

-- the root, whose children were leaves, gives way to these two, and to one of level 2 above them
pub record IsRaised (old : Inner) (low high : Inner) (to : List Ptr) (seq : ℕ) (bottom : NodeChange)
    (top : Option NodeChange) : Type 0 where
  pub low_key : Key
  pub high_key : Key
  pub names : Names low_key low × Names high_key high
  pub ptr : Ptr
  pub first_place : slice_get to 0 ≡ Some ptr
  pub root : Inner
  pub root_is : IsFresh 2 old.from old.end (low_key ∷ high_key ∷ []) ptr seq root
  pub bottom_is : bottom ≡ Move root
  pub none : top ≡ None

-- these two come in the place of so many below the root, which names them
pub record IsRegrouped (g : Geometry) (root : Inner) (place gone : ℕ) (low high : Inner)
    (to : List Ptr) (seq : ℕ) (bottom : NodeChange) (top : Option NodeChange) : Type 0 where
  pub low_key : Key
  pub high_key : Key
  pub names : Names low_key low × Names high_key high
  pub change : NodeChange
  pub change_is : IsChangeOf g root place gone (low_key ∷ high_key ∷ []) to seq change
  pub bottom_is : bottom ≡ Move low
  pub top_is : top ≡ Some change

-- what becomes of the root, and of the nodes below it, where two come in the place of the one above
-- a leaf
abbrev pub IsAboveHalves : Geometry → Inner → List Inner → ℕ → Inner → Inner → List Ptr → ℕ
    → NodeChange → Option NodeChange → Beside → Type 0
IsAboveHalves g root [] place low high to seq bottom top beside =
    IsRaised root low high to seq bottom top × (beside ≡ Under low high)
IsAboveHalves g root (m ∷ below) place low high to seq bottom top beside =
    IsRegrouped g root place 1 low high to seq bottom top × (beside ≡ Comes high)

-- the node at a place above leaves gives way to two: each has half of the children that it has
-- after the change
pub record IsHalved (g : Geometry) (root : Inner) (below : List Inner) (node : Inner) (place at : ℕ)
    (come : List Key) (to : List Ptr) (seq : ℕ) (bottom : NodeChange) (top : Option NodeChange)
    (beside : Beside) : Type 0 where
  pub low : Inner
  pub high : Inner
  pub two : AreTwo node.from node.end (length (children_after node.children at 1 come) / 2)
      (children_after node.children at 1 come) to seq low high
  pub above : IsAboveHalves g root below place low high (drop 2 to) ((seq + 2) % 2 ^ 64) bottom top
      beside

-- how many new nodes above leaves that makes
abbrev pub halves_count : Spine → ℕ
halves_count spine =
    if is_low spine then 3 else if has_room spine.geometry spine.root 6 then 2 else 3

-- a leaf can give way to two of these keys, and the node above it to two that have its children
-- after that
pub record CanHalve (g : Geometry) (root : Inner) (below : List Inner) (node : Inner) (place at : ℕ)
    (come : List Key) : Type 0 where
  pub there : slice_get (bottom root below) place ≡ Some node
  pub within : at < length node.children
  pub size : words come ≡ 6
  pub live : All HasPointer come
  pub long : length come ≡ 2
  pub cover : CoverRange node.from node.end (children_after node.children at 1 come)
  pub fits : 0 < length below → fits_node g (words root.children + 3) ≡ true

-- leaves give way to others by an exchange, and so does the key of the first among the children of
-- the node above
pub record CanHalveAt (spine : Spine) (e : Exchange) (place : LeafPlace) (come : List Key)
    : Type 0 where
  pub leaves_fit : IsFor spine.leaves e
  pub spare : length (coming e) ≤ spine.spare + e.gone
  pub gone_is : e.gone ≡ 1
  pub before : e.place
      ≡ length (children_in (take place.node (bottom spine.root spine.below))) + place.child
  pub names : NameLeaves come (coming e)
  pub node : Inner
  pub can : CanHalve spine.geometry spine.root spine.below node place.node place.child come

-- the plan says so of the nodes above a leaf
pub record IsHalvedAbove (spine : Spine) (place : LeafPlace) (come : List Key) (to : List Ptr)
    (seq : ℕ) (plan : Plan) : Type 0 where
  pub place_is : plan.place ≡ place.node
  pub node : Inner
  pub there : slice_get (bottom spine.root spine.below) place.node ≡ Some node
  pub above : IsHalved spine.geometry spine.root spine.below node place.node place.child come to seq
      plan.bottom plan.top plan.beside
  pub count : above_count plan ≡ halves_count spine

-- the plan exchanges these leaves, and halves the node above them
pub record IsHalvingOf (spine : Spine) (new : NewLeaves) (place : LeafPlace) (come : List Key)
    (to : List Ptr) (seq : ℕ) (plan : Plan) : Type 0 where
  pub leaves_are : plan.leaves ≡ new.leaves
  pub first_is : plan.first ≡ new.first
  pub second_is : plan.second ≡ new.second
  pub above : IsHalvedAbove spine place come to seq plan
