-- Two leaves of two nodes that become one, and what becomes of the nodes.
use Rattle.std.specs.Prelude.{◌≡◌, ◌⊎◌, ℕ, ◌+◌, ◌-◌, ◌%◌, ◌^◌, ◌<◌, ◌≤◌, true, false, List, [], ◌∷◌, ◌++◌, Option, Some, None, length, take, drop, slice_get, if◌then◌else◌}
use Rattle.bc_disk.specs.declared.geometry.Geometry.{Geometry}
use Rattle.bc_inner.specs.Inner.{CoverRange, Inner}
use Rattle.bc_key.specs.declared.key.Key.{Key}
use Rattle.bc_key.specs.declared.ptr.Ptr.{Ptr}
use Rattle.bc_node.specs.Leaf.{Leaf}
use Rattle.bc_spine.specs.Exchange.{IsFor, IsMerged, coming}
use Rattle.bc_spine.specs.declared.leaf.LeafRange.{LeafRange}
use Rattle.bc_tree.specs.Change.{IsChangeOf}
use Rattle.bc_tree.specs.Children.{children_after}
use Rattle.bc_tree.specs.Group.{AreTwo, IsFresh}
use Rattle.bc_tree.specs.Needs.{become_one, has_room}
use Rattle.bc_tree.specs.Spine.{NameLeaves, Spine, bottom, children_in}
use Rattle.bc_tree.specs.declared.beside.Beside.{Beside}
use Rattle.bc_tree.specs.declared.beside.Beside.TheVariants.{Goes, Moves}
use Rattle.bc_tree.specs.declared.change.NodeChange.{NodeChange}
use Rattle.bc_tree.specs.declared.change.NodeChange.TheVariants.{Move}
use Rattle.bc_spine.specs.declared.exchange.Exchange.{Exchange}
use Rattle.bc_tree.specs.declared.install.NewLeaves.{NewLeaves}
use Rattle.bc_tree.specs.declared.plan.Plan.{Plan}
use Rattle.bc_tree.specs.declared.place.LeafPlace.{LeafPlace}
use Rattle.bc_tree.specs.Halves.{IsRegrouped}
use Rattle.bc_tree.specs.Plan.{IsKeyOf, Names, above_count}

-- the children of two neighbouring nodes, where the last of the one and the first of the other give
-- way to one
abbrev pub children_across : Inner → Inner → Key → List Key
children_across left right key =
    children_after (left.children ++ right.children) (length left.children - 1) 2 (key ∷ [])

-- one node comes in the place of two below the root, which names it
pub record IsOneBelow (g : Geometry) (root : Inner) (place : ℕ) (one : Inner) (to : List Ptr)
    (seq : ℕ) (bottom : NodeChange) (top : Option NodeChange) : Type 0 where
  pub key : Key
  pub names : Names key one
  pub change : NodeChange
  pub change_is : IsChangeOf g root place 2 (key ∷ []) to seq change
  pub bottom_is : bottom ≡ Move one
  pub top_is : top ≡ Some change

-- it has the children of both
pub record IsOneAcross (g : Geometry) (root left right : Inner) (place : ℕ) (key : Key)
    (to : List Ptr) (seq : ℕ) (bottom : NodeChange) (top : Option NodeChange) (beside : Beside)
    : Type 0 where
  pub one : Inner
  pub ptr : Ptr
  pub first_place : slice_get to 0 ≡ Some ptr
  pub one_is : IsFresh 1 left.from right.end (children_across left right key) ptr seq one
  pub above : IsOneBelow g root place one (drop 1 to) ((seq + 1) % 2 ^ 64) bottom top
  pub beside_is : beside ≡ Goes

-- two come in the place of both, and the first has as many children as before
pub record IsTwoAcross (g : Geometry) (root left right : Inner) (place : ℕ) (key : Key)
    (to : List Ptr) (seq : ℕ) (bottom : NodeChange) (top : Option NodeChange) (beside : Beside)
    : Type 0 where
  pub low : Inner
  pub high : Inner
  pub two : AreTwo left.from right.end (length left.children) (children_across left right key) to
      seq low high
  pub above : IsRegrouped g root place 2 low high (drop 2 to) ((seq + 2) % 2 ^ 64) bottom top
  pub beside_is : beside ≡ Moves high

-- two neighbouring nodes become one where that is small enough, and else move both
abbrev pub IsAcross : Geometry → Inner → Inner → Inner → ℕ → Key → List Ptr → ℕ → NodeChange
    → Option NodeChange → Beside → Type 0
IsAcross g root left right place key to seq bottom top beside =
    ((become_one g left right ≡ true)
    × IsOneAcross g root left right place key to seq bottom top beside)
    ⊎ ((become_one g left right ≡ false)
    × IsTwoAcross g root left right place key to seq bottom top beside)

-- how many new nodes above leaves that makes
abbrev pub across_count : Spine → Inner → Inner → ℕ
across_count spine left right =
    if become_one spine.geometry left right then
    (if has_room spine.geometry spine.root 5 then 1 else 2)
    else (if has_room spine.geometry spine.root 8 then 2 else 3)

-- a key can come in the place of the last child of a node below the root, and of the first one of
-- the next
pub record CanJoinAcross (below : List Inner) (left right : Inner) (place : ℕ) (key : Key)
    : Type 0 where
  pub there : slice_get below place ≡ Some left
  pub behind : slice_get below (place + 1) ≡ Some right
  pub some : (0 < length left.children) × (0 < length right.children)
  pub one : key.count ≡ 1
  pub cover : CoverRange left.from right.end (children_across left right key)
  pub later : left.end < key.end

-- so can a leaf, by an exchange
pub record CanJoinAt (spine : Spine) (e : Exchange) (left right : Inner) (place : LeafPlace)
    (key : Key) : Type 0 where
  pub leaves_fit : IsFor spine.leaves e
  pub spare : length (coming e) ≤ spine.spare + e.gone
  pub gone_is : e.gone ≡ 2
  pub before : e.place
      ≡ length (children_in (take place.node spine.below)) + (length left.children - 1)
  pub names : NameLeaves (key ∷ []) (coming e)
  pub can : CanJoinAcross spine.below left right place.node key

-- the plan says so of the nodes above two leaves
pub record IsJoinedAcross (spine : Spine) (place : LeafPlace) (key : Key) (to : List Ptr) (seq : ℕ)
    (plan : Plan) : Type 0 where
  pub place_is : plan.place ≡ place.node
  pub left : Inner
  pub right : Inner
  pub there : slice_get spine.below place.node ≡ Some left
  pub behind : slice_get spine.below (place.node + 1) ≡ Some right
  pub above : IsAcross spine.geometry spine.root left right place.node key to seq plan.bottom
      plan.top plan.beside
  pub count : above_count plan ≡ across_count spine left right

-- the plan exchanges these leaves, and joins the nodes above them
pub record IsAcrossOf (spine : Spine) (new : NewLeaves) (place : LeafPlace) (key : Key)
    (to : List Ptr) (seq : ℕ) (plan : Plan) : Type 0 where
  pub leaves_are : plan.leaves ≡ new.leaves
  pub first_is : plan.first ≡ new.first
  pub second_is : plan.second ≡ new.second
  pub above : IsJoinedAcross spine place key to seq plan

-- the leaf is the last child of its node, and the next leaf, which ends at a sector, is the first
-- one of the next node
pub record HasNextAcross (spine : Spine) (place : LeafPlace) (left right : Inner) (until : ℕ)
    : Type 0 where
  pub there : slice_get spine.below place.node ≡ Some left
  pub behind : slice_get spine.below (place.node + 1) ≡ Some right
  pub last : place.child + 1 ≡ length left.children
  pub key : Key
  pub child : slice_get right.children 0 ≡ Some key
  pub leaf : LeafRange
  pub leaf_there : slice_get spine.leaves (place.leaf + 1) ≡ Some leaf
  pub ends : leaf.end ≡ key.end
  pub end : leaf.end ≡ until
  pub before : place.leaf ≡ length (children_in (take place.node spine.below)) + place.child

-- a leaf comes in the place of the one that stands here and of the next, and the nodes above them
-- become one, or both move
pub record IsAcrossPlan (spine : Spine) (place : LeafPlace) (first : Leaf) (to : List Ptr) (seq : ℕ)
    (plan : Plan) : Type 0 where
  pub leaves_are : IsMerged spine.leaves place.leaf first.ptr plan.leaves
  pub first_is : plan.first ≡ first
  pub alone : plan.second ≡ None
  pub key : Key
  pub names : IsKeyOf first.end first.ptr key
  pub above : IsJoinedAcross spine place key to seq plan
