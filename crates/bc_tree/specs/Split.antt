-- A leaf that is split in two.
use Rattle.std.specs.Prelude.{◌≡◌, ◌⊎◌, ℕ, ◌+◌, ◌%◌, ◌^◌, ◌<◌, true, false, List, [], ◌∷◌, Some, length, drop, slice_get}
use Rattle.bc_disk.specs.declared.geometry.Geometry.{Geometry}
use Rattle.bc_inner.specs.Inner.{Inner}
use Rattle.bc_key.specs.declared.key.Key.{Key}
use Rattle.bc_key.specs.declared.ptr.Ptr.{Ptr}
use Rattle.bc_model.specs.Pieces.{piece_sectors}
use Rattle.bc_node.specs.Leaf.{IsFull, Leaf}
use Rattle.bc_spine.specs.Exchange.{IsSplit}
use Rattle.bc_tree.specs.Needs.{fits_node, words}
use Rattle.bc_tree.specs.Parts.{IsNearMiddle}
use Rattle.bc_tree.specs.Spine.{IsPlaceAt, Spine}
use Rattle.bc_tree.specs.declared.plan.Plan.{Plan}
use Rattle.bc_tree.specs.declared.plan.PlanError.{PlanError}
use Rattle.bc_tree.specs.declared.plan.PlanError.TheVariants.{Large, Memory}
use Rattle.bc_tree.specs.declared.place.LeafPlace.{LeafPlace}
use Rattle.bc_tree.specs.Halves.{IsHalvedAbove, halves_count}
use Rattle.bc_tree.specs.Plan.{IsComing, IsKeyOf, IsPlannedAbove, IsTooLarge, moves}

-- two leaves come in the place of the one that stands here, and nodes above it move to these places
pub record IsSplitPlan (spine : Spine) (place : LeafPlace) (low high : Leaf) (to : List Ptr)
    (seq : ℕ) (plan : Plan) : Type 0 where
  pub leaves_are : IsSplit spine.leaves place.leaf low.end low.ptr high.ptr plan.leaves
  pub first_is : plan.first ≡ low
  pub second_is : plan.second ≡ Some high
  pub low_key : Key
  pub low_names : IsKeyOf low.end low.ptr low_key
  pub high_key : Key
  pub high_names : IsKeyOf high.end high.ptr high_key
  pub above : IsPlannedAbove spine place 1 (low_key ∷ high_key ∷ []) to seq plan

-- two leaves come in the place of the one that stands here, and two nodes in the place of the one
-- above it
pub record IsHalvesPlan (spine : Spine) (place : LeafPlace) (low high : Leaf) (to : List Ptr)
    (seq : ℕ) (plan : Plan) : Type 0 where
  pub leaves_are : IsSplit spine.leaves place.leaf low.end low.ptr high.ptr plan.leaves
  pub first_is : plan.first ≡ low
  pub second_is : plan.second ≡ Some high
  pub low_key : Key
  pub low_names : IsKeyOf low.end low.ptr low_key
  pub high_key : Key
  pub high_names : IsKeyOf high.end high.ptr high_key
  pub above : IsHalvedAbove spine place (low_key ∷ high_key ∷ []) to seq plan

-- there are as many places as the new nodes above leaves take, where a node has one child more or
-- gives way to two
abbrev pub AreSplitPlaces : Spine → Inner → ℕ → Type 0
AreSplitPlaces spine node k =
    ((fits_node spine.geometry (words node.children + 3) ≡ true) × (k ≡ moves spine node 6))
    ⊎ ((fits_node spine.geometry (words node.children + 3) ≡ false) × (k ≡ halves_count spine)
    × (0 < length spine.below → fits_node spine.geometry (words spine.root.children + 3) ≡ true))

-- the node above has room for one child more, or gives way to two
abbrev pub IsMadeSplit : Spine → LeafPlace → Inner → Leaf → Leaf → List Ptr → ℕ → Plan → Type 0
IsMadeSplit spine place node low high to seq plan =
    ((fits_node spine.geometry (words node.children + 3) ≡ true)
    × IsSplitPlan spine place low high to seq plan)
    ⊎ ((fits_node spine.geometry (words node.children + 3) ≡ false)
    × IsHalvesPlan spine place low high to seq plan)

-- the leaves of the keys that a leaf has below a sector, and of those that it has from there on
pub record AreHalves (g : Geometry) (leaf : Leaf) (cut : ℕ) (to : List Ptr) (seq : ℕ)
    (low high : Leaf) : Type 0 where
  pub low_ptr : Ptr
  pub high_ptr : Ptr
  pub places : (slice_get to 0 ≡ Some low_ptr) × (slice_get to 1 ≡ Some high_ptr)
  pub low_comes : IsComing leaf.keys leaf.from cut low_ptr seq low
  pub high_comes : IsComing leaf.keys cut leaf.end high_ptr ((seq + 1) % 2 ^ 64) high
  pub low_fits : ¬ (IsFull g low)
  pub high_fits : ¬ (IsFull g high)

-- two leaves with the keys of one come in its place, at the first two of these places, and nodes
-- above it move to the others
pub record IsLeafSplit (spine : Spine) (leaf : Leaf) (to : List Ptr) (seq : ℕ) (plan : Plan)
    : Type 0 where
  pub place : LeafPlace
  pub stands : IsPlaceAt spine leaf.from place
  pub cut : ℕ
  pub within : (leaf.from < cut) × (cut < leaf.end) × (cut % piece_sectors ≡ 0)
  pub middle : IsNearMiddle leaf.from leaf.keys cut
  pub high : Leaf
  pub halves : AreHalves spine.geometry leaf cut to seq plan.first high
  pub moves : IsMadeSplit spine place stands.parent plan.first high (drop 2 to) ((seq + 2) % 2 ^ 64)
      plan

-- the leaf of the keys on one side of a sector doesn't fit in a node
abbrev pub IsHalfTooLarge : Geometry → Leaf → ℕ → Type 0
IsHalfTooLarge g leaf cut = IsTooLarge g leaf leaf.from cut ⊎ IsTooLarge g leaf cut leaf.end

-- why the two aren't made
abbrev pub IsNoHalf : Geometry → Leaf → ℕ → PlanError → Type 0
IsNoHalf g leaf cut Large = IsHalfTooLarge g leaf cut
IsNoHalf g leaf cut Memory = Unit {0}

-- why a leaf isn't split: one of the two doesn't fit in a node
abbrev pub IsNotSplit : Spine → Leaf → PlanError → Type 0
IsNotSplit spine leaf Large =
    (cut : ℕ) × IsNearMiddle leaf.from leaf.keys cut × IsHalfTooLarge spine.geometry leaf cut
IsNotSplit spine leaf Memory = Unit {0}
