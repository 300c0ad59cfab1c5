-- A change of the tree, as it is planned.
use Rattle.std.specs.Prelude.{◌≡◌, ℕ, ◌+◌, ◌%◌, ◌^◌, ◌<◌, ◌≤◌, false, List, [], ◌∷◌, Option, Some, None, IfSome, length, option_to_list, take, drop, slice_get, if◌then◌else◌}
use Rattle.bc_disk.specs.declared.geometry.Geometry.{Geometry}
use Rattle.bc_extent.specs.Extents.{IsInOrder, Shows}
use Rattle.bc_extent.specs.LastKey.{last_key}
use Rattle.bc_image.specs.Children.{with_children}
use Rattle.bc_inner.specs.Inner.{CoverRange, Inner}
use Rattle.bc_key.specs.Key.{ptr_at}
use Rattle.bc_key.specs.declared.key.Key.{Key}
use Rattle.bc_key.specs.declared.ptr.Ptr.{Ptr}
use Rattle.bc_node.specs.Leaf.{AreLast, AreLastOfAll, IsFull, Leaf}
use Rattle.bc_spine.specs.Exchange.{IsFor, coming}
use Rattle.bc_spine.specs.Leaves.{Spans}
use Rattle.bc_spine.specs.declared.leaf.LeafRange.{LeafRange}
use Rattle.bc_tree.specs.Change.{CanChange, IsChangeOf, set_words}
use Rattle.bc_tree.specs.Group.{CanStand, beside_count}
use Rattle.bc_tree.specs.Needs.{has_room, is_low}
use Rattle.bc_tree.specs.Next.{below_next, leaves_next, root_next}
use Rattle.bc_tree.specs.Parts.{bounded}
use Rattle.bc_tree.specs.Spine.{IsSpine, NameLeaves, Spine, bottom, children_in}
use Rattle.bc_tree.specs.declared.beside.Beside.TheVariants.{Stays}
use Rattle.bc_tree.specs.declared.change.NodeChange.{NodeChange}
use Rattle.bc_tree.specs.declared.change.NodeChange.TheVariants.{Move, Set}
use Rattle.bc_spine.specs.declared.exchange.Exchange.{Exchange}
use Rattle.bc_tree.specs.declared.install.NewLeaves.{NewLeaves}
use Rattle.bc_tree.specs.declared.plan.Plan.{Plan}
use Rattle.bc_tree.specs.declared.place.LeafPlace.{LeafPlace}

-- ---- the leaf that comes

-- a leaf of this range at a place where nothing is written yet, with these keys, all of which are
-- pending
pub record IsLeafWith (from end : ℕ) (to : Ptr) (seq : ℕ) (keys : List Key) (leaf : Leaf)
    : Type 0 where
  pub begins : leaf.from ≡ from
  pub ends : leaf.end ≡ end
  pub stands : leaf.ptr ≡ to
  pub number : leaf.seq ≡ seq
  pub none : leaf.taken ≡ 0
  pub fresh : leaf.loaded ≡ false
  pub last : AreLast keys leaf.keys
  pub added : AreLastOfAll keys leaf.pending

-- it has for each sector of its range the key that the others show
pub record IsComing (keys : List Key) (from end : ℕ) (to : Ptr) (seq : ℕ) (leaf : Leaf)
    : Type 0 where
  pub parts : List Key
  pub shows : Shows (bounded from end (last_key keys)) parts
  pub order : IsInOrder parts
  pub is : IsLeafWith from end to seq parts leaf

-- the leaf is one of the tree's
pub record IsOfSpine (spine : Spine) (leaf : Leaf) : Type 0 where
  pub within : leaf.from < spine.root.end
  pub range : (i : ℕ) (range : LeafRange) → slice_get spine.leaves i ≡ Some range
      → Spans range leaf.from
      → (range.from ≡ leaf.from) × (range.end ≡ leaf.end)

-- the leaf of the keys that a leaf has between two sectors doesn't fit in a node
abbrev pub IsTooLarge : Geometry → Leaf → ℕ → ℕ → Type 0
IsTooLarge g leaf from end =
    (to : Ptr) × (seq : ℕ) × (other : Leaf) × IsComing leaf.keys from end to seq other
    × IsFull g other

-- ---- the nodes above it

-- how many nodes move where a node above leaves changes by a set of so many words
abbrev pub moves : Spine → Inner → ℕ → ℕ
moves spine parent n =
    if has_room spine.geometry parent n then 0
    else if is_low spine then 1
    else if has_room spine.geometry spine.root 3 then 1
    else 2

-- the key names what ends at a sector and stands at a place
pub record IsKeyOf (until : ℕ) (place : Ptr) (key : Key) : Type 0 where
  pub end : key.end ≡ until
  pub ptr : ptr_at key 0 ≡ place
  pub one : key.count ≡ 1

-- the key names the node
abbrev pub Names : Key → Inner → Type 0
Names key node = IsKeyOf node.end node.ptr key

-- what becomes of the root, where the node at a place below it moves: its key there gives way to
-- one that names the new place
abbrev pub IsTopChange : Geometry → Inner → List Inner → ℕ → NodeChange → List Ptr → ℕ
    → Option NodeChange → Type 0
IsTopChange g root [] place bottom to seq top = top ≡ None
IsTopChange g root (node ∷ nodes) place (Set keys) to seq top = top ≡ None
IsTopChange g root (node ∷ nodes) place (Move next) to seq top =
    (change : NodeChange) × (key : Key) × (top ≡ Some change) × Names key next
    × IsChangeOf g root place 1 (key ∷ []) (drop 1 to) ((seq + 1) % 2 ^ 64) change

-- what becomes of the node at a place, and of the root
pub record IsAbove (spine : Spine) (parent : Inner) (place at gone : ℕ) (come : List Key)
    (to : List Ptr) (seq : ℕ) (change : NodeChange)
    (top : Option NodeChange) : Type 0 where
  pub change_is : IsChangeOf spine.geometry parent at gone come to seq change
  pub top_is : IsTopChange spine.geometry spine.root spine.below place change to seq top

-- there are places for the root and the node below it, where they move
abbrev pub HavePlaces : Spine → NodeChange → List Ptr → Type 0
HavePlaces spine change to =
    (next : Inner) → change ≡ Move next → 0 < length spine.below
    → (1 ≤ length to) × (has_room spine.geometry spine.root 3 ≡ false → 2 ≤ length to)

-- the node at a place, and the root, have room for a further set
abbrev pub HasRoomAt : Spine → ℕ → Type 0
HasRoomAt spine place =
    (4 ≤ spine.root.spare)
    × ((node : Inner) → slice_get (bottom spine.root spine.below) place ≡ Some node
    → 4 ≤ node.spare)

-- ---- the plan

-- the node has room for the change
abbrev pub CanTake : Inner → NodeChange → Type 0
CanTake node (Set keys) =
    (length keys ≤ node.spare) × CoverRange node.from node.end (with_children keys node.children)
CanTake node (Move next) = Unit {0}

-- The plan can be installed in the tree: what it makes of it is a tree of the same sectors.
pub record Fits (spine : Spine) (plan : Plan) : Type 0 where
  pub leaves_fit : IsFor spine.leaves plan.leaves
  pub spare : length (coming plan.leaves) ≤ spine.spare + plan.leaves.gone
  pub node : Inner
  pub there : slice_get (bottom spine.root spine.below) plan.place ≡ Some node
  pub takes : CanTake node plan.bottom
  pub root_takes : IfSome plan.top (CanTake spine.root)
  -- where the leaves are the root's children, nothing becomes of it beside this
  pub alone : length spine.below ≡ 0 → plan.top ≡ None
  pub stands : CanStand (length spine.below) spine.room plan.place plan.beside
  pub tree : IsSpine spine.geometry (root_next spine.root spine.below plan.bottom plan.top)
      (below_next spine.below plan.place plan.bottom plan.beside)
      (leaves_next spine.leaves plan.leaves)
  pub end : (root_next spine.root spine.below plan.bottom plan.top).end ≡ spine.root.end

-- ---- what is planned

-- leaves give way to others by an exchange, and so do as many children of the node above them, from
-- the place of the first on
pub record CanExchange (spine : Spine) (e : Exchange) (place : LeafPlace) (gone : ℕ)
    (come : List Key) : Type 0 where
  pub fits : IsFor spine.leaves e
  pub spare : length (coming e) ≤ spine.spare + e.gone
  pub gone_are : e.gone ≡ gone
  pub before : e.place
      ≡ length (children_in (take place.node (bottom spine.root spine.below))) + place.child
  pub names : NameLeaves come (coming e)
  pub node : Inner
  pub there : slice_get (bottom spine.root spine.below) place.node ≡ Some node
  pub can : CanChange spine.geometry node place.child gone come

-- how many nodes move
abbrev pub moved_count : NodeChange → ℕ
moved_count (Set keys) = 0
moved_count (Move next) = 1

abbrev pub top_count : Option NodeChange → ℕ
top_count None = 0
top_count (Some change) = moved_count change

-- how many new nodes above leaves the plan brings
abbrev pub above_count : Plan → ℕ
above_count plan = moved_count plan.bottom + top_count plan.top + beside_count plan.beside

-- how many new nodes it brings: leaves, and nodes above them
abbrev pub new_count : Plan → ℕ
new_count plan = 1 + length (option_to_list plan.second) + above_count plan

-- the plan says what becomes of the nodes above leaves, where so many children give way to others
pub record IsPlannedAbove (spine : Spine) (place : LeafPlace) (gone : ℕ) (come : List Key)
    (to : List Ptr) (seq : ℕ) (plan : Plan) : Type 0 where
  pub place_is : plan.place ≡ place.node
  pub node : Inner
  pub there : slice_get (bottom spine.root spine.below) place.node ≡ Some node
  pub above : IsAbove spine node place.node place.child gone come to seq plan.bottom plan.top
  pub beside_is : plan.beside ≡ Stays
  pub moved : above_count plan ≡ moves spine node (set_words gone come)

-- the plan exchanges these leaves, and says what becomes of the nodes above them
pub record IsPlanOf (spine : Spine) (new : NewLeaves) (place : LeafPlace) (gone : ℕ)
    (come : List Key) (to : List Ptr) (seq : ℕ) (plan : Plan) : Type 0 where
  pub leaves_are : plan.leaves ≡ new.leaves
  pub first_is : plan.first ≡ new.first
  pub second_is : plan.second ≡ new.second
  pub above : IsPlannedAbove spine place gone come to seq plan
