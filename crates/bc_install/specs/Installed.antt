-- What an install makes of the parts in memory.
use Rattle.std.specs.Prelude.{◌≡◌, ◌≢◌, ◌⊎◌, ℕ, ◌%◌, false, Contains, List, None, Some, slice_get}
use Rattle.bc_cache.specs.Slots.{IsTakenBy, Misses, NodeCache}
use Rattle.bc_cache.specs.declared.slots.Cached.{Cached}
use Rattle.bc_change.specs.Goes.{new_leaves}
use Rattle.bc_meta.specs.Facts.{In}
use Rattle.bc_node.specs.Leaf.{Leaf}
use Rattle.bc_spine.specs.Exchange.{going}
use Rattle.bc_spine.specs.Numbers.{HasNumber}
use Rattle.bc_spine.specs.declared.leaf.LeafRange.{LeafRange}
use Rattle.bc_tree.specs.Next.{below_next, leaves_next, root_next}
use Rattle.bc_tree.specs.Same.{SameNode, SameNodes}
use Rattle.bc_tree.specs.Spine.{Spine}
use Rattle.bc_tree.specs.declared.plan.Plan.{Plan}
use Rattle.bc_change.specs.bc_machine.declared.part.SpinePart.{SpinePart}

-- ---- the tree

-- the plan was put into the tree
pub record IsTreeWith (spine : Spine) (plan : Plan) (new : Spine) : Type 0 where
  pub geometry : new.geometry ≡ spine.geometry
  pub root : SameNode (root_next spine.root spine.below plan.bottom plan.top) new.root
  pub below : SameNodes (below_next spine.below plan.place plan.bottom plan.beside) new.below
  pub leaves : new.leaves ≡ leaves_next spine.leaves plan.leaves

-- and no change of it is under way any more
pub record HasTreeWith (p : SpinePart) (plan : Plan) (q : SpinePart) : Type 0 where
  pub tree : IsTreeWith p.spine plan q.spine
  pub next_seq : q.next_seq ≡ p.next_seq
  pub over : q.changing ≡ false

-- ---- leaves in memory

-- Nobody holds the leaf of this slot, which is the same one, and the other slots are as they were.
pub record IsLetGoIn (slot : ℕ) (a b : NodeCache) : Type 0 where
  pub geometry : b.geometry ≡ a.geometry
  pub free : IsTakenBy b.slots slot false
  pub others : (i : ℕ) → i ≢ slot → slice_get b.slots i ≡ slice_get a.slots i

-- The leaves of these numbers are in no slot, theirs are empty, and the other slots are as they were.
pub record AreTakenOut (gone : List ℕ) (a b : NodeCache) : Type 0 where
  pub geometry : b.geometry ≡ a.geometry
  pub now : (i : ℕ) (c : Cached) → slice_get b.slots i ≡ Some (Some c)
      → (slice_get a.slots i ≡ Some (Some c)) × ¬ (In c.number gone)
  pub stay : (i : ℕ) (c : Cached) → slice_get a.slots i ≡ Some (Some c)
      → In c.number gone ⊎ (slice_get b.slots i ≡ Some (Some c))
  pub emptied : (i : ℕ) (c : Cached) → slice_get a.slots i ≡ Some (Some c) → In c.number gone
      → slice_get b.slots i ≡ Some None
  pub empty : (i : ℕ) → slice_get a.slots i ≡ Some None → slice_get b.slots i ≡ Some None

-- a leaf of the plan is in a slot of the part that has the leaves of its number
pub record IsBrought (plan : Plan) (count part : ℕ) (c : Cached) : Type 0 where
  pub range : LeafRange
  pub leaf : Contains (new_leaves plan) (range, c.leaf)
  pub number_is : range.number ≡ c.number
  pub its : c.number % count ≡ part

-- The leaves that went are in no slot, those that came may be in some, and no other slot changed.
pub record HasLeavesWith (spine : Spine) (plan : Plan) (count part : ℕ) (a b : NodeCache) :
    Type 0 where
  pub geometry : b.geometry ≡ a.geometry
  pub now : (i : ℕ) (c : Cached) → slice_get b.slots i ≡ Some (Some c)
      → ((slice_get a.slots i ≡ Some (Some c))
      × ¬ (HasNumber (going spine.leaves plan.leaves) c.number))
      ⊎ IsBrought plan count part c
  pub stay : (i : ℕ) (c : Cached) → slice_get a.slots i ≡ Some (Some c)
      → HasNumber (going spine.leaves plan.leaves) c.number
      ⊎ (slice_get b.slots i ≡ Some (Some c))

-- ---- new leaves in memory

-- a slot has this leaf, of this number
abbrev pub IsInSlot : NodeCache → ℕ → Leaf → Type 0
IsInSlot a number leaf = (i : ℕ) × (c : Cached) × (slice_get a.slots i ≡ Some (Some c))
    × (c.number ≡ number) × (c.leaf ≡ leaf)

-- the part has the leaves of this number, none of which is in a slot, and a slot is empty
pub record HasRoomFor (count part : ℕ) (a : NodeCache) (number : ℕ) : Type 0 where
  pub its : number % count ≡ part
  pub misses : Misses a.slots number
  pub slot : ℕ
  pub empty : slice_get a.slots slot ≡ Some None

-- Such a new leaf came into an empty slot, and the other slots are as they were.
pub record IsBroughtIn (count part number : ℕ) (leaf : Leaf) (a b : NodeCache) : Type 0 where
  pub geometry : b.geometry ≡ a.geometry
  pub now : (i : ℕ) (c : Cached) → slice_get b.slots i ≡ Some (Some c)
      → (slice_get a.slots i ≡ Some (Some c))
      ⊎ ((number % count ≡ part) × (c.number ≡ number) × (c.leaf ≡ leaf))
  pub stay : (i : ℕ) (c : Cached) → slice_get a.slots i ≡ Some (Some c)
      → slice_get b.slots i ≡ Some (Some c)
  pub came : HasRoomFor count part a number → IsInSlot b number leaf

-- So did leaves of the plan, as far as there was room: the one of the lower sectors first.
pub record AreBroughtIn (count part : ℕ) (plan : Plan) (a b : NodeCache) : Type 0 where
  pub geometry : b.geometry ≡ a.geometry
  pub now : (i : ℕ) (c : Cached) → slice_get b.slots i ≡ Some (Some c)
      → (slice_get a.slots i ≡ Some (Some c)) ⊎ IsBrought plan count part c
  pub stay : (i : ℕ) (c : Cached) → slice_get a.slots i ≡ Some (Some c)
      → slice_get b.slots i ≡ Some (Some c)
  pub first : HasRoomFor count part a plan.leaves.first.number
      → IsInSlot b plan.leaves.first.number plan.first
