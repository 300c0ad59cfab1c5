-- A leaf in memory that is to give way, and what is planned for it.
use Rattle.std.specs.Prelude.{◌≡◌, ℕ, ◌+◌, ◌-◌, ◌%◌, ◌<◌, ◌≤◌, true, false, Contains, IfSome, List, Some, length, slice_get}
use Rattle.bc_cache.specs.declared.slots.Cached.{Cached}
use Rattle.bc_held.specs.bc_hand.declared.hand.Hand.{Hand}
use Rattle.bc_held.specs.bc_hand.declared.hand.LeafHand.{LeafHand}
use Rattle.bc_held.specs.declared.held.HeldBucket.{HeldBucket}
use Rattle.bc_held.specs.bc_machine.declared.part.SpinePart.{SpinePart}
use Rattle.bc_node.specs.Leaf.{AreProperKeys, Leaf}
use Rattle.bc_leaf_plan.specs.Way.{IsLongFor, IsNeededBy, IsNotPlannedBy, IsPlanBy, moves_up, places}
use Rattle.bc_leaf_plan.specs.declared.refused.Refused.{Refused}
use Rattle.bc_leaf_plan.specs.declared.refused.Refused.TheVariants as no
use Rattle.bc_leaf_plan.specs.declared.way.Way.{Way}
use Rattle.bc_spine.specs.declared.leaf.LeafRange.{LeafRange}
use Rattle.bc_tree.specs.LastKeys.{StandsInFor}
use Rattle.bc_tree.specs.Plan.{Fits, IsOfSpine, new_count}
use Rattle.bc_tree.specs.Same.{IsSameTree}
use Rattle.bc_tree.specs.Spine.{Spine}
use Rattle.bc_tree.specs.declared.needs.Needs.{Needs}
use Rattle.bc_tree.specs.declared.plan.Plan.{Plan}
use Rattle.bc_tree.specs.declared.plan.PlanError.TheVariants.{Large}

-- ---- in hand

-- The tree is in hand and at rest, and so is, of so many parts, the one that has a leaf of the tree
-- in this slot, where it is held. Both are of one device, and the leaf has enough sectors.
pub record HasLeafToGo {C B : Type 0} (h : Hand C B) (parts : ℕ) (way : Way) (slot : ℕ) :
    Type 0 where
  pub spine : SpinePart
  pub is_spine : h.spine ≡ Some spine
  pub rest : spine.changing ≡ false
  pub leaves : LeafHand
  pub are_leaves : h.leaves ≡ Some leaves
  pub geometry : leaves.cache.geometry ≡ spine.spine.geometry
  pub cached : Cached
  pub there : slice_get leaves.cache.slots slot ≡ Some (Some cached)
  pub held : cached.held ≡ true
  pub range : LeafRange
  pub in_tree : Contains spine.spine.leaves range
  pub number_is : cached.number ≡ range.number
  pub its_part : leaves.part ≡ 6 + range.number % (parts - 6)
  pub from : cached.leaf.from ≡ range.from
  pub end : cached.leaf.end ≡ range.end
  pub long : IsLongFor way cached.leaf

-- the same with this tree
abbrev pub with_spine : {C B : Type 0} → Hand C B → SpinePart → Hand C B
with_spine h spine = record h { spine = Some spine }

-- Nothing is changed but the room in the tree.
pub record HasRoomed {C B : Type 0} (h : Hand C B) (old : SpinePart) (k : Hand C B) : Type 0 where
  pub spine : Spine
  pub tree : IsSameTree old.spine spine
  pub hand : k ≡ with_spine h (record old { spine = spine })

-- ---- a plan

-- it ends within a device of so many sectors
abbrev pub EndsWithin : (sectors : ℕ) → Spine → HeldBucket → Type 0
EndsWithin sectors spine b = b.to.offset + spine.geometry.node_sectors ≤ sectors

-- What is pending of leaves that come is in order, each within its leaf.
pub record IsProperPending (plan : Plan) : Type 0 where
  pub first : AreProperKeys plan.first.from plan.first.end plan.first.pending
  pub second : IfSome plan.second (λ (l : Leaf). AreProperKeys l.from l.end l.pending)

-- A plan was made for these buckets, with as many new nodes, which go up to the root; each of them
-- ends within the device. It fits the tree, as that is now, and what comes has the leaf's last keys.
pub record IsPlanned (way : Way) (count sectors : ℕ) (old : SpinePart) (leaf : Leaf)
    (bs : List HeldBucket) (now : Spine) (plan : Plan) : Type 0 where
  pub planned : IsPlanBy way count old.spine leaf (places bs) old.next_seq plan
  pub fits : Fits now plan
  pub kept : StandsInFor old.spine.leaves leaf plan
  pub many : new_count plan ≡ length bs
  pub up : moves_up now.below plan.bottom plan.top ≡ true
  pub within : (b : HeldBucket) → Contains bs b → EndsWithin sectors old.spine b
  pub proper : IsProperPending plan

-- why none was made
abbrev pub IsUnplanned : Way → (count sectors : ℕ) → SpinePart → Leaf → List HeldBucket → Refused
    → Type 0
IsUnplanned way count sectors old leaf bs no.Memory = Unit {0}
IsUnplanned way count sectors old leaf bs (no.NoBucket none) = ⊥
IsUnplanned way count sectors old leaf bs no.Large = IsNotPlannedBy way old.spine leaf Large
IsUnplanned way count sectors old leaf bs no.Above = ⊥
IsUnplanned way count sectors old leaf bs no.Number = ⊥
IsUnplanned way count sectors old leaf bs no.Outside =
    (b : HeldBucket) × Contains bs b × (EndsWithin sectors old.spine b → ⊥)
IsUnplanned way count sectors old leaf bs no.BySet = (plan : Plan)
    × IsPlanBy way count old.spine leaf (places bs) old.next_seq plan
    × (moves_up old.spine.below plan.bottom plan.top ≡ false)

-- ---- what is asked for one

-- The tree and a leaf of sectors below its end are in hand.
pub record HasSlot {C B : Type 0} (h : Hand C B) (slot : ℕ) : Type 0 where
  pub spine : SpinePart
  pub is_spine : h.spine ≡ Some spine
  pub leaves : LeafHand
  pub are_leaves : h.leaves ≡ Some leaves
  pub cached : Cached
  pub there : slice_get leaves.cache.slots slot ≡ Some (Some cached)
  pub below : cached.leaf.from < spine.spine.root.end

-- The tree and a leaf of it are in hand, and there are as many buckets as are needed.
pub record HasFor {C B : Type 0} (h : Hand C B) (slot : ℕ) (way : Way) (bs : List HeldBucket) :
    Type 0 where
  pub spine : SpinePart
  pub is_spine : h.spine ≡ Some spine
  pub leaves : LeafHand
  pub are_leaves : h.leaves ≡ Some leaves
  pub cached : Cached
  pub there : slice_get leaves.cache.slots slot ≡ Some (Some cached)
  pub of : IsOfSpine spine.spine cached.leaf
  pub long : IsLongFor way cached.leaf
  pub needs : Needs
  pub needed : IsNeededBy way spine.spine cached.leaf needs
  pub many : length bs ≡ needs.tree + needs.moving

-- a plan was made for it
pub record HasPlan {C B : Type 0} (way : Way) (count sectors : ℕ) (h : Hand C B) (spine : SpinePart)
    (leaf : Leaf) (bs : List HeldBucket) (k : Hand C B) (plan : Plan) : Type 0 where
  pub roomed : HasRoomed h spine k
  pub is : IsPlanned way count sectors spine leaf bs roomed.spine plan

-- or none was
pub record HasNoPlan {C B : Type 0} (way : Way) (count sectors : ℕ) (h : Hand C B)
    (spine : SpinePart) (leaf : Leaf) (bs : List HeldBucket) (k : Hand C B) (why : Refused) :
    Type 0 where
  pub roomed : HasRoomed h spine k
  pub why_not : IsUnplanned way count sectors spine leaf bs why
