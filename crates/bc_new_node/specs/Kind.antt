-- The new nodes of a plan, as the core names them.
use Rattle.std.specs.Prelude.{◌≡◌, ◌⊎◌, ℕ, ◌+◌, ◌-◌, ◌^◌, ◌<◌, ◌≤◌, true, false, Some}
use Rattle.bc_alloc.specs.declared.purpose.Purpose.TheVariants as list
use Rattle.bc_disk.specs.declared.geometry.Geometry.{Geometry}
use Rattle.bc_events.specs.declared.event.NewNode.{NewNode}
use Rattle.bc_events.specs.declared.event.Written.{Written}
use Rattle.bc_events.specs.declared.event.Written.TheVariants as written
use Rattle.bc_events.specs.Run.{State}
use Rattle.bc_held.specs.bc_hand.declared.hand.Hand.{Hand}
use Rattle.bc_held.specs.bc_machine.World.{Origin}
use Rattle.bc_held.specs.bc_machine.declared.part.SpinePart.{SpinePart}
use Rattle.bc_held.specs.declared.held.HeldBucket.{HeldBucket}
use Rattle.bc_inner.specs.Inner.{Inner, children_set}
use Rattle.bc_key.specs.Words.{ptr_word}
use Rattle.bc_drafts.specs.Draft.{HasNoInner, HasNoLeaf, IsDraftInner, IsDraftLeaf}
use Rattle.bc_facts.specs.Layout.{IsLayoutOf}
use Rattle.bc_facts.specs.Seen.{seen_set}
use Rattle.bc_node.specs.Leaf.{AreProperKeys, Leaf, pending_set}
use Rattle.bc_plan.specs.Write.{CanWrite, FirstSet, HasFirstSet, behind_of, lowest_of}
use Rattle.bc_plan.specs.declared.write.NewNode as plan
use Rattle.bc_plan.specs.declared.write.NewNode.TheVariants.{Behind, First, Lowest, Parent, Root, Second}
use Rattle.bc_set.specs.Records.{set_sectors}
use Rattle.bc_set.specs.SetBytes.{bytes_of}
use Rattle.bc_tree.specs.Plan.{Fits}
use Rattle.bc_tree.specs.declared.change.NodeChange.TheVariants.{Move}
use Rattle.bc_tree.specs.declared.plan.Plan.{Plan}

-- a leaf, in this slot and this bucket
abbrev pub leaf_node : (slot q : ℕ) → Geometry → Leaf → NewNode
leaf_node slot q g leaf = record {
  slot = slot;
  first = leaf.from;
  end = leaf.end;
  bucket = q;
  word = ptr_word leaf.ptr;
  height = 0;
  sectors = set_sectors g (pending_set leaf);
}

-- an inner node, whose slot is its bucket
abbrev pub inner_node : (q : ℕ) → Geometry → Inner → NewNode
inner_node q g n = record {
  slot = q;
  first = n.from;
  end = n.end;
  bucket = q;
  word = ptr_word n.ptr;
  height = n.level - 1;
  sectors = set_sectors g (children_set n);
}

-- the leaf that is the new node, or the inner node
abbrev pub IsLeafOf : Plan → plan.NewNode → Leaf → Type 0
IsLeafOf p First leaf = p.first ≡ leaf
IsLeafOf p Second leaf = p.second ≡ Some leaf
IsLeafOf p Parent leaf = ⊥
IsLeafOf p Root leaf = ⊥
IsLeafOf p Behind leaf = ⊥
IsLeafOf p Lowest leaf = ⊥

abbrev pub IsInnerOf : Plan → plan.NewNode → Inner → Type 0
IsInnerOf p First n = ⊥
IsInnerOf p Second n = ⊥
IsInnerOf p Parent n = p.bottom ≡ Move n
IsInnerOf p Root n = p.top ≡ Some (Move n)
IsInnerOf p Behind n = behind_of p.beside ≡ Some n
IsInnerOf p Lowest n = lowest_of p.beside ≡ Some n

-- what its write is to the core, in the bucket of this number
pub record IsWriteOf (g : Geometry) (p : Plan) (node : plan.NewNode) (slot q : ℕ) (what : Written) :
    Type 0 where
  pub leaf : (leaf : Leaf) → IsLeafOf p node leaf → what ≡ written.Leaf (leaf_node slot q g leaf)
  pub inner : (n : Inner) → IsInnerOf p node n → what ≡ written.Inner (inner_node q g n)

-- The plan brings the node, whose first set has a length and a number of sectors that can be said.
pub record IsSmall (g : Geometry) (p : Plan) (node : plan.NewNode) : Type 0 where
  pub brings : ((leaf : Leaf) × IsLeafOf p node leaf) ⊎ ((n : Inner) × IsInnerOf p node n)
  pub leaf : (leaf : Leaf) → IsLeafOf p node leaf → set_sectors g (pending_set leaf) < 2 ^ 32
  pub inner : (n : Inner) → IsInnerOf p node n
      → (bytes_of (children_set n) ≤ 2 ^ 62) × (set_sectors g (children_set n) < 2 ^ 32)

-- ---- what the step asks

-- Its keys are in order, and lie in its range.
abbrev pub HasProperKeys : Plan → plan.NewNode → Type 0
HasProperKeys p node = (leaf : Leaf) → IsLeafOf p node leaf
    → AreProperKeys leaf.from leaf.end leaf.pending

-- the device is divided so
abbrev pub IsDividedBy : Geometry → Origin → State → Type 0
IsDividedBy g o st = IsLayoutOf g o.opening.machine.layout

-- its slot has no node, that of an inner node being its bucket's
pub record HasNoNode (p : Plan) (node : plan.NewNode) (slot q : ℕ) (o : Origin) (st : State) :
    Type 0 where
  pub leaf : (leaf : Leaf) → IsLeafOf p node leaf → HasNoLeaf slot o st
  pub inner : (n : Inner) → IsInnerOf p node n → HasNoInner q o st

-- The tree is in hand, of which a change is under way; the plan fits it, and the node can be written
-- to the bucket's first sectors, with the number that the next new node gets.
pub record MayWriteNew {C B : Type 0} (h : Hand C B) (sectors : ℕ) (p : Plan) (node : plan.NewNode)
    (b : HeldBucket) : Type 0 where
  pub spine : SpinePart
  pub in_hand : h.spine ≡ Some spine
  pub changing : spine.changing ≡ true
  pub fits : Fits spine.spine p
  pub can : CanWrite spine.spine.geometry sectors p node
  pub first : FirstSet
  pub first_is : HasFirstSet p node first
  pub place : first.ptr ≡ b.to
  pub number : first.set.seq ≡ spine.next_seq
  pub numbered : spine.next_seq + 1 < 2 ^ 64
  pub proper : HasProperKeys p node
  pub purpose : b.purpose ≡ list.Tree

-- ---- what the seat knows then

-- the slot has the node as a draft, with this first set
pub record IsWrittenNew (g : Geometry) (p : Plan) (node : plan.NewNode) (slot q : ℕ) (o : Origin)
    (st : State) : Type 0 where
  pub leaf : (leaf : Leaf) → IsLeafOf p node leaf
      → IsDraftLeaf (leaf_node slot q g leaf) (seen_set g true (pending_set leaf)) o st
  pub inner : (n : Inner) → IsInnerOf p node n
      → IsDraftInner (inner_node q g n) (seen_set g false (children_set n)) o st
