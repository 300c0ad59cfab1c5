-- What is asked of a plan and of the buckets for its new nodes.
use Rattle.std.specs.Prelude.{◌≡◌, ℕ, ◌+◌, ◌^◌, ◌<◌, false, List, [], ◌∷◌, Some, All, length}
use Rattle.bc_alloc.specs.declared.purpose.Purpose.TheVariants as list
use Rattle.bc_change.specs.Ready.{HasBoth, IsRangeFor}
use Rattle.bc_disk.specs.declared.geometry.Geometry.{Geometry}
use Rattle.bc_events.specs.Run.{State}
use Rattle.bc_facts.specs.Seen.{bucket_of}
use Rattle.bc_inner.specs.Inner.{Inner}
use Rattle.bc_key.specs.Key.{ptr_at}
use Rattle.bc_key.specs.declared.key.Key.{Key}
use Rattle.bc_new_node.specs.Kind.{HasProperKeys, IsInnerOf, IsLeafOf}
use Rattle.bc_new_node.specs.bc_hand.declared.hand.Hand.{Hand}
use Rattle.bc_new_node.specs.bc_held.declared.held.HeldBucket.{HeldBucket}
use Rattle.bc_new_node.specs.bc_machine.World.{Origin}
use Rattle.bc_new_node.specs.bc_machine.declared.part.SpinePart.{SpinePart}
use Rattle.bc_planned.specs.Nodes.{nodes_of, range_of}
use Rattle.bc_node.specs.Leaf.{AreLast, AreLastOfAll, Leaf}
use Rattle.bc_plan.specs.Write.{CanWrite, FirstSet, HasFirstSet}
use Rattle.bc_plan.specs.declared.write.NewNode.{NewNode}
use Rattle.bc_spine.specs.declared.leaf.LeafRange.{LeafRange}
use Rattle.bc_tree.specs.Plan.{Fits}
use Rattle.bc_tree.specs.declared.plan.Plan.{Plan}

-- all that a leaf has is in no set yet: its keys and what is pending are the last ones of one list
pub record HasAllPending (leaf : Leaf) : Type 0 where
  pub list : List Key
  pub last : AreLast list leaf.keys
  pub added : AreLastOfAll list leaf.pending

-- a leaf that comes in this range
pub record ComesIn (p : Plan) (node : NewNode) (leaf : Leaf) : Type 0 where
  pub range : LeafRange
  pub its_range : range_of p node ≡ Some range
  pub range_is : IsRangeFor range leaf
  pub pending : HasAllPending leaf

-- The node can be written to the bucket, with this number; a leaf comes in its range.
pub record IsNodeFor (g : Geometry) (sectors : ℕ) (p : Plan) (seq : ℕ) (node : NewNode)
    (b : HeldBucket) : Type 0 where
  pub can : CanWrite g sectors p node
  pub first : FirstSet
  pub first_is : HasFirstSet p node first
  pub place : first.ptr ≡ b.to
  pub number : first.set.seq ≡ seq
  pub proper : HasProperKeys p node
  pub purpose : b.purpose ≡ list.Tree
  pub leaf : (leaf : Leaf) → IsLeafOf p node leaf → ComesIn p node leaf

-- each of them to the bucket at its place, with the numbers from this one on
abbrev pub AreNodesFor : Geometry → ℕ → Plan → ℕ → List NewNode → List HeldBucket → Type 0
AreNodesFor g sectors p seq [] [] = Unit {0}
AreNodesFor g sectors p seq [] (b ∷ bs) = ⊥
AreNodesFor g sectors p seq (node ∷ nodes) [] = ⊥
AreNodesFor g sectors p seq (node ∷ nodes) (b ∷ bs) =
    IsNodeFor g sectors p seq node b × AreNodesFor g sectors p (seq + 1) nodes bs

-- The tree is in hand and at rest. The plan fits it, so that its leaves come with numbers that no
-- leaf has, and each of its new nodes can be written to the bucket at its place, with the numbers
-- that the next new nodes get.
pub record MayWriteNodes {C B : Type 0} (h : Hand C B) (sectors : ℕ) (p : Plan)
    (bs : List HeldBucket) : Type 0 where
  pub spine : SpinePart
  pub in_hand : h.spine ≡ Some spine
  pub rest : spine.changing ≡ false
  pub fits : Fits spine.spine p
  pub both : HasBoth p
  pub nodes : AreNodesFor spine.spine.geometry sectors p spine.next_seq (nodes_of p) bs
  pub numbered : spine.next_seq + length bs < 2 ^ 64

-- To the core, a child lies in the bucket into which its key points.
abbrev pub PointsInto : Geometry → Origin → Key → Type 0
PointsInto g o key = o.opening.machine.flow.books.bucket (ptr_at key 0).offset ≡ bucket_of g key

-- so it is with each child of the plan's new nodes
abbrev pub ChildrenPoint : Geometry → Plan → Origin → State → Type 0
ChildrenPoint g p o st =
    (node : NewNode) (n : Inner) → IsInnerOf p node n → All (PointsInto g o) n.children
