-- What a seat needs to make a planned change of the tree, from its first new node on.
use Rattle.std.specs.Prelude.{◌≡◌, ℕ, ◌+◌, ◌^◌, ◌<◌, true, Contains, IfSome, List, Some, length}
use Rattle.bc_alloc.specs.declared.purpose.Purpose.TheVariants as list
use Rattle.bc_by_root.specs.Given.{IsToGo}
use Rattle.bc_leaf_plan.specs.Leaf.{HasLeafToGo}
use Rattle.bc_leaf_plan.specs.Way.{IsNeededBy, moves_up}
use Rattle.bc_leaf_plan.specs.declared.way.Way.{Way}
use Rattle.bc_new_nodes.specs.Asked.{MayWriteNodes}
use Rattle.bc_new_nodes.specs.bc_hand.declared.hand.Hand.{Hand}
use Rattle.bc_new_nodes.specs.bc_hand.declared.hand.LeafHand.{LeafHand}
use Rattle.bc_new_nodes.specs.bc_held.declared.held.HeldBucket.{HeldBucket}
use Rattle.bc_node.specs.Leaf.{AreProperKeys, Leaf}
use Rattle.bc_spine.specs.Exchange.{going}
use Rattle.bc_spine.specs.declared.leaf.LeafRange.{LeafRange}
use Rattle.bc_tree.specs.LastKeys.{LeafKeys, StandIn}
use Rattle.bc_tree.specs.declared.needs.Needs.{Needs}
use Rattle.bc_tree.specs.declared.plan.Plan.{Plan}

-- The tree is in hand and at rest, and the plan's new nodes can be written to these buckets; they
-- go up to the root. The leaves that go are in the part in hand, held in their slots, and those
-- that come have their last keys.
pub record MayMake {C B : Type 0} (h : Hand C B) (parts sectors : ℕ) (plan : Plan)
    (bs : List HeldBucket) : Type 0 where
  pub write : MayWriteNodes h sectors plan bs
  pub up : moves_up write.spine.spine.below plan.bottom plan.top ≡ true
  pub leaves : LeafHand
  pub are_leaves : h.leaves ≡ Some leaves
  pub keys : LeafKeys
  pub gone : (range : LeafRange) → Contains (going write.spine.spine.leaves plan.leaves) range
      → IsToGo leaves parts keys range
  pub same : StandIn write.spine.spine.leaves keys plan

-- The last keys of leaves that come are in order, each within its leaf.
pub record HasProperLast (plan : Plan) : Type 0 where
  pub first : AreProperKeys plan.first.from plan.first.end plan.first.keys
  pub second : IfSome plan.second (λ (l : Leaf). AreProperKeys l.from l.end l.keys)

-- The leaf in this slot may give way to nodes in these buckets: there are as many as it needs, each
-- was taken for a node, and a number is left for each node.
pub record HasBucketsFor {C B : Type 0} (h : Hand C B) (parts : ℕ) (way : Way) (slot : ℕ)
    (bs : List HeldBucket) : Type 0 where
  pub leaf : HasLeafToGo h parts way slot
  pub needs : Needs
  pub needed : IsNeededBy way leaf.spine.spine leaf.cached.leaf needs
  pub many : length bs ≡ needs.tree + needs.moving
  pub purposes : (b : HeldBucket) → Contains bs b → b.purpose ≡ list.Tree
  pub numbered : leaf.spine.next_seq + length bs < 2 ^ 64
