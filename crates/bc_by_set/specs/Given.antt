-- What a seat needs to make a planned change of the tree by a set.
use Rattle.std.specs.Prelude.{◌≡◌, ℕ, ◌+◌, ◌≤◌, true, All, Contains, List, Some}
use Rattle.bc_by_root.specs.Given.{AreDurableTo, IsToGo}
use Rattle.bc_by_root.specs.bc_install.Ended.{HasProperKeys}
use Rattle.bc_by_root.specs.bc_install.bc_change.Ready.{HasBoth, IsReadyFor, IsTree}
use Rattle.bc_by_root.specs.bc_install.bc_hand.declared.hand.Hand.{Hand}
use Rattle.bc_by_root.specs.bc_install.bc_hand.declared.hand.LeafHand.{LeafHand}
use Rattle.bc_by_root.specs.bc_install.bc_machine.World.{FromEach, World}
use Rattle.bc_by_root.specs.bc_install.bc_machine.declared.part.SpinePart.{SpinePart}
use Rattle.bc_facts.specs.Layout.{IsLayoutOf}
use Rattle.bc_inner.specs.Inner.{Inner}
use Rattle.bc_journal.specs.Journal.{Journal}
use Rattle.bc_key.specs.declared.key.Key.{Key}
use Rattle.bc_by_root.specs.bc_install.bc_parent_set.BySet.{NamesThis}
use Rattle.bc_by_root.specs.bc_install.bc_parent_set.Takes.{IsTaker}
use Rattle.bc_by_root.specs.bc_install.bc_parent_set.Write.{PointsTo}
use Rattle.bc_set.specs.SetBytes.{AreSetKeys}
use Rattle.bc_set.specs.declared.set.SetKind.TheVariants.{Children}
use Rattle.bc_spine.specs.Exchange.{going}
use Rattle.bc_spine.specs.declared.leaf.LeafRange.{LeafRange}
use Rattle.bc_tree.specs.LastKeys.{LeafKeys, StandIn}
use Rattle.bc_tree.specs.Needs.{has_room, words}
use Rattle.bc_tree.specs.Plan.{Fits}
use Rattle.bc_tree.specs.Spine.{Spine}
use Rattle.bc_tree.specs.declared.plan.Plan.{Plan}

-- The plan fits the tree, and makes the change by a set of these keys. The node that takes it was
-- written in this run, and has room for it.
pub record SetsBy (spine : Spine) (plan : Plan) (at : ℕ) (taker : Inner) (put : List Key) :
    Type 0 where
  pub tree : IsTree spine
  pub fits : Fits spine plan
  pub both : HasBoth plan
  pub takes : IsTaker spine plan at taker put
  pub room : has_room spine.geometry taker (words put) ≡ true
  pub kind : AreSetKeys Children put

-- The tree is in hand, of which it is noted that it changes, with the leaves that go; one of its
-- nodes takes a set, and the leaves that come have the last keys of those that go. The new nodes
-- are ready, each key of the set points to a bucket of the device, and entries name the tree's
-- root, which stays.
pub record MayChangeBySet {C B : Type 0} (h : Hand C B) (parts i : ℕ) (plan : Plan) (x : World) :
    Type 0 where
  pub keys : LeafKeys
  pub spine : SpinePart
  pub is_spine : h.spine ≡ Some spine
  pub changing : spine.changing ≡ true
  pub leaves : LeafHand
  pub are_leaves : h.leaves ≡ Some leaves
  pub at : ℕ
  pub taker : Inner
  pub put : List Key
  pub by : SetsBy spine.spine plan at taker put
  pub proper : HasProperKeys plan
  pub gone : (range : LeafRange) → Contains (going spine.spine.leaves plan.leaves) range
      → IsToGo leaves parts keys range
  pub same : StandIn spine.spine.leaves keys plan
  pub ready : FromEach x (IsReadyFor i plan)
  pub divided : FromEach x (λ o st. IsLayoutOf spine.spine.geometry o.opening.machine.layout)
  pub points : FromEach x (λ o st. All (PointsTo spine.spine.geometry o) put)
  pub named : FromEach x (NamesThis spine.spine.root)

-- the node that takes the set ends within a device of so many sectors
abbrev pub LiesWithin : (sectors : ℕ) → Spine → Inner → Type 0
LiesWithin sectors spine taker = taker.ptr.offset + spine.geometry.node_sectors ≤ sectors

-- So it is of the tree in hand, and all that is pending of the leaves that go is durable.
pub record CanSet {C B : Type 0} (sectors : ℕ) (h : Hand C B) (plan : Plan) (j : Journal) :
    Type 0 where
  pub within : (p : SpinePart) → h.spine ≡ Some p → (at : ℕ) (taker : Inner) (put : List Key)
      → IsTaker p.spine plan at taker put → LiesWithin sectors p.spine taker
  pub durable : (p : SpinePart) (l : LeafHand) → h.spine ≡ Some p → h.leaves ≡ Some l
      → AreDurableTo l.cache.slots (going p.spine.leaves plan.leaves) j.durable.seq

-- the tree is in hand, and so are leaves, and a node of the tree takes a set by the plan
pub record HasTreeToSet {C B : Type 0} (h : Hand C B) (plan : Plan) : Type 0 where
  pub spine : SpinePart
  pub is_spine : h.spine ≡ Some spine
  pub leaves : LeafHand
  pub are_leaves : h.leaves ≡ Some leaves
  pub fits : Fits spine.spine plan
  pub at : ℕ
  pub taker : Inner
  pub put : List Key
  pub takes : IsTaker spine.spine plan at taker put
