-- What a seat needs to make a planned change of the tree.
use Rattle.std.specs.Prelude.{◌≡◌, ℕ, ◌+◌, ◌-◌, ◌%◌, ◌*◌, ◌≤◌, true, Contains, IfSome, List, Option, Some, slice_get}
use Rattle.bc_cache.specs.declared.slots.Cached.{Cached}
use Rattle.bc_install.specs.bc_change.Goes.{BringsRoot}
use Rattle.bc_install.specs.bc_change.Ready.{HasBoth, IsReadyFor, IsTree}
use Rattle.bc_install.specs.bc_entry.Seal.{CanSeal}
use Rattle.bc_install.specs.bc_hand.declared.hand.Hand.{Hand}
use Rattle.bc_install.specs.bc_hand.declared.hand.LeafHand.{LeafHand}
use Rattle.bc_install.specs.bc_machine.World.{FromEach, World}
use Rattle.bc_install.specs.bc_machine.declared.part.SpinePart.{SpinePart}
use Rattle.bc_inner.specs.Inner.{Inner}
use Rattle.bc_install.specs.Ended.{HasProperKeys}
use Rattle.bc_journal.specs.Journal.{Journal}
use Rattle.bc_jset.specs.EntryBytes.{IsLevel}
use Rattle.bc_node.specs.declared.pending.Entries.{Entries}
use Rattle.bc_spine.specs.Exchange.{going}
use Rattle.bc_spine.specs.declared.leaf.LeafRange.{LeafRange}
use Rattle.bc_tree.specs.LastKeys.{LeafKeys, StandIn}
use Rattle.bc_tree.specs.Plan.{Fits}
use Rattle.bc_tree.specs.Spine.{Spine}
use Rattle.bc_tree.specs.declared.plan.Plan.{Plan}

-- A leaf that goes is in the part in hand, held in its slot, and these are its last keys.
pub record IsToGo (l : LeafHand) (parts : ℕ) (keys : LeafKeys) (range : LeafRange) : Type 0 where
  pub slot : ℕ
  pub cached : Cached
  pub there : slice_get l.cache.slots slot ≡ Some (Some cached)
  pub number_is : cached.number ≡ range.number
  pub held : cached.held ≡ true
  pub its_part : l.part ≡ 6 + range.number % (parts - 6)
  pub keys_are : keys range.number ≡ cached.leaf.keys

-- The plan fits the tree, whose changed nodes all move, up to this root.
pub record MovesUp (spine : Spine) (plan : Plan) (root : Inner) : Type 0 where
  pub tree : IsTree spine
  pub fits : Fits spine plan
  pub both : HasBoth plan
  pub brings : BringsRoot spine plan root

-- The tree is in hand, of which it is noted that it changes, with the leaves that go; the plan
-- moves the nodes that change up to this root, and the leaves that come have the last keys of those
-- that go. Its new nodes are ready.
pub record MayChange {C B : Type 0} (h : Hand C B) (parts i : ℕ) (plan : Plan) (x : World) :
    Type 0 where
  pub keys : LeafKeys
  pub spine : SpinePart
  pub is_spine : h.spine ≡ Some spine
  pub changing : spine.changing ≡ true
  pub leaves : LeafHand
  pub are_leaves : h.leaves ≡ Some leaves
  pub root : Inner
  pub up : MovesUp spine.spine plan root
  pub level : IsLevel root.level
  pub proper : HasProperKeys plan
  pub gone : (range : LeafRange) → Contains (going spine.spine.leaves plan.leaves) range
      → IsToGo leaves parts keys range
  pub same : StandIn spine.spine.leaves keys plan
  pub ready : FromEach x (IsReadyFor i plan)

-- All that is pending of the leaf of this number is in entries up to this one.
abbrev pub IsDurableTo : List (Option Cached) → ℕ → ℕ → Type 0
IsDurableTo slots number upto = (slot : ℕ) (cached : Cached)
    → slice_get slots slot ≡ Some (Some cached) → cached.number ≡ number
    → IfSome cached.leaf.entries (λ (e : Entries). e.last ≤ upto)

abbrev pub AreDurableTo : List (Option Cached) → List LeafRange → ℕ → Type 0
AreDurableTo slots ranges upto = (range : LeafRange) → Contains ranges range
    → IsDurableTo slots range.number upto

-- The journal can seal an entry, which lies on a cache device of so many sectors, and all that is
-- pending of the leaves that go is durable.
pub record CanPut {C B : Type 0} (sectors : ℕ) (h : Hand C B) (plan : Plan) (j : Journal) :
    Type 0 where
  pub seals : CanSeal j
  pub within : j.ring.geometry.bucket * j.ring.geometry.nbuckets ≤ sectors
  pub durable : (p : SpinePart) (l : LeafHand) → h.spine ≡ Some p → h.leaves ≡ Some l
      → AreDurableTo l.cache.slots (going p.spine.leaves plan.leaves) j.durable.seq

-- the tree is in hand, and so are leaves, and the plan fits the tree
pub record HasTreeFor {C B : Type 0} (h : Hand C B) (plan : Plan) : Type 0 where
  pub spine : SpinePart
  pub is_spine : h.spine ≡ Some spine
  pub leaves : LeafHand
  pub are_leaves : h.leaves ≡ Some leaves
  pub fits : Fits spine.spine plan
  pub root : Inner
  pub brings : BringsRoot spine.spine plan root
