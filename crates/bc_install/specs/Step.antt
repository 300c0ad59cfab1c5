-- The step of an install: what it asks for, and what it leaves.
use Rattle.std.specs.Prelude.{◌≡◌, ℕ, ◌+◌, ◌-◌, ◌%◌, Contains, List, Some, Vec}
use Rattle.std.specs.declared.alloc.Global.{Global}
use Rattle.bc_cache.specs.Slots.{NodeCache}
use Rattle.bc_change.specs.Goes.{numbers}
use Rattle.bc_change.specs.bc_entry.bc_hand.Seats.{Did, View}
use Rattle.bc_change.specs.bc_hand.declared.hand.Hand.{Hand}
use Rattle.bc_change.specs.bc_hand.declared.hand.LeafHand.{LeafHand}
use Rattle.bc_change.specs.bc_machine.World.{FromEach, World}
use Rattle.bc_change.specs.bc_machine.declared.part.BucketsPart.{BucketsPart}
use Rattle.bc_change.specs.bc_machine.declared.part.SpinePart.{SpinePart}
use Rattle.bc_disk.specs.Disk.{DiskFacts}
use Rattle.bc_events.specs.declared.event.Change.{Change}
use Rattle.bc_events.specs.declared.event.Deed.TheVariants as deed
use Rattle.bc_spine.specs.Exchange.{going}
use Rattle.bc_spine.specs.declared.leaf.LeafRange.{LeafRange}
use Rattle.bc_tree.specs.Plan.{Fits}
use Rattle.bc_tree.specs.declared.plan.Plan.{Plan}
use Rattle.bc_install.specs.Buckets.{HasBucketsWith}
use Rattle.bc_install.specs.Ended.{AreEndsOf, CountsFrom, HasProperKeys, How, IsMadeSo, MakesSo, leaves_of}
use Rattle.bc_install.specs.Installed.{AreBroughtIn, AreTakenOut, HasTreeWith}

-- ---- in hand

-- The tree, a part with leaves and the buckets are in hand, and the plan fits the tree.
pub record HasForInstall {C B : Type 0} (h : Hand C B) (plan : Plan) : Type 0 where
  pub spine : SpinePart
  pub is_spine : h.spine ≡ Some spine
  pub leaves : LeafHand
  pub are_leaves : h.leaves ≡ Some leaves
  pub buckets : BucketsPart
  pub are_buckets : h.buckets ≡ Some buckets
  pub fits : Fits spine.spine plan

-- The tree has the plan in it, the leaves that went are in no slot, and the buckets have what it
-- makes of them. Leaves that came are in slots, as far as there was room in the part. The other
-- parts are as they were.
pub record IsPutIn {C B : Type 0} (count : ℕ) (plan : Plan) (first : ℕ) (come gone : List ℕ)
    (h k : Hand C B) : Type 0 where
  pub at : HasForInstall h plan
  pub spine : SpinePart
  pub tree : HasTreeWith at.spine plan spine
  pub cache : NodeCache
  pub without : NodeCache
  pub out : AreTakenOut (numbers (going at.spine.spine.leaves plan.leaves)) at.leaves.cache without
  pub brought : AreBroughtIn count (at.leaves.part - 6) plan without cache
  pub part : BucketsPart
  pub buckets : HasBucketsWith first (leaves_of plan) come gone at.buckets part
  pub is : k ≡ record h {
    spine = Some spine;
    leaves = Some (record at.leaves { cache = cache });
    buckets = Some part;
  }

-- ---- the step

-- The change was made by a new root or by a set, and these are its ends. The part in hand has the
-- leaves that go.
pub record MayInstall {C B : Type 0} (h : Hand C B) (parts i first : ℕ) (plan : Plan) (c : Change)
    (come gone : Vec ℕ Global) (x : World) : Type 0 where
  pub at : HasForInstall h plan
  pub gone_are : c.gone.items ≡ numbers (going at.spine.spine.leaves plan.leaves)
  pub its_part : (range : LeafRange) → Contains (going at.spine.spine.leaves plan.leaves) range
      → at.leaves.part ≡ 6 + range.number % (parts - 6)
  pub how : How
  pub up : MakesSo at.spine.spine plan how
  pub proper : HasProperKeys plan
  pub counts : FromEach x (CountsFrom first)
  pub made : FromEach x (IsMadeSo i at.spine.spine plan c how)
  pub ends : FromEach x (λ o st. AreEndsOf o.opening.machine at.spine.spine plan come.items
      gone.items)

module _ {C B : Type 0} (cache_facts : C → DiskFacts) (backing_facts : B → DiskFacts) where
  -- the seat installed the change, by its own deed
  pub record HasInstalled (count : ℕ) (plan : Plan) (c : Change) (first : ℕ)
      (come gone : Vec ℕ Global) (h k : Hand C B) (v w : View cache_facts backing_facts) :
      Type 0 where
    pub put : IsPutIn count plan first come.items gone.items h k
    pub did : Did cache_facts backing_facts (Some (deed.Install c come gone)) v w
