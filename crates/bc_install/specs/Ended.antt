-- What a seat knows of its change that is made, and what an install of it leaves.
use Rattle.std.specs.Prelude.{◌≡◌, ℕ, ◌≤◌, false, List, ◌∷◌, ◌++◌, map, option_to_list, ◌<◌, Vec}
use Rattle.std.specs.declared.alloc.Global.{Global}
use Rattle.bc_cache.specs.Slots.{NodeCache}
use Rattle.bc_change.specs.Goes.{BringsRoot, IsChangeBy, new_nodes, old_nodes}
use Rattle.bc_change.specs.Ready.{HasBoth, IsTree}
use Rattle.bc_change.specs.Under.{IsByRoot}
use Rattle.bc_change.specs.bc_machine.Containers.{IsSpineOf, inner_slot}
use Rattle.bc_change.specs.bc_machine.World.{AreBuckets, AreLeaves, EndsItsChange, FromEach, IsSpinePart, Origin, World, after}
use Rattle.bc_change.specs.bc_machine.declared.part.BucketsPart.{BucketsPart}
use Rattle.bc_change.specs.bc_machine.declared.part.SpinePart.{SpinePart}
use Rattle.bc_events.specs.Run as core
use Rattle.bc_events.specs.declared.event.Change.{Change}
use Rattle.bc_events.specs.declared.event.Deed.TheVariants as deed
use Rattle.bc_events.specs.declared.event.Event.{Event}
use Rattle.bc_image.specs.Children.{with_children}
use Rattle.bc_inner.specs.Inner.{Inner}
use Rattle.bc_key.specs.declared.key.Key.{Key}
use Rattle.bc_change.specs.bc_looks.Looks.{InCourse}
use Rattle.bc_meta.specs.Chain.{Distinct}
use Rattle.bc_meta.specs.Facts.{In}
use Rattle.bc_shares.specs.Shares.{journal_share}
use Rattle.bc_spine.specs.Exchange.{coming, going}
use Rattle.bc_spine.specs.declared.leaf.LeafRange.{LeafRange}
use Rattle.bc_tree.specs.Plan.{Fits}
use Rattle.bc_tree.specs.Spine.{Spine}
use Rattle.bc_tree.specs.declared.plan.Plan.{Plan}
use Rattle.bc_whole.specs.State as whole
use Rattle.bc_install.specs.Buckets.{HasBucketsWith}
use Rattle.bc_install.specs.Installed.{HasLeavesWith, HasTreeWith}
use Rattle.bc_node.specs.Leaf.{AreProperKeys, Leaf}
use Rattle.bc_parent_set.specs.BySet.{IsMadeSet, NamesThis}
use Rattle.bc_parent_set.specs.Takes.{IsTaker}

-- A planned change was made by the entry of this number, which names this new root; or by a set of
-- these keys of the node at this place, among the root and the nodes below it. Either is in a slot.
pub data How : Type 0 where
  ByNewRoot : (root : Inner) → (number slot : ℕ) → How
  ByNodeSet : (at : ℕ) → (taker : Inner) → (put : List Key) → (slot : ℕ) → How

-- so the plan makes it
abbrev pub Makes : Spine → Plan → How → Type 0
Makes spine plan (ByNewRoot root number slot) = BringsRoot spine plan root
Makes spine plan (ByNodeSet at taker put slot) = IsTaker spine plan at taker put

-- The plan fits the tree, and makes the change so.
pub record MakesSo (spine : Spine) (plan : Plan) (how : How) : Type 0 where
  pub tree : IsTree spine
  pub fits : Fits spine plan
  pub both : HasBoth plan
  pub by : Makes spine plan how

-- The change that makes it is under way, and the entry of this number, with which it is made, is
-- durable.
pub record IsMadeByRoot (i : ℕ) (spine : Spine) (plan : Plan) (root : Inner) (c : Change)
    (number slot : ℕ) (o : Origin) (st : core.State) : Type 0 where
  pub change : IsChangeBy o.opening.machine spine plan c
  pub by_root : IsByRoot i plan c number slot o st
  pub slot_is : inner_slot o.opening.machine root ≡ slot
  pub made : number ≤ (journal_share st.machine).entries.newest.number

-- The same of a set, behind which a barrier came; and entries name the root of the tree, which stays.
pub record IsMadeBySet (i : ℕ) (spine : Spine) (plan : Plan) (taker : Inner) (put : List Key)
    (c : Change) (slot : ℕ) (o : Origin) (st : core.State) : Type 0 where
  pub change : IsChangeBy o.opening.machine spine plan c
  pub by_set : IsMadeSet i plan c slot (with_children put taker.children) o st
  pub slot_is : inner_slot o.opening.machine taker ≡ slot
  pub named : NamesThis spine.root o st

-- so it was made
abbrev pub IsMadeSo : ℕ → Spine → Plan → Change → How → Origin → core.State → Type 0
IsMadeSo i spine plan c (ByNewRoot root number slot) o st =
    IsMadeByRoot i spine plan root c number slot o st
IsMadeSo i spine plan c (ByNodeSet at taker put slot) o st =
    IsMadeBySet i spine plan taker put c slot o st

-- the buckets of these leaves
abbrev pub buckets_of : whole.Opening → List LeafRange → List ℕ
buckets_of w ranges = map (λ (l : LeafRange). w.flow.books.bucket l.ptr.offset) ranges

-- all that comes, and all that goes
abbrev pub ends_come : whole.Opening → Plan → List ℕ
ends_come w plan = buckets_of w (coming plan.leaves) ++ map (inner_slot w) (new_nodes plan)

abbrev pub ends_gone : whole.Opening → Spine → Plan → List ℕ
ends_gone w spine plan = buckets_of w (going spine.leaves plan.leaves)
    ++ map (inner_slot w) (old_nodes spine plan)

-- These are just those, each once.
pub record AreEach (all each : List ℕ) : Type 0 where
  pub among : (b : ℕ) → In b each → In b all
  pub every : (b : ℕ) → In b all → In b each
  pub once : Distinct each

-- The buckets of all that comes, and those of all that goes.
pub record AreEndsOf (w : whole.Opening) (spine : Spine) (plan : Plan) (come gone : List ℕ) :
    Type 0 where
  pub comes : AreEach (ends_come w plan) come
  pub goes : AreEach (ends_gone w spine plan) gone

-- ---- it may be installed

abbrev pub LawMay : Type 0
LawMay = InCourse (λ o st. (i : ℕ) (p : SpinePart) (plan : Plan) (c : Change) (how : How)
    (come gone : Vec ℕ Global) → MakesSo p.spine plan how → core.IsSeat i
    → st.machine.whole.flow.halted ≡ false
    → IsSpineOf o.opening.machine st.machine.whole.parts p.spine
    → IsMadeSo i p.spine plan c how o st
    → AreEndsOf o.opening.machine p.spine plan come.items gone.items
    → let e : Event = record { seat = i; deed = deed.Install c come gone } in
    core.IsEnabled o.opening st e × EndsItsChange st.machine.whole.parts e.deed)

-- ---- what it leaves

-- the tree has what the plan brings, and is at rest
abbrev pub LawTree : Type 0
LawTree = (x : World) (i : ℕ) (p q : SpinePart) (plan : Plan) (c : Change) (how : How)
    (come gone : Vec ℕ Global) → MakesSo p.spine plan how
    → FromEach x (IsMadeSo i p.spine plan c how) → IsSpinePart p x
    → HasTreeWith p plan q
    → IsSpinePart q (after x (record { seat = i; deed = deed.Install c come gone }))

-- a part with leaves of those that go has those that came, or misses them
abbrev pub LawLeaves : Type 0
LawLeaves = (x : World) (i part : ℕ) (p : SpinePart) (plan : Plan) (c : Change) (how : How)
    (come gone : Vec ℕ Global) (a b : NodeCache) → HasBoth plan
    → FromEach x (IsMadeSo i p.spine plan c how) → AreLeaves part a x
    → HasLeavesWith p.spine plan x.begun.leaf_parts part a b
    → AreLeaves part b (after x (record { seat = i; deed = deed.Install c come gone }))

-- ---- buckets

-- the leaves that come
abbrev pub leaves_of : Plan → List Leaf
leaves_of plan = plan.first ∷ option_to_list plan.second

-- their keys are in order, each within its leaf
abbrev pub HasProperKeys : Plan → Type 0
HasProperKeys plan =
    (leaf : Leaf) → In leaf (leaves_of plan) → AreProperKeys leaf.from leaf.end leaf.keys

-- the core counts buckets from this one on
abbrev pub CountsFrom : ℕ → Origin → core.State → Type 0
CountsFrom first o st = o.opening.machine.before ≡ first

-- the buckets in memory have what it makes of them
abbrev pub LawBuckets : Type 0
LawBuckets = (x : World) (i first : ℕ) (p : SpinePart) (plan : Plan) (c : Change) (how : How)
    (come gone : Vec ℕ Global) (a b : BucketsPart) → MakesSo p.spine plan how
    → HasProperKeys plan → 0 < a.buckets.size → FromEach x (CountsFrom first)
    → FromEach x (IsMadeSo i p.spine plan c how) → IsSpinePart p x
    → FromEach x (λ o st. AreEndsOf o.opening.machine p.spine plan come.items gone.items)
    → AreBuckets a x → HasBucketsWith first (leaves_of plan) come.items gone.items a b
    → AreBuckets b (after x (record { seat = i; deed = deed.Install c come gone }))
