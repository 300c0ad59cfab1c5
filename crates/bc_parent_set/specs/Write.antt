-- The set of a node that makes a change of the tree: what a seat has to know for it, and what it has
-- done.
use Rattle.std.specs.Prelude.{◌≡◌, ℕ, ◌+◌, ◌-◌, ◌*◌, ◌%◌, ◌≤◌, true, false, All, Contains, List, IfSome, None, Some, Result, Ok, Err, OnErr, OnOk, length, slice_get}
use Rattle.bc_append.specs.Durable.{IsDurableTo}
use Rattle.bc_cache.specs.declared.slots.Cached.{Cached}
use Rattle.bc_disk.specs.Disk.{DiskFacts, IsCounted, IsFailedWrite, IsWritten}
use Rattle.bc_disk.specs.declared.disk.Device.TheVariants.{Cache}
use Rattle.bc_disk.specs.declared.disk.Failed.{Failed}
use Rattle.bc_disk.specs.declared.geometry.Geometry.{Geometry}
use Rattle.bc_events.specs.Columns.{halt_of}
use Rattle.bc_events.specs.declared.event.Change.{Change}
use Rattle.bc_events.specs.declared.event.Deed.{Deed}
use Rattle.bc_events.specs.declared.event.Deed.TheVariants as deed
use Rattle.bc_events.specs.declared.event.Failure.TheVariants as failure
use Rattle.bc_events.specs.declared.event.Written.{Written}
use Rattle.bc_events.specs.declared.event.Written.TheVariants as written
use Rattle.bc_change.specs.Goes.{IsChangeBy, numbers}
use Rattle.bc_change.specs.Ready.{HasBoth, IsReadyFor, IsTree}
use Rattle.bc_change.specs.bc_hand.Seats.{Did, View, world}
use Rattle.bc_change.specs.bc_hand.declared.error.StepError.{StepError}
use Rattle.bc_change.specs.bc_hand.declared.error.StepError.TheVariants as error
use Rattle.bc_change.specs.bc_hand.declared.hand.Hand.{Hand}
use Rattle.bc_change.specs.bc_hand.declared.hand.LeafHand.{LeafHand}
use Rattle.bc_change.specs.bc_machine.Containers.{inner_slot}
use Rattle.bc_change.specs.bc_machine.World.{FromEach, Origin, World}
use Rattle.bc_change.specs.bc_machine.declared.part.SpinePart.{SpinePart}
use Rattle.bc_facts.specs.Layout.{IsLayoutOf}
use Rattle.bc_facts.specs.Seen.{bucket_of, seen_set}
use Rattle.bc_image.specs.Children.{with_children}
use Rattle.bc_inner.specs.Inner.{Inner}
use Rattle.bc_key.specs.Key.{ptr_at}
use Rattle.bc_key.specs.Words.{ptr_word}
use Rattle.bc_key.specs.declared.key.Key.{Key}
use Rattle.bc_meta.specs.Tree.{NodeSet}
use Rattle.bc_model.specs.Sector.{Value}
use Rattle.bc_node.specs.Writing.{HasSet, put_values, set_of}
use Rattle.bc_node.specs.declared.pending.Entries.{Entries}
use Rattle.bc_plan.specs.Parent.{HasMoreIn}
use Rattle.bc_set.specs.SetBytes.{AreSetKeys}
use Rattle.bc_set.specs.declared.set.SetKind.TheVariants.{Children}
use Rattle.bc_spine.specs.Exchange.{going}
use Rattle.bc_spine.specs.declared.leaf.LeafRange.{LeafRange}
use Rattle.bc_tree.specs.LastKeys.{LeafKeys, StandIn}
use Rattle.bc_tree.specs.Needs.{has_room, words}
use Rattle.bc_tree.specs.Plan.{Fits}
use Rattle.bc_tree.specs.Spine.{Spine}
use Rattle.bc_tree.specs.declared.plan.Plan.{Plan}
use Rattle.bc_parent_set.specs.BySet.{IsBySet, NamesThis}
use Rattle.bc_parent_set.specs.Takes.{IsTaker}

-- ---- the set

-- To the core, a key of the set points into the bucket that it names on the device.
abbrev pub PointsTo : Geometry → Origin → Key → Type 0
PointsTo g o key = o.opening.machine.flow.books.bucket (ptr_at key 0).offset ≡ bucket_of g key

-- the set as the core sees it, where it goes, and its values, as the front of these bytes
abbrev pub parent_seen : Geometry → Inner → List Key → NodeSet
parent_seen g n keys = seen_set g false (set_of n.seq keys)

abbrev pub parent_place : Inner → ℕ
parent_place n = n.ptr.offset + n.taken

abbrev pub parent_values : Geometry → Inner → List Key → List ℕ → List Value
parent_values g n keys bytes = put_values g n.taken (set_of n.seq keys) bytes

-- the deed that it is, done well or not
abbrev pub parent_by : Geometry → Inner → List Key → ℕ → Change → List ℕ → Deed
parent_by g n keys slot c bytes =
    deed.CacheWrite (parent_place n) (written.Parent slot c) (parent_values g n keys bytes)

abbrev pub lost_by : Geometry → Inner → List Key → ℕ → Change → List ℕ → Deed
lost_by g n keys slot c bytes = deed.DeviceFault
    (failure.CacheWrite (parent_place n) (written.Parent slot c) (parent_values g n keys bytes))

-- ---- what is asked

-- A leaf that goes is in the part in hand, held in its slot; all that is pending of it is durable;
-- and these are its last keys.
pub record IsGoingNow (l : LeafHand) (parts : ℕ) (keys : LeafKeys) (x : World) (range : LeafRange) :
    Type 0 where
  pub slot : ℕ
  pub cached : Cached
  pub there : slice_get l.cache.slots slot ≡ Some (Some cached)
  pub number_is : cached.number ≡ range.number
  pub held : cached.held ≡ true
  pub its_part : l.part ≡ 6 + range.number % (parts - 6)
  pub keys_are : keys range.number ≡ cached.leaf.keys
  pub durable : IfSome cached.leaf.entries (λ (e : Entries). FromEach x (IsDurableTo e.last))

-- The tree is in hand, of which it is noted that it changes, with the leaves that go; the plan fits
-- it, and makes the change by a set of one of its nodes, in this slot. The set has room in the node,
-- which this run wrote. The new nodes are ready, and entries name the tree's root.
pub record MayWriteParent {C B : Type 0} (h : Hand C B) (parts i : ℕ) (plan : Plan) (slot : ℕ)
    (c : Change) (x : World) : Type 0 where
  pub keys : LeafKeys
  pub spine : SpinePart
  pub is_spine : h.spine ≡ Some spine
  pub changing : spine.changing ≡ true
  pub fits : Fits spine.spine plan
  pub both : HasBoth plan
  pub leaves : LeafHand
  pub are_leaves : h.leaves ≡ Some leaves
  pub gone : (range : LeafRange) → Contains (going spine.spine.leaves plan.leaves) range
      → IsGoingNow leaves parts keys x range
  pub same : StandIn spine.spine.leaves keys plan
  pub at : ℕ
  pub taker : Inner
  pub put : List Key
  pub takes : IsTaker spine.spine plan at taker put
  pub room : has_room spine.spine.geometry taker (words put) ≡ true
  pub kind : AreSetKeys Children put
  -- the leaves that go are known outright, since their part has to be in hand
  pub goes : c.gone.items ≡ numbers (going spine.spine.leaves plan.leaves)
  pub change : FromEach x (λ o st. IsChangeBy o.opening.machine spine.spine plan c)
  pub ready : FromEach x (IsReadyFor i plan)
  pub slot_is : FromEach x (λ o st. inner_slot o.opening.machine taker ≡ slot)
  pub divided : FromEach x (λ o st. IsLayoutOf spine.spine.geometry o.opening.machine.layout)
  pub points : FromEach x (λ o st. All (PointsTo spine.spine.geometry o) put)
  pub named : FromEach x (NamesThis spine.spine.root)

-- ---- the call of the device

-- One call by which the set of the node that takes one went behind its others, whatever came of it.
pub record IsSentParent (plan : Plan) (result : Result (Unit {0}) Failed) (place : ℕ)
    (values : List Value) (old new : Spine) (before after : DiskFacts) : Type 0 where
  pub at : ℕ
  pub taker : Inner
  pub put : List Key
  pub takes : IsTaker old plan at taker put
  pub bytes : List ℕ
  pub set : HasSet old.geometry (ptr_word taker.ptr) (set_of taker.seq put) bytes
  pub whole : length bytes ≡ 512 * old.geometry.node_sectors
  pub place_is : place ≡ parent_place taker
  pub values_are : values ≡ parent_values old.geometry taker put bytes
  pub good : OnOk result (IsWritten place values before after)
  pub failed : OnErr result (IsFailedWrite place values before after)
  pub counted : IsCounted result before after
  pub more : HasMoreIn result taker put old new

-- The set has room in the node that takes it, which lies on a device of so many sectors; there are so
-- many bytes for it.
pub record CanSendParent (sectors : ℕ) (spine : Spine) (plan : Plan) (count : ℕ) : Type 0 where
  pub fits : Fits spine plan
  pub at : ℕ
  pub taker : Inner
  pub put : List Key
  pub takes : IsTaker spine plan at taker put
  pub room : has_room spine.geometry taker (words put) ≡ true
  pub inside : taker.ptr.offset + spine.geometry.node_sectors ≤ sectors
  pub whole : count ≡ 512 * spine.geometry.node_sectors

-- it was sent, and the tree and the device are in hand again
pub record HasSentParent {C B : Type 0} (facts : C → DiskFacts) (plan : Plan)
    (result : Result (Unit {0}) Failed) (place : ℕ) (values : List Value) (p : SpinePart) (c : C)
    (old new : Hand C B) : Type 0 where
  pub now : Spine
  pub device : C
  pub sent : IsSentParent plan result place values p.spine now (facts c) (facts device)
  pub kept : OnErr result (now ≡ p.spine)
  pub fits : Fits now plan
  pub tree : IsTree p.spine
  pub is : new ≡ record old { spine = Some (record p { spine = now }); cache = Some device }

-- the deed, by what came of the call
abbrev pub sent_by : ℕ → Written → List Value → Result (Unit {0}) Failed → Deed
sent_by place what values (Ok done) = deed.CacheWrite place what values
sent_by place what values (Err lost) =
    deed.DeviceFault (failure.CacheWrite place what values)

abbrev pub answer_to : Result (Unit {0}) Failed → Result (Unit {0}) StepError
answer_to (Ok done) = Ok done
answer_to (Err lost) = Err (error.Fault Cache)

-- ---- what was done

module _ {C B : Type 0} (cache_facts : C → DiskFacts) (backing_facts : B → DiskFacts) where
  -- The set was written. The node in memory has it, and its children stay until the change is
  -- installed; the seat knows that the set makes the change.
  pub record HasWrittenParent (plan : Plan) (slot : ℕ) (c : Change) (old new : Hand C B)
      (v w : View cache_facts backing_facts) : Type 0 where
    pub spine : SpinePart
    pub is_spine : old.spine ≡ Some spine
    pub at : ℕ
    pub taker : Inner
    pub put : List Key
    pub takes : IsTaker spine.spine plan at taker put
    pub bytes : List ℕ
    pub set : HasSet spine.spine.geometry (ptr_word taker.ptr) (set_of taker.seq put) bytes
    pub did : Did cache_facts backing_facts
        (Some (parent_by spine.spine.geometry taker put slot c bytes)) v w
    pub now : Spine
    pub done : Unit {0}
    pub more : HasMoreIn {E = Failed} (Ok done) taker put spine.spine now
    pub is : new ≡ record old { spine = Some (record spine { spine = now }); cache = new.cache }
    pub fits : Fits now plan
    pub knows : FromEach (world cache_facts backing_facts w)
        (IsBySet v.first plan c slot (with_children put taker.children))
    pub named : FromEach (world cache_facts backing_facts w) (NamesThis now.root)

  -- Its write failed, which was done: the tree in memory is as it was.
  pub record HasLostParent (plan : Plan) (slot : ℕ) (c : Change) (old new : Hand C B)
      (v w : View cache_facts backing_facts) : Type 0 where
    pub spine : SpinePart
    pub is_spine : old.spine ≡ Some spine
    pub at : ℕ
    pub taker : Inner
    pub put : List Key
    pub takes : IsTaker spine.spine plan at taker put
    pub bytes : List ℕ
    pub set : HasSet spine.spine.geometry (ptr_word taker.ptr) (set_of taker.seq put) bytes
    pub did : Did cache_facts backing_facts
        (Some (lost_by spine.spine.geometry taker put slot c bytes)) v w
    pub is : new ≡ record old { cache = new.cache }

  -- The write failed, or a device had halted the run before, and nothing was done.
  abbrev pub HasFailedParent : StepError → Plan → ℕ → Change → Hand C B → Hand C B
      → View cache_facts backing_facts → View cache_facts backing_facts → Type 0
  HasFailedParent (error.Fault device) plan slot c old new v w =
      (device ≡ Cache) × HasLostParent plan slot c old new v w
  HasFailedParent (error.Halted device) plan slot c old new v w =
      (halt_of w.seen ≡ Some device) × Did cache_facts backing_facts None v w × (new ≡ old)
  HasFailedParent error.Memory plan slot c old new v w = ⊥
