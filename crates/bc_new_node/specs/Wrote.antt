-- What a step did that wrote a new node.
use Rattle.std.specs.Prelude.{◌≡◌, ◌≢◌, ℕ, ◌*◌, ◌+◌, ◌-◌, List, Option, Some, None, Result, Ok, Err, OnErr, OnOk, length}
use Rattle.bc_disk.specs.Disk.{DiskFacts, IsCounted, IsFailedWrite, IsWritten}
use Rattle.bc_disk.specs.declared.disk.Device.TheVariants.{Cache}
use Rattle.bc_disk.specs.declared.disk.Failed.{Failed}
use Rattle.bc_disk.specs.declared.geometry.Geometry.{Geometry}
use Rattle.bc_events.specs.Columns.{halt_of}
use Rattle.bc_events.specs.declared.event.Deed.{Deed}
use Rattle.bc_events.specs.declared.event.Deed.TheVariants as deed
use Rattle.bc_events.specs.declared.event.Failure.TheVariants as failure
use Rattle.bc_events.specs.declared.event.NewNode.{NewNode}
use Rattle.bc_events.specs.declared.event.Written.{Written}
use Rattle.bc_held.specs.Held.{AreOther, IsHeldFor, IsVacantIn}
use Rattle.bc_held.specs.bc_hand.Seats.{Did, View, world}
use Rattle.bc_held.specs.bc_hand.declared.error.StepError.{StepError}
use Rattle.bc_held.specs.bc_hand.declared.error.StepError.TheVariants as error
use Rattle.bc_held.specs.bc_hand.declared.hand.Hand.{Hand}
use Rattle.bc_held.specs.bc_machine.World.{FromEach}
use Rattle.bc_held.specs.bc_machine.declared.part.SpinePart.{SpinePart}
use Rattle.bc_held.specs.declared.held.HeldBucket.{HeldBucket}
use Rattle.bc_key.specs.Words.{ptr_word}
use Rattle.bc_meta.specs.Tree.{NodeSet}
use Rattle.bc_model.specs.Sector.{Value, values_of}
use Rattle.bc_drafts.specs.Draft.{HasNoInner, HasNoLeaf, IsDraftInner, IsDraftLeaf}
use Rattle.bc_new_node.specs.Kind.{IsWriteOf}
use Rattle.bc_node.specs.Writing.{HasSet}
use Rattle.bc_plan.specs.Write.{FirstSet, HasFirstSet}
use Rattle.bc_plan.specs.declared.write.NewNode as plan
use Rattle.bc_tree.specs.declared.plan.Plan.{Plan}

-- the values of a whole node: its first set, and zeros behind it
pub record AreNodeOf (g : Geometry) (p : Plan) (node : plan.NewNode) (values : List Value) :
    Type 0 where
  pub first : FirstSet
  pub first_is : HasFirstSet p node first
  pub bytes : List ℕ
  pub set : HasSet g (ptr_word first.ptr) first.set bytes
  pub whole : length bytes ≡ 512 * g.node_sectors
  pub values_are : values ≡ values_of bytes

-- the deed, by what came of the call
abbrev pub sent_by : ℕ → Written → List Value → Result (Unit {0}) Failed → Deed
sent_by at what values (Ok done) = deed.CacheWrite at what values
sent_by at what values (Err failed) = deed.DeviceFault (failure.CacheWrite at what values)

abbrev pub answer_to : Result (Unit {0}) Failed → Result (Unit {0}) StepError
answer_to (Ok done) = Ok done
answer_to (Err failed) = Err (error.Fault Cache)

-- One call of the device by which the node was written whole, whatever came of it, and what that is
-- to the core, in the bucket of this number.
pub record IsSentNew (g : Geometry) (p : Plan) (node : plan.NewNode) (slot q : ℕ) (what : Written)
    (values : List Value) (result : Result (Unit {0}) Failed) (before after : DiskFacts) :
    Type 0 where
  pub what_is : IsWriteOf g p node slot q what
  pub node_is : AreNodeOf g p node values
  pub good : OnOk result (IsWritten node_is.first.ptr.offset values before after)
  pub failed : OnErr result (IsFailedWrite node_is.first.ptr.offset values before after)
  pub counted : IsCounted result before after

-- the deed, done well or not
abbrev pub write_by : HeldBucket → Written → List Value → Deed
write_by b what values = deed.CacheWrite b.to.offset what values

abbrev pub lost_by : HeldBucket → Written → List Value → Deed
lost_by b what values = deed.DeviceFault (failure.CacheWrite b.to.offset what values)

-- the next new node gets the next number, and nothing else of what is in hand changed but the device
abbrev pub numbered : {C B : Type 0} → Hand C B → SpinePart → Option C → Hand C B
numbered h spine cache =
    record h { spine = Some (record spine { next_seq = spine.next_seq + 1 }); cache = cache }

module _ {C B : Type 0} (cache_facts : C → DiskFacts) (backing_facts : B → DiskFacts) where
  -- the node was written, or its write failed
  pub record HasWrittenNew (by : HeldBucket → Written → List Value → Deed) (before : ℕ)
      (g : Geometry) (p : Plan) (node : plan.NewNode) (slot : ℕ) (b : HeldBucket)
      (v w : View cache_facts backing_facts) : Type 0 where
    pub what : Written
    pub what_is : IsWriteOf g p node slot (b.bucket - before) what
    pub values : List Value
    pub values_are : AreNodeOf g p node values
    pub did : Did cache_facts backing_facts (Some (by b what values)) v w

  -- Why it wasn't: its write failed, which was committed, and its number is used up; or a device had
  -- halted the run, and nothing was done. All memory is there before.
  abbrev pub HasFailedToWriteNew : StepError → ℕ → Plan → plan.NewNode → ℕ → HeldBucket → SpinePart
      → Hand C B → Hand C B → View cache_facts backing_facts → View cache_facts backing_facts
      → Type 0
  HasFailedToWriteNew (error.Fault device) before p node slot b spine old new v w =
      (device ≡ Cache)
      × HasWrittenNew lost_by before spine.spine.geometry p node slot b v w
      × (new ≡ numbered old spine new.cache)
  HasFailedToWriteNew (error.Halted device) before p node slot b spine old new v w =
      (halt_of w.seen ≡ Some device) × Did cache_facts backing_facts None v w × (new ≡ old)
  HasFailedToWriteNew error.Memory before p node slot b spine old new v w = ⊥

  -- What the seat knew of the buckets that it holds and of new nodes, it knows still; and so of slots
  -- without a node and of buckets that no node lies in, but for this slot and this bucket, of which
  -- `q` is the core's number.
  pub record KeepsDraftsBut (slot q : ℕ) (b : HeldBucket) (v w : View cache_facts backing_facts) :
      Type 0 where
    pub leaf : (x : NewNode) (set : NodeSet)
        → FromEach (world cache_facts backing_facts v) (IsDraftLeaf x set)
        → FromEach (world cache_facts backing_facts w) (IsDraftLeaf x set)
    pub inner : (x : NewNode) (set : NodeSet)
        → FromEach (world cache_facts backing_facts v) (IsDraftInner x set)
        → FromEach (world cache_facts backing_facts w) (IsDraftInner x set)
    pub no_leaf : (k : ℕ) → k ≢ slot → FromEach (world cache_facts backing_facts v) (HasNoLeaf k)
        → FromEach (world cache_facts backing_facts w) (HasNoLeaf k)
    pub no_inner : (k : ℕ) → k ≢ q → FromEach (world cache_facts backing_facts v) (HasNoInner k)
        → FromEach (world cache_facts backing_facts w) (HasNoInner k)
    pub held : (a : HeldBucket) → FromEach (world cache_facts backing_facts v) (IsHeldFor v.first a)
        → FromEach (world cache_facts backing_facts w) (IsHeldFor w.first a)
    pub vacant : (a : HeldBucket) → FromEach (world cache_facts backing_facts v) (AreOther a b)
        → FromEach (world cache_facts backing_facts v) (IsVacantIn a)
        → FromEach (world cache_facts backing_facts w) (IsVacantIn a)
    pub other : (a c : HeldBucket) → FromEach (world cache_facts backing_facts v) (AreOther a c)
        → FromEach (world cache_facts backing_facts w) (AreOther a c)
