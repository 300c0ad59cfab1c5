-- What a step did that wrote the new nodes of a plan.
use Rattle.std.specs.Prelude.{◌≡◌, ℕ, ◌+◌, true, List, [], ◌∷◌, ◌++◌, Option, Some, None, length}
use Rattle.bc_change.specs.Ready.{HasBoth}
use Rattle.bc_disk.specs.Disk.{DiskFacts}
use Rattle.bc_disk.specs.declared.disk.Device.TheVariants.{Cache}
use Rattle.bc_disk.specs.declared.geometry.Geometry.{Geometry}
use Rattle.bc_events.specs.Columns.{halt_of}
use Rattle.bc_events.specs.declared.event.Deed.TheVariants as deed
use Rattle.bc_events.specs.declared.event.Failure.TheVariants as failure
use Rattle.bc_new_node.specs.Wrote.{HasWrittenNew, lost_by, write_by}
use Rattle.bc_new_node.specs.bc_hand.Seats.{Did, View, world}
use Rattle.bc_new_node.specs.bc_hand.declared.error.StepError.{StepError}
use Rattle.bc_new_node.specs.bc_hand.declared.error.StepError.TheVariants as error
use Rattle.bc_new_node.specs.bc_hand.declared.hand.Hand.{Hand}
use Rattle.bc_new_node.specs.bc_held.Held.{IsHeldFor}
use Rattle.bc_new_node.specs.bc_held.declared.held.HeldBucket.{HeldBucket}
use Rattle.bc_new_node.specs.bc_machine.World.{FromEach}
use Rattle.bc_new_node.specs.bc_machine.declared.part.SpinePart.{SpinePart}
use Rattle.bc_planned.specs.Nodes.{nodes_of, slot_of}
use Rattle.bc_plan.specs.Write.{HasNodeWritten}
use Rattle.bc_plan.specs.declared.write.NewNode.{NewNode}
use Rattle.bc_tree.specs.LastKeys.{LeafKeys, keys_next}
use Rattle.bc_tree.specs.declared.plan.Plan.{Plan}

-- in hand is noted that the tree changes
abbrev pub noted : {C B : Type 0} → Hand C B → SpinePart → Hand C B
noted h spine = record h { spine = Some (record spine { changing = true }) }

-- So it is, and so many numbers are used; nothing else there has
-- changed but the device.
abbrev pub changed : {C B : Type 0} → Hand C B → SpinePart → ℕ → Option C → Hand C B
changed h spine used cache = record h {
  spine = Some (record spine { next_seq = spine.next_seq + used; changing = true });
  cache = cache;
}

-- What else is asked of a plan that makes a change holds of it still: the same leaves come, two where
-- two did, with the same last keys.
pub record StaysAsked (p q : Plan) : Type 0 where
  pub leaves : q.leaves ≡ p.leaves
  pub both : HasBoth p → HasBoth q
  pub keys : (keys : LeafKeys) → keys_next keys q ≡ keys_next keys p

module _ {C B : Type 0} (cache_facts : C → DiskFacts) (backing_facts : B → DiskFacts) where
  -- These nodes were written, in this order, each to the bucket at its place: so the plan has come
  -- from the one to the other.
  abbrev pub HaveWritten : ℕ → Geometry → List NewNode → List HeldBucket → Plan → Plan
      → View cache_facts backing_facts → View cache_facts backing_facts → Type 0
  HaveWritten before g [] [] p q v w = (w ≡ v) × (q ≡ p)
  HaveWritten before g [] (b ∷ bs) p q v w = ⊥
  HaveWritten before g (node ∷ nodes) [] p q v w = ⊥
  HaveWritten before g (node ∷ nodes) (b ∷ bs) p q v w =
      (r : Plan) × (u : View cache_facts backing_facts)
      × HasWrittenNew cache_facts backing_facts write_by before g p node (slot_of p node) b v u
      × HasNodeWritten g node p r
      × HaveWritten before g nodes bs r q u w

  -- all of them, with a barrier behind
  pub record HaveWrittenAll (before : ℕ) (g : Geometry) (bs : List HeldBucket) (p q : Plan)
      (v w : View cache_facts backing_facts) : Type 0 where
    pub between : View cache_facts backing_facts
    pub wrote : HaveWritten before g (nodes_of p) bs p q v between
    pub settled : Did cache_facts backing_facts (Some deed.CacheBarrier) between w

  -- The write of the next one failed, which used its number up; or all were written, and the barrier
  -- failed.
  abbrev pub HaveFailed : ℕ → Geometry → List NewNode → List HeldBucket → ℕ → ℕ → Plan
      → View cache_facts backing_facts → View cache_facts backing_facts → Type 0
  HaveFailed before g [] bs done used q v w = (used ≡ done) × (bs ≡ [])
      × Did cache_facts backing_facts (Some (deed.DeviceFault (failure.Barrier Cache))) v w
  HaveFailed before g (node ∷ nodes) [] done used q v w = ⊥
  HaveFailed before g (node ∷ nodes) (b ∷ bs) done used q v w = (used ≡ done + 1)
      × HasWrittenNew cache_facts backing_facts lost_by before g q node (slot_of q node) b v w

  -- Why it came no further behind these. All memory is there before the first one.
  abbrev pub IsCutBy : StepError → ℕ → Geometry → List NewNode → List HeldBucket → ℕ → ℕ → Plan
      → View cache_facts backing_facts → View cache_facts backing_facts → Type 0
  IsCutBy (error.Fault device) before g nodes bs done used q v w = (device ≡ Cache)
      × HaveFailed before g nodes bs done used q v w
  IsCutBy (error.Halted device) before g nodes bs done used q v w =
      (halt_of w.seen ≡ Some device) × (used ≡ done) × Did cache_facts backing_facts None v w
  IsCutBy error.Memory before g nodes bs done used q v w = ⊥

  -- These were written, and then it came no further.
  pub record HaveStopped {D E : Type 0} (e : StepError) (before : ℕ) (bs : List HeldBucket)
      (p q : Plan) (spine : SpinePart) (old new : Hand D E)
      (v w : View cache_facts backing_facts) : Type 0 where
    pub these : List NewNode
    pub more : List NewNode
    pub nodes_are : nodes_of p ≡ these ++ more
    pub full : List HeldBucket
    pub rest : List HeldBucket
    pub buckets_are : bs ≡ full ++ rest
    pub between : View cache_facts backing_facts
    pub wrote : HaveWritten before spine.spine.geometry these full p q v between
    pub used : ℕ
    pub why : IsCutBy e before spine.spine.geometry more rest (length full) used q between w
    pub hand : new ≡ changed old spine used new.cache

  -- Or there was no memory for the bytes of all of them, and nothing was done.
  abbrev pub HaveNotWritten : {D E : Type 0} → StepError → ℕ → List HeldBucket → Plan → Plan
      → SpinePart → Hand D E → Hand D E → View cache_facts backing_facts
      → View cache_facts backing_facts → Type 0
  HaveNotWritten error.Memory before bs p q spine old new v w =
      (w ≡ v) × (q ≡ p) × (new ≡ old)
  HaveNotWritten (error.Fault device) before bs p q spine old new v w =
      HaveStopped (error.Fault device) before bs p q spine old new v w
  HaveNotWritten (error.Halted device) before bs p q spine old new v w =
      HaveStopped (error.Halted device) before bs p q spine old new v w

  -- the buckets that the seat held it holds still
  abbrev pub KeepsBuckets : View cache_facts backing_facts → View cache_facts backing_facts → Type 0
  KeepsBuckets v w = (a : HeldBucket)
      → FromEach (world cache_facts backing_facts v) (IsHeldFor v.first a)
      → FromEach (world cache_facts backing_facts w) (IsHeldFor w.first a)
