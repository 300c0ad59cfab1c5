-- What a seat has done that changed the tree by a set, and where it came no further.
use Rattle.std.specs.Prelude.{◌≡◌, ℕ, ◌≤◌, List, [], ◌∷◌, None, Ok, Option, Some}
use Rattle.bc_by_root.specs.Done.{HasInstalledIn, HasStood, IsPending}
use Rattle.bc_by_root.specs.Prepared.{SameChange}
use Rattle.bc_by_root.specs.declared.prepare.Installing.{Installing}
use Rattle.bc_by_root.specs.bc_install.bc_deed.Asked.{IsHalted}
use Rattle.bc_by_root.specs.bc_install.bc_deed.Flushed.{HasDone}
use Rattle.bc_by_root.specs.bc_install.bc_hand.Seats.{View, world}
use Rattle.bc_by_root.specs.bc_install.bc_hand.declared.error.StepError.{StepError}
use Rattle.bc_by_root.specs.bc_install.bc_hand.declared.error.StepError.TheVariants as step
use Rattle.bc_by_root.specs.bc_install.bc_hand.declared.hand.Hand.{Hand}
use Rattle.bc_by_root.specs.bc_install.bc_machine.World.{FromEach, World}
use Rattle.bc_by_root.specs.bc_install.bc_machine.declared.part.SpinePart.{SpinePart}
use Rattle.bc_by_set.specs.Given.{LiesWithin, MayChangeBySet}
use Rattle.bc_by_set.specs.declared.error.BySetError.{BySetError}
use Rattle.bc_by_set.specs.declared.error.BySetError.TheVariants as error
use Rattle.bc_by_set.specs.declared.error.NoSet.{NoSet}
use Rattle.bc_by_set.specs.declared.error.NoSet.TheVariants as no
use Rattle.bc_disk.specs.Disk.{DiskFacts}
use Rattle.bc_disk.specs.declared.disk.Device.{Device}
use Rattle.bc_disk.specs.declared.disk.Device.TheVariants.{Cache}
use Rattle.bc_disk.specs.declared.disk.Failed.{Failed}
use Rattle.bc_events.specs.Columns.{halt_of}
use Rattle.bc_events.specs.declared.event.Change.{Change}
use Rattle.bc_events.specs.declared.event.Deed.{Deed}
use Rattle.bc_events.specs.declared.event.Deed.TheVariants as deed
use Rattle.bc_events.specs.declared.event.Failure.TheVariants as failure
use Rattle.bc_image.specs.Children.{with_children}
use Rattle.bc_inner.specs.Inner.{Inner}
use Rattle.bc_journal.specs.Journal.{Journal}
use Rattle.bc_key.specs.Words.{ptr_word}
use Rattle.bc_key.specs.declared.key.Key.{Key}
use Rattle.bc_node.specs.Writing.{HasSet, set_of}
use Rattle.bc_by_root.specs.bc_install.bc_parent_set.BySet.{IsBySet, NamesThis}
use Rattle.bc_by_root.specs.bc_install.bc_parent_set.Takes.{IsTaker}
use Rattle.bc_by_root.specs.bc_install.bc_parent_set.Write.{lost_by, parent_by}
use Rattle.bc_plan.specs.Parent.{HasMoreIn}
use Rattle.bc_tree.specs.Plan.{Fits}
use Rattle.bc_tree.specs.Spine.{Spine}
use Rattle.bc_tree.specs.declared.plan.Plan.{Plan}

-- ---- why nothing was done

-- The node that takes the set ends behind the device.
abbrev pub IsOutside : {C B : Type 0} → (sectors : ℕ) → Hand C B → Plan → Type 0
IsOutside sectors h plan = (p : SpinePart) → h.spine ≡ Some p → (at : ℕ) (taker : Inner)
    (put : List Key) → IsTaker p.spine plan at taker put → LiesWithin sectors p.spine taker → ⊥

-- There was no memory, or the leaves that go or the device tell why.
abbrev pub IsNoSet : {C B : Type 0} → (sectors : ℕ) → Hand C B → Plan → NoSet → Journal → Type 0
IsNoSet sectors h plan no.Memory j = Unit {0}
IsNoSet sectors h plan no.Pending j = IsPending h plan j
IsNoSet sectors h plan no.Outside j = IsOutside sectors h plan

-- Where no set was begun, the seat had heard of no halt.
abbrev pub IsUnheardSet : BySetError → Option Device → Type 0
IsUnheardSet (error.NotBegun why) heard = heard ≡ None
IsUnheardSet (error.Set e) heard = Unit {0}
IsUnheardSet (error.Barrier e) heard = Unit {0}
IsUnheardSet (error.Install e) heard = Unit {0}

-- Then the same change may be tried again.
abbrev pub MayAgainSet : {C B : Type 0} → BySetError → Hand C B → (parts i : ℕ) → Plan → World
    → Type 0
MayAgainSet (error.NotBegun why) h parts i plan x = MayChangeBySet h parts i plan x
MayAgainSet (error.Set e) h parts i plan x = Unit {0}
MayAgainSet (error.Barrier e) h parts i plan x = Unit {0}
MayAgainSet (error.Install e) h parts i plan x = Unit {0}

-- And the seat has all promises that it had.
abbrev pub KeepsPromisesSet : BySetError → ℕ → ℕ → Type 0
KeepsPromisesSet (error.NotBegun why) before after = before ≤ after
KeepsPromisesSet (error.Set e) before after = Unit {0}
KeepsPromisesSet (error.Barrier e) before after = Unit {0}
KeepsPromisesSet (error.Install e) before after = Unit {0}

module _ {C B : Type 0} (cache_facts : C → DiskFacts) (backing_facts : B → DiskFacts) where
  -- The seat waited, a journal stood for the run then, and nothing was done, since that told so.
  pub record HasNotBegunSet (sectors : ℕ) (h : Hand C B) (plan : Plan) (why : NoSet)
      (v w : View cache_facts backing_facts) : Type 0 where
    pub at : View cache_facts backing_facts
    pub journal : Journal
    pub stood : HasStood cache_facts backing_facts journal v at
    pub why_is : IsNoSet sectors h plan why journal
    pub since : HasDone cache_facts backing_facts [] at w

  -- ---- the set

  -- The set was written by which the change is made, with these deeds behind it. The node in memory
  -- has it, which is all of the hand that has changed, and the seat knows that the set makes the
  -- change.
  pub record HasSetThen (behind : List Deed) (h k : Hand C B) (plan : Plan) (slot : ℕ) (c : Change)
      (v w : View cache_facts backing_facts) : Type 0 where
    pub spine : SpinePart
    pub is_spine : h.spine ≡ Some spine
    pub at : ℕ
    pub taker : Inner
    pub put : List Key
    pub takes : IsTaker spine.spine plan at taker put
    pub bytes : List ℕ
    pub set : HasSet spine.spine.geometry (ptr_word taker.ptr) (set_of taker.seq put) bytes
    pub done : HasDone cache_facts backing_facts
        (parent_by spine.spine.geometry taker put slot c bytes ∷ behind) v w
    pub now : Spine
    pub well : Unit {0}
    pub more : HasMoreIn {E = Failed} (Ok well) taker put spine.spine now
    pub is : k ≡ record h { spine = Some (record spine { spine = now }) }
    pub fits : Fits now plan
    pub knows : FromEach (world cache_facts backing_facts w)
        (IsBySet v.first plan c slot (with_children put taker.children))
    pub named : FromEach (world cache_facts backing_facts w) (NamesThis now.root)

  -- Its write failed.
  pub record HasLostSet (h : Hand C B) (plan : Plan) (slot : ℕ) (c : Change)
      (v w : View cache_facts backing_facts) : Type 0 where
    pub spine : SpinePart
    pub is_spine : h.spine ≡ Some spine
    pub at : ℕ
    pub taker : Inner
    pub put : List Key
    pub takes : IsTaker spine.spine plan at taker put
    pub bytes : List ℕ
    pub set : HasSet spine.spine.geometry (ptr_word taker.ptr) (set_of taker.seq put) bytes
    pub done : HasDone cache_facts backing_facts
        (lost_by spine.spine.geometry taker put slot c bytes ∷ []) v w

  -- The set isn't written: its write failed, or a device had halted the run before, and nothing was
  -- done.
  abbrev pub HasNotSet : StepError → Hand C B → Plan → View cache_facts backing_facts
      → View cache_facts backing_facts → Type 0
  HasNotSet (step.Fault device) h plan v w =
      (device ≡ Cache) × ((slot : ℕ) × (c : Change) × HasLostSet h plan slot c v w)
  HasNotSet (step.Halted device) h plan v w =
      (halt_of w.seen ≡ Some device) × HasDone cache_facts backing_facts [] v w
  HasNotSet step.Memory h plan v w = ⊥

  -- The set was written, and no barrier came behind it: it failed, or a device had halted the run
  -- before.
  abbrev pub HasNoBarrier : StepError → Hand C B → Hand C B → Plan → View cache_facts backing_facts
      → View cache_facts backing_facts → Type 0
  HasNoBarrier (step.Fault device) h k plan v w = (device ≡ Cache) × ((slot : ℕ) × (c : Change)
      × HasSetThen (deed.DeviceFault (failure.Barrier Cache) ∷ []) h k plan slot c v w)
  HasNoBarrier (step.Halted device) h k plan v w = (halt_of w.seen ≡ Some device)
      × ((slot : ℕ) × (c : Change) × HasSetThen [] h k plan slot c v w)
  HasNoBarrier step.Memory h k plan v w = ⊥

  -- The set was written, and a barrier came behind it. By it the change is under way, which the
  -- install is given once more.
  pub record HasPutSet (h k : Hand C B) (plan : Plan) (s : Installing)
      (v w : View cache_facts backing_facts) : Type 0 where
    pub slot : ℕ
    pub change : Change
    pub same : SameChange change s.change
    pub put : HasSetThen (deed.CacheBarrier ∷ []) h k plan slot change v w

  -- it came no further than to the barrier
  abbrev pub HasNotPutSet : (sectors : ℕ) → Hand C B → Hand C B → Plan → BySetError
      → View cache_facts backing_facts → View cache_facts backing_facts → Type 0
  HasNotPutSet sectors h k plan (error.NotBegun why) v w =
      (k ≡ h) × HasNotBegunSet sectors h plan why v w
  HasNotPutSet sectors h k plan (error.Set e) v w = (k ≡ h) × HasNotSet e h plan v w
  HasNotPutSet sectors h k plan (error.Barrier e) v w = HasNoBarrier e h k plan v w
  HasNotPutSet sectors h k plan (error.Install e) v w = ⊥

  -- ---- the whole

  pub record HasChangedBySet (count : ℕ) (plan : Plan) (h k : Hand C B)
      (v w : View cache_facts backing_facts) : Type 0 where
    pub given : Installing
    pub with_set : Hand C B
    pub between : View cache_facts backing_facts
    pub put : HasPutSet h with_set plan given v between
    pub installed : HasInstalledIn cache_facts backing_facts count plan given with_set k between w

  -- The change was made, and a device had halted the run before the install.
  pub record HasNotInstalledSet (h k : Hand C B) (plan : Plan) (e : StepError)
      (v w : View cache_facts backing_facts) : Type 0 where
    pub given : Installing
    pub between : View cache_facts backing_facts
    pub put : HasPutSet h k plan given v between
    pub since : HasDone cache_facts backing_facts [] between w
    pub cause : IsHalted e w.seen

  abbrev pub HasNotChangedBySet : (sectors : ℕ) → Hand C B → Hand C B → Plan → BySetError
      → View cache_facts backing_facts → View cache_facts backing_facts → Type 0
  HasNotChangedBySet sectors h k plan (error.NotBegun why) v w =
      (k ≡ h) × HasNotBegunSet sectors h plan why v w
  HasNotChangedBySet sectors h k plan (error.Set e) v w = (k ≡ h) × HasNotSet e h plan v w
  HasNotChangedBySet sectors h k plan (error.Barrier e) v w = HasNoBarrier e h k plan v w
  HasNotChangedBySet sectors h k plan (error.Install e) v w = HasNotInstalledSet h k plan e v w
