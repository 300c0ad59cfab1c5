-- A run that is closed.
use Rattle.std.specs.Prelude.{◌≡◌, ◌⊎◌, Bool, true, false, List, [], ◌∷◌, Some, None, IfErr, OnErr, OnOk, Result, Ok, Err}
use Rattle.bc_book.specs.Pass.{events_in}
use Rattle.bc_started.specs.bc_deed.Flushed.{HasDone}
use Rattle.bc_disk.specs.Disk.{DiskFacts}
use Rattle.bc_disk.specs.declared.disk.Device.TheVariants.{Backing}
use Rattle.bc_events.specs.Columns.{entries_of, halt_of}
use Rattle.bc_events.specs.declared.event.Deed.{Deed}
use Rattle.bc_events.specs.declared.event.Deed.TheVariants as deed
use Rattle.bc_events.specs.declared.event.Event.{Event}
use Rattle.bc_events.specs.declared.event.Failure.TheVariants as failure
use Rattle.bc_started.specs.bc_hand.Seats.{IsCoreSeat, View, world}
use Rattle.bc_started.specs.bc_machine.World.{IsBacking, IsCache}
use Rattle.bc_started.specs.bc_machine.declared.part.BackingPart.{BackingPart}
use Rattle.bc_state.specs.State.{super_in}
use Rattle.bc_super.specs.Writing.{AreCounted, IsBackingStored, IsBackingTorn}
use Rattle.bc_super.specs.declared.backing.BackingSuper.{BackingSuper}
use Rattle.bc_super.specs.declared.state.BackingState.TheVariants as states
use Rattle.bc_session.specs.declared.closing.CloseError.{CloseError}
use Rattle.bc_session.specs.declared.closing.CloseError.TheVariants as errors
use Rattle.bc_session.specs.declared.closing.Closed.{Closed}

-- ---- the barrier

abbrev pub Outcome : Type 0
Outcome = Result (Unit {0}) CloseError

-- the deeds of such an outcome, behind which the run's events were these
abbrev pub IsBarrierOf : Outcome → List Deed → List Event → Type 0
IsBarrierOf (Ok u) ds seen = (ds ≡ deed.BackingBarrier ∷ []) × (halt_of seen ≡ None)
IsBarrierOf (Err errors.Fault) ds seen = ds ≡ deed.DeviceFault (failure.Barrier Backing) ∷ []
IsBarrierOf (Err (errors.Halted device)) ds seen =
    ((ds ≡ []) ⊎ (ds ≡ deed.BackingBarrier ∷ [])) × (halt_of seen ≡ Some device)
IsBarrierOf (Err errors.Memory) ds seen = ds ≡ []

-- ---- the state

-- the superblock says that no data is in the cache alone, or the write failed
pub record HasSaidClean {B : Type 0} (facts : B → DiskFacts) (b : BackingSuper) (result : Outcome)
    (old new : B) : Type 0 where
  pub ok : OnOk result (IsBackingStored (super_in states.Clean b) (facts old) (facts new))
  pub failed : OnErr result (IsBackingTorn (super_in states.Clean b) (facts old) (facts new))
  pub counted : AreCounted 2 result (facts old) (facts new)
  pub cause : IfErr result (λ why. why ≡ errors.Fault)

-- It was so written where the barrier was made and it is so; else the device wasn't called.
abbrev pub IsLastState : {B : Type 0} → (B → DiskFacts) → BackingSuper → Bool → Outcome → Outcome
    → B → B → Type 0
IsLastState facts b dirty (Err why) result old new = (result ≡ Err why) × (new ≡ old)
IsLastState facts b true (Ok u) result old new = (result ≡ Ok tt) × (new ≡ old)
IsLastState facts b false (Ok u) result old new = HasSaidClean facts b result old new

module _ {C B : Type 0} (cache_facts : C → DiskFacts) (backing_facts : B → DiskFacts) where
  pub record HasMade (r : Outcome) (v w : View cache_facts backing_facts) : Type 0 where
    pub deeds : List Deed
    pub done : HasDone cache_facts backing_facts deeds v w
    pub is : IsBarrierOf r deeds w.seen

  -- The barrier was made, or failed; what the run left of the cache device is that, and of the backing
  -- device it is that but for the state.
  pub record HasClosed (b : BackingSuper) (dirty : Bool) (v : View cache_facts backing_facts)
      (r : Closed C B) : Type 0 where
    pub barrier : Outcome
    pub last : View cache_facts backing_facts
    pub made : HasMade barrier v last
    pub seat : IsCoreSeat cache_facts backing_facts last
    pub cache : IsCache {C = C} {B = B} cache_facts backing_facts r.cache
        (world cache_facts backing_facts last)
    pub between : BackingPart B
    pub backing : IsBacking {C = C} {B = B} cache_facts backing_facts between
        (world cache_facts backing_facts last)
    pub state : IsLastState backing_facts b dirty barrier r.result between.disk r.backing
    pub events : events_in r.pass ≡ last.seen
    pub history : r.pass.entries.items ≡ entries_of last.seen
