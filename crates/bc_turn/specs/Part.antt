-- The leaves of a part in hand, of which nothing is to be pending of entries below a number.
use Rattle.std.specs.Prelude.{◌≡◌, ℕ, ◌%◌, ◌<◌, ◌≤◌, List, [], ◌∷◌, ◌++◌, length, All, Option, Some, None, IfSome}
use Rattle.bc_append.specs.Append.{BeginWithSet, append_by, lost_by}
use Rattle.bc_append.specs.bc_hand.Seats.{View, Works}
use Rattle.bc_append.specs.bc_hand.declared.error.StepError.{StepError}
use Rattle.bc_append.specs.bc_hand.declared.error.StepError.TheVariants as error
use Rattle.bc_append.specs.bc_hand.declared.hand.Hand.{Hand}
use Rattle.bc_append.specs.bc_machine.World.{World}
use Rattle.bc_append.specs.bc_machine.declared.part.CorePart.{CorePart}
use Rattle.bc_cache.specs.Slots.{IsSlotOf}
use Rattle.bc_cache.specs.declared.slots.Cached.{Cached}
use Rattle.bc_fetch.specs.bc_deed.Flushed.{HasDone}
use Rattle.bc_disk.specs.Disk.{DiskFacts}
use Rattle.bc_disk.specs.declared.disk.Device.TheVariants.{Cache}
use Rattle.bc_disk.specs.declared.geometry.Geometry.{Geometry}
use Rattle.bc_events.specs.Columns.{halt_of}
use Rattle.bc_events.specs.declared.event.Deed.{Deed}
use Rattle.bc_node.specs.Leaf.{Leaf}
use Rattle.bc_parts.specs.Seat.{PartsView}
use Rattle.bc_turn.specs.Empty.{HasPendingIn, IsTold, IsWhy}
use Rattle.bc_turn.specs.declared.error.Left.{Left}

-- ---- slots

-- The slot has no leaf that is the part's own, of so many, with keys pending of an entry below.
abbrev pub WaitsInSlot : (count part low : ℕ) → Option (Option Cached) → Type 0
WaitsInSlot count part low None = Unit {0}
WaitsInSlot count part low (Some None) = Unit {0}
WaitsInSlot count part low (Some (Some c)) = c.number % count ≡ part
    → IfSome c.leaf.entries (λ e. low ≤ e.first)

-- The slot has such a leaf, and no other slot has it.
pub record IsDueIn {C B : Type 0} (h : Hand C B) (parts low slot number : ℕ) : Type 0 where
  pub pending : HasPendingIn h parts slot number
  pub below : pending.entries.first < low
  pub only : IsSlotOf pending.own.at.leaves.cache.slots number slot

-- ---- what was done

module _ {C B : Type 0} (cache_facts : C → DiskFacts) (backing_facts : B → DiskFacts)
    (p : PartsView (CorePart C B)) (low : ℕ) where
  -- The deed is of a leaf of which a key of an entry below was pending, as the seat had its part in
  -- hand behind some deeds of its own: it is the write of what was pending, or one that failed.
  pub record IsOfDue (by : Geometry → ℕ → Leaf → List ℕ → Deed)
      (v : View cache_facts backing_facts) (d : Deed) : Type 0 where
    pub before : List Deed
    pub at : View cache_facts backing_facts
    pub went : HasDone cache_facts backing_facts before v at
    pub hand : Hand C B
    pub works : Works cache_facts backing_facts p at hand
    pub slot : ℕ
    pub number : ℕ
    pub due : IsDueIn hand (length p.run.start) low slot number
    pub bytes : List ℕ
    pub set : BeginWithSet due.pending.own.at.leaves.cache.geometry
        due.pending.own.at.cached.leaf bytes
    pub is : d ≡ by due.pending.own.at.leaves.cache.geometry number
        due.pending.own.at.cached.leaf bytes

  -- Sets of such leaves were written, and nothing else was done.
  pub record HasWrittenSets (v w : View cache_facts backing_facts) : Type 0 where
    pub deeds : List Deed
    pub each : All (IsOfDue append_by v) deeds
    pub done : HasDone cache_facts backing_facts deeds v w

  -- And then the write of one failed.
  pub record HasLostSet (v w : View cache_facts backing_facts) : Type 0 where
    pub deeds : List Deed
    pub each : All (IsOfDue append_by v) deeds
    pub last : Deed
    pub lost : IsOfDue lost_by v last
    pub done : HasDone cache_facts backing_facts (deeds ++ last ∷ []) v w

  -- Or a device had halted the run; or memory lacked, and the seat had heard of no halt.
  abbrev pub HasFailed : StepError → View cache_facts backing_facts
      → View cache_facts backing_facts → Type 0
  HasFailed (error.Fault device) v w = (device ≡ Cache) × HasLostSet v w
  HasFailed (error.Halted device) v w = (halt_of w.seen ≡ Some device) × HasWrittenSets v w
  HasFailed error.Memory v w = (w.heard ≡ None) × HasWrittenSets v w

-- A leaf is left of which keys of an entry below are pending, and this is why, as it stands in hand
-- for the run.
pub record IsLeftIn {C B : Type 0} (h : Hand C B) (x : World) (sectors parts low : ℕ)
    (left : Left) : Type 0 where
  pub slot : ℕ
  pub pending : HasPendingIn h parts slot left.leaf
  pub below : pending.entries.first < low
  pub cause : IsWhy left.why sectors pending
  pub told : IsTold left.why x
