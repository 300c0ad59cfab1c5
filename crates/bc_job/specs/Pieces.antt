-- What the steps of one piece tell each other.
use Rattle.std.specs.Prelude.{◌≡◌, ◌⊎◌, ℕ, ◌+◌, Bool, true, false, List, [], ◌∷◌, Some}
use Rattle.bc_model.specs.Sector.{Value}
use Rattle.bc_disk.specs.Disk.{DiskFacts}
use Rattle.bc_disk.specs.declared.disk.Device.TheVariants.{Backing}
use Rattle.bc_flight.specs.declared.claim.Claim.{Claim}
use Rattle.bc_flight.specs.declared.claim.Share.{Share}
use Rattle.bc_events.specs.Acts.{is_exclusive}
use Rattle.bc_events.specs.Columns.{halt_of}
use Rattle.bc_events.specs.declared.event.LineNumber.{LineNumber}
use Rattle.bc_events.specs.declared.event.Failure.TheVariants as failure
use Rattle.bc_events.specs.declared.event.Deed.TheVariants as deed
use Rattle.bc_deed.specs.bc_machine.Note.{Note}
use Rattle.bc_deed.specs.bc_machine.World.{are_plain}
use Rattle.bc_deed.specs.bc_hand.Seats.{View, note}
use Rattle.bc_deed.specs.bc_hand.declared.error.StepError.{StepError}
use Rattle.bc_deed.specs.bc_hand.declared.error.StepError.TheVariants as error
use Rattle.bc_deed.specs.Asked.{IsClaim}
use Rattle.bc_deed.specs.Flushed.{HasDone}

-- the seat has a claim of these sectors, under which it did nothing yet
pub record IsFresh (first count : ℕ) (share : Share) (o : Note) : Type 0 where
  pub range : o.range ≡ record { first = first; count = count; exclusive = is_exclusive share }
  pub wrote : o.wrote ≡ false
  pub looked : o.looked ≡ true

module _ {C B : Type 0} (cache_facts : C → DiskFacts) (backing_facts : B → DiskFacts) where
  -- the seat claimed these sectors, maybe after some waiting
  pub record HasMadeClaim (claim : Claim) (first count : ℕ) (share : Share)
      (v w : View cache_facts backing_facts) : Type 0 where
    pub its : IsClaim claim w.first (note cache_facts backing_facts w).range
    pub range : (note cache_facts backing_facts w).range
        ≡ record { first = first; count = count; exclusive = is_exclusive share }
    -- over the backing device alone a claim is a look as well
    pub fresh : are_plain cache_facts backing_facts v.run.start ≡ true
        → IsFresh first count share (note cache_facts backing_facts w)
    pub promises : w.promises + 1 ≡ v.promises
    pub done : HasDone cache_facts backing_facts (deed.Claim first count share ∷ []) v w

  -- the sectors were read or not, and then nothing was done
  abbrev pub MayHaveRead : ℕ → View cache_facts backing_facts → View cache_facts backing_facts
      → Type 0
  MayHaveRead first v w = HasDone cache_facts backing_facts [] v w
      ⊎ ((values : List Value)
      × HasDone cache_facts backing_facts (deed.BackingRead first values ∷ []) v w)

  -- what was done under the claim of a piece that wasn't answered
  abbrev pub ReadUnder : StepError → ℕ → View cache_facts backing_facts
      → View cache_facts backing_facts → Type 0
  ReadUnder (error.Fault device) first v w = (device ≡ Backing)
      × HasDone cache_facts backing_facts (deed.DeviceFault (failure.Read Backing) ∷ []) v w
  ReadUnder (error.Halted device) first v w = (halt_of w.seen ≡ Some device) × MayHaveRead first v w
  ReadUnder error.Memory first v w = MayHaveRead first v w

  abbrev pub FailedUnder : Bool → LineNumber → ℕ → List Value → View cache_facts backing_facts
      → View cache_facts backing_facts → Type 0
  FailedUnder force of first values v w = HasDone cache_facts backing_facts
      (deed.DeviceFault (failure.BackingWrite first (Some of) values) ∷ []) v w
      ⊎ ((force ≡ true)
      × HasDone cache_facts backing_facts (deed.BackingWrite first (Some of) values
      ∷ deed.DeviceFault (failure.Barrier Backing) ∷ []) v w)

  abbrev pub HaltedUnder : Bool → LineNumber → ℕ → List Value → View cache_facts backing_facts
      → View cache_facts backing_facts → Type 0
  HaltedUnder force of first values v w = HasDone cache_facts backing_facts [] v w
      ⊎ ((force ≡ true) × (HasDone cache_facts backing_facts
      (deed.BackingWrite first (Some of) values ∷ []) v w
      ⊎ HasDone cache_facts backing_facts
      (deed.BackingWrite first (Some of) values ∷ deed.BackingBarrier ∷ []) v w))

  -- what was done under the claim of a piece that wasn't acknowledged
  abbrev pub WriteUnder : StepError → Bool → LineNumber → ℕ → List Value
      → View cache_facts backing_facts → View cache_facts backing_facts → Type 0
  WriteUnder (error.Fault device) force of first values v w =
      (device ≡ Backing) × FailedUnder force of first values v w
  WriteUnder (error.Halted device) force of first values v w =
      (halt_of w.seen ≡ Some device) × HaltedUnder force of first values v w
  WriteUnder error.Memory force of first values v w = HasDone cache_facts backing_facts [] v w
