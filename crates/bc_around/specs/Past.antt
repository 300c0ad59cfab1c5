-- A piece of a write past the cache: what was done of it, between its claim and its release.
use Rattle.std.specs.Prelude.{◌≡◌, ◌≢◌, ◌⊎◌, ℕ, Bool, List, [], ◌∷◌, length, Some}
use Rattle.bc_flush.specs.bc_deed.Asked.{IsHaltedOr}
use Rattle.bc_flush.specs.bc_deed.Flushed.{HasDone}
use Rattle.bc_disk.specs.Disk.{DiskFacts}
use Rattle.bc_disk.specs.declared.disk.Device.TheVariants.{Backing}
use Rattle.bc_events.specs.Columns.{halt_of}
use Rattle.bc_events.specs.declared.event.Deed.TheVariants as deed
use Rattle.bc_events.specs.declared.event.LineNumber.{LineNumber}
use Rattle.bc_flight.specs.declared.claim.Share.TheVariants.{Exclusive}
use Rattle.bc_flush.specs.Sync.{HasNotSynced, HasSynced}
use Rattle.bc_flush.specs.declared.error.FlushError.{FlushError}
use Rattle.bc_flush.specs.bc_hand.Seats.{View}
use Rattle.bc_flush.specs.bc_hand.declared.error.StepError.{StepError}
use Rattle.bc_flush.specs.bc_hand.declared.error.StepError.TheVariants as step
use Rattle.bc_flush.specs.bc_job.Deeds.{written}
use Rattle.bc_flush.specs.bc_job.Pieces.{FailedUnder, HaltedUnder}
use Rattle.bc_flush.specs.bc_machine.World.{cache_among}
use Rattle.bc_flush.specs.bc_machine.declared.part.CorePart.{CorePart}
use Rattle.bc_model.specs.Sector.{Value}
use Rattle.bc_parts.specs.Seat.{PartsView}
use Rattle.bc_around.specs.Look.{HasFoundKey, HasLookedFree, NotLooked}
use Rattle.bc_around.specs.Owed.{HasOwed}
use Rattle.bc_around.specs.declared.past.Past.{Past}
use Rattle.bc_around.specs.declared.past.Past.TheVariants as past
use Rattle.bc_around.specs.declared.past.PastError.{PastError}
use Rattle.bc_around.specs.declared.past.PastError.TheVariants as error

module _ {C B : Type 0} (cache_facts : C → DiskFacts) (backing_facts : B → DiskFacts) where
  -- The write failed, or the barrier behind one that is forced; or a halt came before one of its
  -- deeds. No memory is asked for by then.
  abbrev pub NotWritten : StepError → Bool → LineNumber → ℕ → List Value
      → View cache_facts backing_facts → View cache_facts backing_facts → Type 0
  NotWritten (step.Fault device) force of first values v w =
      (device ≡ Backing) × FailedUnder cache_facts backing_facts force of first values v w
  NotWritten (step.Halted device) force of first values v w = (halt_of w.seen ≡ Some device)
      × HaltedUnder cache_facts backing_facts force of first values v w
  NotWritten step.Memory force of first values v w = ⊥

  -- ---- under the claim

  -- The seat looked, and then wrote the sectors by one call; where that is forced it made one
  -- barrier behind it and acknowledged it.
  pub record HasWrittenThere (p : PartsView (CorePart C B)) (force : Bool) (of : LineNumber)
      (first : ℕ) (values : List Value) (v w : View cache_facts backing_facts) : Type 0 where
    pub looked : View cache_facts backing_facts
    pub look : HasLookedFree cache_facts backing_facts p first (length values) v looked
    pub wrote : HasDone cache_facts backing_facts (written force of first values) looked w

  -- It looked, and keys waited.
  pub record HasWaitedThere (p : PartsView (CorePart C B)) (first count : ℕ)
      (v w : View cache_facts backing_facts) : Type 0 where
    pub looked : View cache_facts backing_facts
    pub look : HasLookedFree cache_facts backing_facts p first count v looked
    pub owed : HasOwed cache_facts backing_facts looked w

  -- what came of the claimed sectors
  abbrev pub HasComeTo : Past → PartsView (CorePart C B) → Bool → LineNumber → ℕ → List Value
      → View cache_facts backing_facts → View cache_facts backing_facts → Type 0
  HasComeTo past.Written p force of first values v w =
      HasWrittenThere p force of first values v w
  HasComeTo past.Cached p force of first values v w =
      HasFoundKey cache_facts backing_facts p first (length values) v w
  HasComeTo past.Waiting p force of first values v w =
      HasWaitedThere p first (length values) v w

  -- It looked, and the write wasn't done.
  pub record HasFailedThere (p : PartsView (CorePart C B)) (e : StepError) (force : Bool)
      (of : LineNumber) (first : ℕ) (values : List Value) (v w : View cache_facts backing_facts)
      : Type 0 where
    pub looked : View cache_facts backing_facts
    pub look : HasLookedFree cache_facts backing_facts p first (length values) v looked
    pub stop : NotWritten e force of first values looked w

  abbrev pub HasStopped : PastError → PartsView (CorePart C B) → Bool → LineNumber → ℕ
      → List Value → View cache_facts backing_facts → View cache_facts backing_facts → Type 0
  HasStopped (error.Claim e) p force of first values v w = ⊥
  HasStopped (error.Leaf e) p force of first values v w =
      NotLooked cache_facts backing_facts p first (length values) e v w
  HasStopped (error.Journal e) p force of first values v w = ⊥
  HasStopped (error.Write e) p force of first values v w =
      HasFailedThere p e force of first values v w

  -- ---- from the claim to its release

  -- the sectors were claimed for the seat alone, this came of them, and the claim was let go
  pub record HasTried (o : Past) (p : PartsView (CorePart C B)) (force : Bool) (of : LineNumber)
      (first : ℕ) (values : List Value) (v w : View cache_facts backing_facts) : Type 0 where
    pub claimed : View cache_facts backing_facts
    pub claim : HasDone cache_facts backing_facts
        (deed.Claim first (length values) Exclusive ∷ []) v claimed
    pub tried : View cache_facts backing_facts
    pub outcome : HasComeTo o p force of first values claimed tried
    pub released : HasDone cache_facts backing_facts (deed.Release ∷ []) tried w

  -- they were claimed and let go, and in between weren't written
  pub record HasStoppedUnder (e : PastError) (p : PartsView (CorePart C B)) (force : Bool)
      (of : LineNumber) (first : ℕ) (values : List Value) (v w : View cache_facts backing_facts)
      : Type 0 where
    pub claimed : View cache_facts backing_facts
    pub claim : HasDone cache_facts backing_facts
        (deed.Claim first (length values) Exclusive ∷ []) v claimed
    pub tried : View cache_facts backing_facts
    pub stop : HasStopped e p force of first values claimed tried
    pub released : HasDone cache_facts backing_facts (deed.Release ∷ []) tried w

  -- or a halt or want of memory came before the claim, and nothing was done
  pub record HasNotClaimed (e : PastError) (v w : View cache_facts backing_facts) : Type 0 where
    pub cause : StepError
    pub is : e ≡ error.Claim cause
    pub why : IsHaltedOr cause w.seen
    pub done : HasDone cache_facts backing_facts [] v w

  abbrev pub HasNotTried : PastError → PartsView (CorePart C B) → Bool → LineNumber → ℕ
      → List Value → View cache_facts backing_facts → View cache_facts backing_facts → Type 0
  HasNotTried e p force of first values v w =
      HasNotClaimed e v w ⊎ HasStoppedUnder e p force of first values v w

  -- ---- with an entry of the journal

  -- Keys waited at the first try, and were put into an entry.
  pub record HasMadeDurable (p : PartsView (CorePart C B)) (force : Bool) (of : LineNumber)
      (first : ℕ) (values : List Value) (v w : View cache_facts backing_facts)
      : Type 0 where
    pub at : View cache_facts backing_facts
    pub waited : HasTried past.Waiting p force of first values v at
    pub synced : HasSynced cache_facts backing_facts at w

  -- the piece came to this at its first try, or at its second behind an entry
  abbrev pub HasPassed : Past → PartsView (CorePart C B) → Bool → LineNumber → ℕ → List Value
      → View cache_facts backing_facts → View cache_facts backing_facts → Type 0
  HasPassed o p force of first values v w =
      ((o ≢ past.Waiting) × HasTried o p force of first values v w)
      ⊎ ((u : View cache_facts backing_facts)
      × HasMadeDurable p force of first values v u
      × HasTried o p force of first values u w)

  -- keys waited at the first try, and the entry was refused
  pub record HasNotMadeDurable (e : PastError) (p : PartsView (CorePart C B)) (force : Bool)
      (of : LineNumber) (first : ℕ) (values : List Value)
      (v w : View cache_facts backing_facts) : Type 0 where
    pub cause : FlushError
    pub is : e ≡ error.Journal cause
    pub at : View cache_facts backing_facts
    pub waited : HasTried past.Waiting p force of first values v at
    pub refused : HasNotSynced cache_facts backing_facts
        (cache_among cache_facts backing_facts p.run.start).sectors cause at w

  -- the first try was stopped, or the entry, or the try behind it
  abbrev pub HasNotPassed : PastError → PartsView (CorePart C B) → Bool → LineNumber → ℕ
      → List Value → View cache_facts backing_facts → View cache_facts backing_facts
      → Type 0
  HasNotPassed e p force of first values v w = HasNotTried e p force of first values v w
      ⊎ (HasNotMadeDurable e p force of first values v w
      ⊎ ((u : View cache_facts backing_facts)
      × HasMadeDurable p force of first values v u
      × HasNotTried e p force of first values u w))
