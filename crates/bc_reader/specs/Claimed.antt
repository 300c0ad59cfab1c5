-- The reads of a claim, from its look to its answer.
use Rattle.std.specs.Prelude.{◌≡◌, ◌⊎◌, ℕ, ◌+◌, ◌≤◌, All, Bool, true, false, List, [], ◌∷◌, Option, Some}
use Rattle.bc_bucket.specs.Buckets.{Buckets}
use Rattle.bc_fetch.specs.bc_deed.Flushed.{HasDone}
use Rattle.bc_disk.specs.Disk.{DiskFacts}
use Rattle.bc_events.specs.declared.event.Deed.TheVariants as deed
use Rattle.bc_events.specs.declared.event.LineNumber.{LineNumber}
use Rattle.bc_fetch.specs.declared.error.LeafError.TheVariants as leaf
use Rattle.bc_fetch.specs.bc_hand.Seats.{View, Works, note}
use Rattle.bc_fetch.specs.bc_hand.declared.error.StepError.{StepError}
use Rattle.bc_fetch.specs.bc_hand.declared.error.StepError.TheVariants as step
use Rattle.bc_fetch.specs.bc_hand.declared.hand.Hand.{Hand}
use Rattle.bc_fetch.specs.bc_machine.declared.part.BucketsPart.{BucketsPart}
use Rattle.bc_fetch.specs.bc_machine.declared.part.CorePart.{CorePart}
use Rattle.bc_model.specs.Sector.{Gives, Value}
use Rattle.bc_node.specs.Leaf.{Leaf}
use Rattle.bc_parts.specs.Seat.{PartsView}
use Rattle.bc_reads.specs.bc_sight.Sight.{Knows, MayAnswer, OfClaim}
use Rattle.bc_reader.specs.Deeds.{AreRunsDeeds, HasDoneSome, HasStoppedBy, IsHaltAt, RunsStop}
use Rattle.bc_reader.specs.Known.{HasValues}
use Rattle.bc_reader.specs.Look.{HasBuckets, HasSeen, NotSeen}
use Rattle.bc_reader.specs.Noted.{IsUnchanged}
use Rattle.bc_reader.specs.declared.error.ReadError.{ReadError}
use Rattle.bc_reader.specs.declared.error.ReadError.TheVariants as error
use Rattle.bc_reader.specs.declared.look.Seen.{Seen}

-- of the promises that there were so many are left, where a line was answered and where it wasn't
abbrev pub HasLeft : Bool → ℕ → ℕ → Type 0
HasLeft true before now = before ≤ now + 3
HasLeft false before now = before ≤ now + 2

module _ {C B : Type 0} (cache_facts : C → DiskFacts) (backing_facts : B → DiskFacts) where
  -- these values may be answered, as the buckets in hand tell
  pub record MayAnswerWith (first : ℕ) (values : List Value) (v : View cache_facts backing_facts)
      (h : Hand C B) : Type 0 where
    pub leaf : Leaf
    pub before : Buckets
    pub read : ℕ → Option Value
    pub knows : OfClaim cache_facts backing_facts v (λ o c. Knows o leaf before read c)
    pub now : BucketsPart
    pub is : h.buckets ≡ Some now
    pub may : Gives first values (λ s value. MayAnswer leaf before now.buckets (read s)
        ((note cache_facts backing_facts v).read s) s value)

  -- ---- a look with its reads

  -- The seat looked, and read each run that it found, in one call each but where clean data was read
  -- again from the backing device.
  pub record HasTried (p : PartsView (CorePart C B)) (first count : ℕ) (values : List Value)
      (v w : View cache_facts backing_facts) : Type 0 where
    pub seen : Seen
    pub at : View cache_facts backing_facts
    pub hand : Hand C B
    pub look : HasSeen cache_facts backing_facts p first count seen v at hand
    pub reads : HasDoneSome cache_facts backing_facts (AreRunsDeeds seen.runs.items values) at w

  -- The seat read each run of this look, and knows the values.
  pub record HasReadSeen (p : PartsView (CorePart C B)) (first count : ℕ) (seen : Seen)
      (values : List Value) (v w : View cache_facts backing_facts) : Type 0 where
    pub at : View cache_facts backing_facts
    pub hand : Hand C B
    pub look : HasSeen cache_facts backing_facts p first count seen v at hand
    pub reads : HasDoneSome cache_facts backing_facts (AreRunsDeeds seen.runs.items values) at w
    pub knows : HasValues cache_facts backing_facts look.found.both.cached.leaf
        look.found.both.buckets.part.buckets first values w

  -- A look with its reads of which some may not be answered: when the buckets were taken again, one
  -- of them from which the seat had read was used anew.
  pub record HasTurnedBack (p : PartsView (CorePart C B)) (first count : ℕ)
      (v w : View cache_facts backing_facts) : Type 0 where
    pub values : List Value
    pub read : View cache_facts backing_facts
    pub tried : HasTried p first count values v read
    pub hand : Hand C B
    pub works : Works cache_facts backing_facts p read hand
    pub buckets : HasBuckets hand
    pub changed : ¬ (All (IsUnchanged buckets.part.buckets) tried.seen.noted.items)
    pub then : HasDone cache_facts backing_facts [] read w

  -- what comes before the look that counts: nothing, or one that doesn't
  abbrev pub MayHaveTurned : PartsView (CorePart C B) → (first count : ℕ)
      → View cache_facts backing_facts → View cache_facts backing_facts → Type 0
  MayHaveTurned p first count v w =
      HasDone cache_facts backing_facts [] v w ⊎ HasTurnedBack p first count v w

  -- the line was answered with these values, which were read under one look
  pub record HasAnsweredAtOnce (p : PartsView (CorePart C B)) (of : LineNumber) (first count : ℕ)
      (values : List Value) (v w : View cache_facts backing_facts) : Type 0 where
    pub read : View cache_facts backing_facts
    pub tried : HasTried p first count values v read
    pub told : HasDone cache_facts backing_facts (deed.Answer of first values ∷ []) read w

  -- what one look came to: the line was answered, or it has to be read again
  abbrev pub HasTriedOnce : Bool → PartsView (CorePart C B) → LineNumber → (first count : ℕ)
      → List Value → View cache_facts backing_facts → View cache_facts backing_facts → Type 0
  HasTriedOnce true p of first count values v w =
      HasAnsweredAtOnce p of first count values v w
  HasTriedOnce false p of first count values v w = HasTurnedBack p first count v w

  -- and that may have been the second look
  pub record HasAnswered (p : PartsView (CorePart C B)) (of : LineNumber) (first count : ℕ)
      (values : List Value) (v w : View cache_facts backing_facts) : Type 0 where
    pub from : View cache_facts backing_facts
    pub turned : MayHaveTurned p first count v from
    pub answered : HasAnsweredAtOnce p of first count values from w

  -- ---- refusals

  -- runs were found, and one of them wasn't read
  pub record HasStoppedIn (p : PartsView (CorePart C B)) (first count : ℕ) (e : StepError)
      (v w : View cache_facts backing_facts) : Type 0 where
    pub seen : Seen
    pub at : View cache_facts backing_facts
    pub hand : Hand C B
    pub look : HasSeen cache_facts backing_facts p first count seen v at hand
    pub stop : HasStoppedBy cache_facts backing_facts e (RunsStop e seen.runs.items) at w

  -- or all of them were, and a halt or want of memory came before the answer
  pub record HasReadOnly (p : PartsView (CorePart C B)) (first count : ℕ) (e : StepError)
      (v w : View cache_facts backing_facts) : Type 0 where
    pub values : List Value
    pub tried : HasTried p first count values v w
    pub halted : IsHaltAt e w.seen
    pub no_fault : (which : _) → e ≡ step.Fault which → ⊥

  abbrev pub ReadStop : PartsView (CorePart C B) → (first count : ℕ) → ReadError
      → View cache_facts backing_facts → View cache_facts backing_facts → Type 0
  ReadStop p first count (error.Leaf (leaf.Step e)) v w =
      NotSeen cache_facts backing_facts p first count (error.Leaf (leaf.Step e)) v w
      ⊎ (HasStoppedIn p first count e v w ⊎ HasReadOnly p first count e v w)
  ReadStop p first count e v w = NotSeen cache_facts backing_facts p first count e v w

  -- a look by which the claimed sectors weren't answered, and why
  pub record HasStoppedAtOnce (p : PartsView (CorePart C B)) (first count : ℕ) (e : ReadError)
      (v w : View cache_facts backing_facts) : Type 0 where
    pub at : View cache_facts backing_facts
    pub stop : ReadStop p first count e v at
    pub then : HasDone cache_facts backing_facts [] at w

  -- and that may have been the second one
  pub record HasNotAnswered (p : PartsView (CorePart C B)) (first count : ℕ) (e : ReadError)
      (v w : View cache_facts backing_facts) : Type 0 where
    pub from : View cache_facts backing_facts
    pub turned : MayHaveTurned p first count v from
    pub stopped : HasStoppedAtOnce p first count e from w
