-- The oldest due candidate, from an empty hand: what was done for it.
use Rattle.std.specs.Prelude.{◌≡◌, ◌⊎◌, ℕ, [], ◌∷◌, Option, None, Some}
use Rattle.bc_settle.specs.bc_deed.Asked.{IsHaltedOr}
use Rattle.bc_settle.specs.bc_deed.Flushed.{HasDone}
use Rattle.bc_disk.specs.Disk.{DiskFacts}
use Rattle.bc_events.specs.declared.event.Deed.TheVariants as deed
use Rattle.bc_fetch.specs.Fetch.{HasReadOne, HasStoppedAt}
use Rattle.bc_fetch.specs.declared.error.LeafError.{LeafError}
use Rattle.bc_fetch.specs.declared.error.LeafError.TheVariants as leaf
use Rattle.bc_flight.specs.Candidates.{first_of}
use Rattle.bc_flight.specs.Flight.{InFlight}
use Rattle.bc_flight.specs.declared.candidate.Candidate.{Candidate}
use Rattle.bc_flight.specs.declared.candidate.Wanted.TheVariants.{Due}
use Rattle.bc_key.specs.Key.{start_of}
use Rattle.bc_key.specs.declared.key.Key.{Key}
use Rattle.bc_settle.specs.Fits.{IsNamedBy, WhyNot}
use Rattle.bc_settle.specs.bc_hand.Seats.{Did, View, world}
use Rattle.bc_settle.specs.bc_hand.declared.error.StepError.{StepError}
use Rattle.bc_settle.specs.bc_machine.World.{IsFlight}
use Rattle.bc_settle.specs.declared.outcome.Outcome.TheVariants as outcome
use Rattle.bc_settle.specs.declared.outcome.Reason.{Reason}
use Rattle.bc_settled.specs.Room.{HaveStood, IsShort}
use Rattle.bc_settled.specs.declared.come.Come.{Come}
use Rattle.bc_settled.specs.declared.come.Come.TheVariants as come
use Rattle.bc_settled.specs.declared.come.Lack.{Lack}

module _ {C B : Type 0} (cache_facts : C → DiskFacts) (backing_facts : B → DiskFacts)
    (before : ℕ) where
  -- At some point of its way the seat had the claims in hand, and this was the oldest that was due.
  pub record HasSeenDue (due : Option Candidate) (v w : View cache_facts backing_facts) : Type 0
    where
      pub at : View cache_facts backing_facts
      pub way : HasDone cache_facts backing_facts [] v at
      pub flight : InFlight
      pub stood : IsFlight flight (world cache_facts backing_facts at)
      pub is : due ≡ first_of (Due before) flight.candidates
      pub then : HasDone cache_facts backing_facts [] at w

  -- ---- with what a key asks in hand

  -- The key of the oldest due candidate came into this leaf.
  pub record HasComeIn (leaf number : ℕ) (v w : View cache_facts backing_facts) : Type 0 where
    pub stood : HaveStood cache_facts backing_facts leaf v
    pub candidate : Candidate
    pub due : first_of (Due before) stood.flight.candidates ≡ Some candidate
    pub number_is : number ≡ candidate.number
    pub key : Key
    pub named : IsNamedBy stood.cached.leaf stood.buckets.buckets candidate.key key
    pub did : Did cache_facts backing_facts (Some (deed.Settle leaf number (key ∷ []))) v w

  -- It can't for this reason, and nothing was done.
  pub record HasStayed (leaf number : ℕ) (why : Reason) (v w : View cache_facts backing_facts) :
      Type 0 where
    pub stood : HaveStood cache_facts backing_facts leaf v
    pub candidate : Candidate
    pub due : first_of (Due before) stood.flight.candidates ≡ Some candidate
    pub number_is : number ≡ candidate.number
    pub reason : WhyNot why stood.cached.leaf stood.buckets.buckets candidate.key
    pub waited : Did cache_facts backing_facts None v w

  -- None was due any more, and nothing was done.
  pub record HasNoneDue (leaf : ℕ) (v w : View cache_facts backing_facts) : Type 0 where
    pub stood : HaveStood cache_facts backing_facts leaf v
    pub none : first_of (Due before) stood.flight.candidates ≡ None
    pub waited : Did cache_facts backing_facts None v w

  -- Leaf or journal weren't ready, and nothing was done.
  pub record HasLacked (leaf : ℕ) (why : Lack) (v w : View cache_facts backing_facts) : Type 0 where
    pub stood : HaveStood cache_facts backing_facts leaf v
    pub short : IsShort why stood.cached stood.journal
    pub waited : Did cache_facts backing_facts None v w

  abbrev pub HasTried : (leaf : ℕ) → Come → View cache_facts backing_facts
      → View cache_facts backing_facts → Type 0
  HasTried leaf (come.Tried outcome.NoneDue) v w = HasNoneDue leaf v w
  HasTried leaf (come.Tried (outcome.Settled number)) v w = HasComeIn leaf number v w
  HasTried leaf (come.Tried (outcome.Left number why)) v w = HasStayed leaf number why v w
  HasTried leaf (come.Lacks why) v w = HasLacked leaf why v w

  -- ---- from an empty hand

  -- A leaf was found for the oldest that was due, which may have been read, and this came of it.
  pub record HasTriedIn (what : Come) (v w : View cache_facts backing_facts) : Type 0 where
    pub due : Candidate
    pub seen : View cache_facts backing_facts
    pub was_due : HasSeenDue (Some due) v seen
    pub leaf : ℕ
    pub at : View cache_facts backing_facts
    pub way : HasReadOne cache_facts backing_facts seen at
    pub tried : View cache_facts backing_facts
    pub what_came : HasTried leaf what at tried
    pub then : HasDone cache_facts backing_facts [] tried w

  -- that, or none was due, and nothing was done
  abbrev pub HasCome : Come → View cache_facts backing_facts → View cache_facts backing_facts
      → Type 0
  HasCome what v w = HasTriedIn what v w
      ⊎ ((what ≡ come.Tried outcome.NoneDue) × HasSeenDue None v w)

  -- One was due, and no leaf was had that has its sectors.
  pub record HasHadNoLeaf (e : LeafError) (v w : View cache_facts backing_facts) : Type 0 where
    pub due : Candidate
    pub seen : View cache_facts backing_facts
    pub was_due : HasSeenDue (Some due) v seen
    pub why : HasStoppedAt cache_facts backing_facts (start_of due.key) due.key.size e seen w

  -- A halt or want of memory came behind the way to a leaf.
  pub record HasStoppedBehind (e : LeafError) (v w : View cache_facts backing_facts) : Type 0 where
    pub cause : StepError
    pub is : e ≡ leaf.Step cause
    pub at : View cache_facts backing_facts
    pub way : HasReadOne cache_facts backing_facts v at
    pub why : IsHaltedOr cause at.seen
    pub then : HasDone cache_facts backing_facts [] at w

  abbrev pub HasNotCome : LeafError → View cache_facts backing_facts
      → View cache_facts backing_facts → Type 0
  HasNotCome e v w = HasHadNoLeaf e v w ⊎ HasStoppedBehind e v w
