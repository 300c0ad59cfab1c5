-- A candidate whose key comes into a leaf in hand.
use Rattle.std.specs.Prelude.{◌≡◌, ℕ, ◌+◌, ◌-◌, ◌%◌, ◌^◌, ◌<◌, false, [], ◌∷◌, None, Some, slice_get}
use Rattle.bc_cache.specs.declared.slots.Cached.{Cached}
use Rattle.bc_disk.specs.Disk.{DiskFacts}
use Rattle.bc_events.specs.declared.event.Deed.TheVariants as deed
use Rattle.bc_flight.specs.Candidates.{first_of}
use Rattle.bc_flight.specs.Flight.{InFlight}
use Rattle.bc_flight.specs.declared.candidate.Candidate.{Candidate}
use Rattle.bc_flight.specs.declared.candidate.Wanted.TheVariants.{Due}
use Rattle.bc_insert.specs.Insert.{HasPutIn}
use Rattle.bc_journal.specs.Journal.{HasRoom, Journal, number_of}
use Rattle.bc_key.specs.declared.key.Key.{Key}
use Rattle.bc_candidate.specs.bc_hand.Seats.{Did, View}
use Rattle.bc_candidate.specs.bc_hand.declared.hand.Hand.{Hand}
use Rattle.bc_candidate.specs.bc_hand.declared.hand.LeafHand.{LeafHand}
use Rattle.bc_candidate.specs.bc_machine.declared.part.BucketsPart.{BucketsPart}
use Rattle.bc_settle.specs.Fits.{IsNamedBy, WhyNot}
use Rattle.bc_settle.specs.Next.{HasCleanKey, HasTakenDue}
use Rattle.bc_settle.specs.declared.outcome.Outcome.{Outcome}
use Rattle.bc_settle.specs.declared.outcome.Outcome.TheVariants as outcome
use Rattle.bc_settle.specs.declared.outcome.Reason.{Reason}

-- Leaf, claims, buckets and journal are in hand. Of so many parts the one in hand is the leaf's;
-- nobody holds the leaf, so that no change of the tree moves it; and the entry for which keys wait
-- has room for one with a pointer, and a number.
pub record CanSettleIn {C B : Type 0} (h : Hand C B) (parts slot number : ℕ) (cached : Cached) :
    Type 0 where
  pub leaves : LeafHand
  pub is : h.leaves ≡ Some leaves
  pub its_part : leaves.part ≡ 6 + number % (parts - 6)
  pub there : slice_get leaves.cache.slots slot ≡ Some (Some cached)
  pub number_is : cached.number ≡ number
  pub free : cached.held ≡ false
  pub flight : InFlight
  pub is_flight : h.flight ≡ Some flight
  pub journal : Journal
  pub is_journal : h.journal ≡ Some journal
  pub room : HasRoom journal 3
  pub numbered : number_of journal < 2 ^ 63
  pub buckets : BucketsPart
  pub are_buckets : h.buckets ≡ Some buckets

-- The key was put into leaf and journal in hand, the candidate taken out, and its places are
-- pinned no more. Nothing else in hand changed.
pub record HasPutSettled {C B : Type 0} (before : ℕ) (old new : Hand C B) (slot : ℕ)
    (cached : Cached) (key : Key) (flight : InFlight) (part : BucketsPart) (at count : ℕ) :
    Type 0 where
  pub between : Hand C B
  pub put : HasPutIn old between slot cached (key ∷ [])
  pub left : InFlight
  pub taken : HasTakenDue before flight left
  pub next : BucketsPart
  pub named : HasCleanKey part at count next
  pub is : new ≡ record between { flight = Some left; buckets = Some next }

module _ {C B : Type 0} (cache_facts : C → DiskFacts) (backing_facts : B → DiskFacts) where
  -- The key of the oldest due candidate waits in the leaf and for the next entry; the candidate is
  -- gone.
  pub record HasSettled (before leaf slot : ℕ) (cached : Cached) (flight : InFlight)
      (part : BucketsPart) (number : ℕ) (old new : Hand C B)
      (v w : View cache_facts backing_facts) : Type 0 where
    pub candidate : Candidate
    pub due : first_of (Due before) flight.candidates ≡ Some candidate
    pub number_is : number ≡ candidate.number
    pub key : Key
    pub named : IsNamedBy cached.leaf part.buckets candidate.key key
    pub did : Did cache_facts backing_facts (Some (deed.Settle leaf number (key ∷ []))) v w
    pub put : HasPutSettled before old new slot cached key flight part named.from.offset
        candidate.key.size

  -- It can't come in, for this reason, and nothing was done.
  pub record HasLeft (before : ℕ) (cached : Cached) (flight : InFlight) (part : BucketsPart)
      (number : ℕ) (why : Reason) (old new : Hand C B) (v w : View cache_facts backing_facts) :
      Type 0 where
    pub candidate : Candidate
    pub due : first_of (Due before) flight.candidates ≡ Some candidate
    pub number_is : number ≡ candidate.number
    pub reason : WhyNot why cached.leaf part.buckets candidate.key
    pub waited : Did cache_facts backing_facts None v w
    pub same : new ≡ old

  -- None is due, and nothing was done.
  pub record HasNoneDue (before : ℕ) (flight : InFlight) (old new : Hand C B)
      (v w : View cache_facts backing_facts) : Type 0 where
    pub none : first_of (Due before) flight.candidates ≡ None
    pub waited : Did cache_facts backing_facts None v w
    pub same : new ≡ old

  abbrev pub HasSettledOr : Outcome → (before leaf slot : ℕ) → Cached → InFlight → BucketsPart
      → Hand C B → Hand C B → View cache_facts backing_facts → View cache_facts backing_facts
      → Type 0
  HasSettledOr outcome.NoneDue before leaf slot cached flight part old new v w =
      HasNoneDue before flight old new v w
  HasSettledOr (outcome.Settled number) before leaf slot cached flight part old new v w =
      HasSettled before leaf slot cached flight part number old new v w
  HasSettledOr (outcome.Left number why) before leaf slot cached flight part old new v w =
      HasLeft before cached flight part number why old new v w
