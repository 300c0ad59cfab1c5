-- What a seat has done that made the journal durable, and where it came no further.
use Rattle.std.specs.Prelude.{◌≡◌, ◌≢◌, ◌⊎◌, ℕ, ◌*◌, ◌<◌, true, false, List, [], None, Some}
use Rattle.std.proofs.Common.{inl, inr}
use Rattle.bc_entry.specs.bc_deed.Flushed.{HasDone}
use Rattle.bc_disk.specs.Disk.{DiskFacts}
use Rattle.bc_entry.specs.Put.{IsCut, IsPut}
use Rattle.bc_events.specs.Columns.{halt_of}
use Rattle.bc_events.specs.declared.event.Deed.{Deed}
use Rattle.bc_events.specs.declared.event.Event.{Event}
use Rattle.bc_entry.specs.bc_hand.Seats.{Kinds, View, world}
use Rattle.bc_entry.specs.bc_hand.declared.error.StepError.TheVariants as step
use Rattle.bc_journal.specs.Journal.{IsSealed, Journal}
use Rattle.bc_journal.specs.Sealed.{Sealed}
use Rattle.bc_entry.specs.bc_machine.World.{IsJournal}
use Rattle.bc_flush.specs.declared.error.FlushError.{FlushError}
use Rattle.bc_flush.specs.declared.error.FlushError.TheVariants as flush

-- the journal is in hand, and nothing else
abbrev pub journal_alone : Kinds
journal_alone = record {
  spine = false;
  leaves = None;
  flight = false;
  buckets = false;
  journal = true;
  cache = false;
  backing = false;
}

-- the cache device too
abbrev pub journal_and_cache : Kinds
journal_and_cache = record journal_alone { cache = true }

-- ---- deeds

-- the entry that a journal gives, in which keys wait, was sealed, written and made durable
pub record IsEntry (ds : List Deed) : Type 0 where
  pub journal : Journal
  pub waits : journal.waiting ≢ []
  pub sealed : Sealed
  pub behind : Journal
  pub entry : IsSealed journal journal.heads sealed behind
  pub put : IsPut journal sealed ds

-- or no key waited, and nothing was done
abbrev pub AreSynced : List Deed → Type 0
AreSynced ds = (ds ≡ []) ⊎ IsEntry ds

-- of the journal that gave the entry
abbrev pub OfEntry : (ds : List Deed) → AreSynced ds → (Journal → Type 0) → Type 0
OfEntry ds (inl none) P = Unit {0}
OfEntry ds (inr entry) P = P entry.journal

-- a journal with such buckets isn't on a device of so many sectors
pub record IsOutside (sectors : ℕ) : Type 0 where
  pub journal : Journal
  pub outside : sectors < journal.ring.geometry.bucket * journal.ring.geometry.nbuckets

-- How far it came that was refused: an entry of which one of the device's calls failed, or that was
-- cut off; where memory was missed, or the journal is outside, nothing.
abbrev pub IsSyncCut : ℕ → FlushError → List Deed → Type 0
IsSyncCut sectors (flush.Fault device) ds = (j : Journal) × IsCut (step.Fault device) j ds
IsSyncCut sectors (flush.Halted device) ds = (j : Journal) × IsCut (step.Halted device) j ds
IsSyncCut sectors flush.Memory ds = ds ≡ []
IsSyncCut sectors flush.Outside ds = (ds ≡ []) × IsOutside sectors

-- of the journal that gave what was cut off
abbrev pub OfCut : (sectors : ℕ) (e : FlushError) (ds : List Deed) → IsSyncCut sectors e ds
    → (Journal → Type 0) → Type 0
OfCut sectors (flush.Fault device) ds cut P = P cut.0
OfCut sectors (flush.Halted device) ds cut P = P cut.0
OfCut sectors flush.Memory ds cut P = Unit {0}
OfCut sectors flush.Outside ds cut P = Unit {0}

-- the device that is named had halted the run
abbrev pub IsHaltOf : FlushError → List Event → Type 0
IsHaltOf (flush.Halted device) es = halt_of es ≡ Some device
IsHaltOf e es = Unit {0}

module _ {C B : Type 0} (cache_facts : C → DiskFacts) (backing_facts : B → DiskFacts) where
  -- The journal stood for the run behind some deeds of the seat. So the keys were those that waited,
  -- and the entry names what the newest one named.
  pub record StoodBehind (v : View cache_facts backing_facts) (j : Journal) : Type 0 where
    pub at : View cache_facts backing_facts
    pub before : List Deed
    pub went : HasDone cache_facts backing_facts before v at
    pub stands : IsJournal j (world cache_facts backing_facts at)

  pub record HasSynced (v w : View cache_facts backing_facts) : Type 0 where
    pub deeds : List Deed
    pub are : AreSynced deeds
    pub stood : OfEntry deeds are (StoodBehind v)
    pub done : HasDone cache_facts backing_facts deeds v w

  pub record HasNotSynced (sectors : ℕ) (e : FlushError)
      (v w : View cache_facts backing_facts) : Type 0 where
    pub deeds : List Deed
    pub cut : IsSyncCut sectors e deeds
    pub stood : OfCut sectors e deeds cut (StoodBehind v)
    pub halt : IsHaltOf e w.seen
    pub done : HasDone cache_facts backing_facts deeds v w
