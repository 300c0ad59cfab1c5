-- What a seat has done that made a full trace, and where it came no further.
use Rattle.std.specs.Prelude.{◌≡◌, ◌⊎◌, ℕ, ◌≤◌, true, false, List, [], ◌∷◌, ◌++◌, All, Option, Some, None}
use Rattle.bc_disk.specs.Disk.{DiskFacts}
use Rattle.bc_disk.specs.declared.disk.Device.{Device}
use Rattle.bc_events.specs.Columns.{halt_of}
use Rattle.bc_events.specs.declared.event.Deed.{Deed}
use Rattle.bc_events.specs.declared.event.Deed.TheVariants as deed
use Rattle.bc_events.specs.declared.event.Event.{Event}
use Rattle.bc_events.specs.declared.event.Failure.TheVariants as failure
use Rattle.bc_events.specs.declared.event.MarkForm.TheVariants as mark
use Rattle.bc_events.specs.declared.event.Written.TheVariants as written
use Rattle.bc_flush.specs.Sync.{HasNotSynced}
use Rattle.bc_flush.specs.bc_fetch.Fetch.{HasStoppedAt}
use Rattle.bc_flush.specs.bc_fetch.declared.error.LeafError.{LeafError}
use Rattle.bc_flush.specs.declared.error.FlushError.{FlushError}
use Rattle.bc_leaf_walk.specs.Steps.{ComesNext, HasLeafAndBuckets}
use Rattle.bc_leaf_walk.specs.bc_deed.Asked.{IsHaltedOr, size_of}
use Rattle.bc_leaf_walk.specs.bc_deed.Flushed.{HasDone}
use Rattle.bc_leaf_walk.specs.bc_hand.Seats.{Kinds, StandIn, View, world}
use Rattle.bc_leaf_walk.specs.bc_hand.declared.error.StepError.{StepError}
use Rattle.bc_leaf_walk.specs.bc_hand.declared.error.StepError.TheVariants as steps
use Rattle.bc_leaf_walk.specs.bc_hand.declared.hand.Hand.{Hand}
use Rattle.bc_journal.specs.Journal.{Journal}
use Rattle.bc_leaf_walk.specs.bc_machine.World.{AreBuckets}
use Rattle.bc_leaf_walk.specs.bc_machine.declared.part.BucketsPart.{BucketsPart}
use Rattle.bc_leaf_walk.specs.bc_mark.Steps.{IsOver}
use Rattle.bc_trace.specs.declared.error.TraceError.{TraceError}
use Rattle.bc_trace.specs.declared.error.TraceError.TheVariants as error

-- ---- what is in hand

-- the buckets and the journal are, and nothing else
abbrev pub buckets_and_journal : Kinds
buckets_and_journal = record {
  spine = false;
  leaves = None;
  flight = false;
  buckets = true;
  journal = true;
  cache = false;
  backing = false;
}

-- the cache device too
abbrev pub all_three : Kinds
all_three = record buckets_and_journal { cache = true }

-- the journal is in hand, nothing waits in it, and no entry of it is sealed
abbrev pub IsSettled : {C B : Type 0} → Hand C B → Type 0
IsSettled h = (j : Journal) × (h.journal ≡ Some j) × (j.waiting ≡ []) × (j.sealed ≡ None)

-- ---- deeds

-- A deed of a trace before its end: the round begins, a node is read, a leaf is walked, an entry that
-- names what the one before does is put; a call of the cache device for these failed; or the round is
-- given up. No key comes or goes by it, the tree doesn't change, and no bucket is taken.
abbrev pub IsOfTrace : Deed → Type 0
IsOfTrace (deed.Mark mark.Begin) = Unit {0}
IsOfTrace (deed.Mark (mark.Walk leaf)) = Unit {0}
IsOfTrace (deed.Mark mark.Drop) = Unit {0}
IsOfTrace (deed.CacheRead at None values) = Unit {0}
IsOfTrace (deed.Seal last_seq bucket rest None None) = Unit {0}
IsOfTrace deed.CacheBarrier = Unit {0}
IsOfTrace (deed.CacheWrite at written.Entry values) = Unit {0}
IsOfTrace deed.Sealed = Unit {0}
IsOfTrace (deed.DeviceFault (failure.Read device)) = Unit {0}
IsOfTrace (deed.DeviceFault (failure.Barrier device)) = Unit {0}
IsOfTrace (deed.DeviceFault (failure.CacheWrite at written.Entry values)) = Unit {0}
IsOfTrace d = ⊥

-- ---- want of memory

-- What a seat answers that missed memory, has seen these events and has heard of this halt, or of none:
-- a halt comes first.
abbrev pub IsMissed : (heard : Option Device) → (seen : List Event) → StepError → Type 0
IsMissed None seen answer = answer ≡ steps.Memory
IsMissed (Some device) seen answer =
    (answer ≡ steps.Halted device) × (halt_of seen ≡ Some device)

module _ {C B : Type 0} (cache_facts : C → DiskFacts) (backing_facts : B → DiskFacts) where
  -- a device had halted the run; or memory lacked, and the seat had heard of no halt
  pub record IsHaltOrMemory (e : StepError) (w : View cache_facts backing_facts) : Type 0 where
    pub halt : IsHaltedOr e w.seen
    pub memory : e ≡ steps.Memory → w.heard ≡ None

  -- some deeds of a trace before its end
  pub record HasGone (v w : View cache_facts backing_facts) : Type 0 where
    pub deeds : List Deed
    pub are : All IsOfTrace deeds
    pub done : HasDone cache_facts backing_facts deeds v w

  -- The trace was made: its last deed is that the round ended, by which each bucket that wasn't
  -- touched since it began got what the walk over all leaves found.
  pub record HasTraced (v w : View cache_facts backing_facts) : Type 0 where
    pub deeds : List Deed
    pub are : All IsOfTrace deeds
    pub done : HasDone cache_facts backing_facts (deeds ++ deed.Mark mark.End ∷ []) v w
    pub old : BucketsPart
    pub new : BucketsPart
    pub over : IsOver old new

  -- ---- where it came no further

  -- buckets in which a round was open
  pub record HadRound (v : View cache_facts backing_facts) : Type 0 where
    pub part : BucketsPart
    pub stood : AreBuckets part (world cache_facts backing_facts v)
    pub going : part.round.going ≡ true

  -- a leaf that doesn't begin where an open round has come to, or no round was open
  pub record HadLeafElsewhere (v : View cache_facts backing_facts) : Type 0 where
    pub hand : Hand C B
    pub stood : StandIn cache_facts backing_facts hand (world cache_facts backing_facts v)
    pub number : ℕ
    pub both : HasLeafAndBuckets hand number
    pub apart : ¬ (ComesNext both.part both.leaf.cached.leaf)

  -- an open round that hasn't come behind each sector of the data, or no round was open
  pub record HadSectorsLeft (v : View cache_facts backing_facts) : Type 0 where
    pub part : BucketsPart
    pub stood : AreBuckets part (world cache_facts backing_facts v)
    pub apart : ¬ ((part.round.going ≡ true)
        × (size_of cache_facts backing_facts v.run.start ≤ part.round.next))

  -- The seat had no leaf for the next sector; the journal wasn't made durable. The rest was done
  -- before.
  pub record HadNoLeaf (e : LeafError) (v w : View cache_facts backing_facts) : Type 0 where
    pub at : View cache_facts backing_facts
    pub before : HasGone v at
    pub first : ℕ
    pub stopped : HasStoppedAt cache_facts backing_facts first 1 e at w

  pub record HadNoEntry (sectors : ℕ) (e : FlushError) (v w : View cache_facts backing_facts) : Type 0 where
    pub at : View cache_facts backing_facts
    pub before : HasGone v at
    pub stopped : HasNotSynced cache_facts backing_facts sectors e at w

  -- why it came no further than that, over a cache device of so many sectors
  abbrev pub IsCause : ℕ → TraceError → View cache_facts backing_facts
      → View cache_facts backing_facts → Type 0
  IsCause sectors error.Open v w = HadRound w × HasGone v w
  IsCause sectors error.Moved v w = (HadLeafElsewhere w ⊎ HadSectorsLeft w) × HasGone v w
  IsCause sectors (error.Step e) v w = IsHaltOrMemory e w × HasGone v w
  IsCause sectors (error.Leaf e) v w = HadNoLeaf e v w
  IsCause sectors (error.Journal e) v w = HadNoEntry sectors e v w

  -- some deeds were done, and no more, for this cause
  pub record HasStopped (sectors : ℕ) (e : TraceError) (v w : View cache_facts backing_facts) :
      Type 0 where
    pub at : View cache_facts backing_facts
    pub cause : IsCause sectors e v at
    pub then : HasDone cache_facts backing_facts [] at w

  -- the round was given up, unless the run was halted, there was no memory for that, or none was open
  pub record GivesUp (v w : View cache_facts backing_facts) : Type 0 where
    pub deeds : List Deed
    pub are : (deeds ≡ []) ⊎ (deeds ≡ deed.Mark mark.Drop ∷ [])
    pub done : HasDone cache_facts backing_facts deeds v w

  pub record HasNotTraced (sectors : ℕ) (e : TraceError) (v w : View cache_facts backing_facts) :
      Type 0 where
    pub at : View cache_facts backing_facts
    pub stopped : HasStopped sectors e v at
    pub given_up : GivesUp at w
