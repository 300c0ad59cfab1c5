-- The ring is turned: which entries have to go, what was done, and which aren't needed then.
use Rattle.std.specs.Prelude.{◌≡◌, ◌⊎◌, ℕ, ◌+◌, ◌^◌, ◌≤◌, nat_lt, if◌then◌else◌, List, [], Result, Ok, Err, Option, Some, None, slice_index}
use Rattle.bc_disk.specs.Disk.{DiskFacts}
use Rattle.bc_entry.specs.Put.{HasPut}
use Rattle.bc_entry.specs.Seal.{CanSeal}
use Rattle.bc_disk.specs.declared.disk.Device.{Device}
use Rattle.bc_events.specs.Columns.{halt_of}
use Rattle.bc_events.specs.Run.{State}
use Rattle.bc_events.specs.declared.event.Event.{Event}
use Rattle.bc_flush.specs.Refusals.{refusal}
use Rattle.bc_flush.specs.Sync.{HasNotSynced, HasSynced}
use Rattle.bc_flush.specs.bc_deed.Flushed.{HasDone}
use Rattle.bc_flush.specs.bc_hand.Seats.{View, core, world}
use Rattle.bc_flush.specs.bc_hand.declared.error.StepError.{StepError}
use Rattle.bc_flush.specs.bc_hand.declared.hand.Hand.{Hand}
use Rattle.bc_flush.specs.bc_machine.World.{FromEach, IsJournal, Origin}
use Rattle.bc_flush.specs.bc_machine.declared.part.CorePart.{CorePart}
use Rattle.bc_flush.specs.declared.error.FlushError.{FlushError}
use Rattle.bc_flush.specs.declared.error.FlushError.TheVariants as flush
use Rattle.bc_journal.specs.Journal.{HasRoom, Journal, number_of}
use Rattle.bc_journal.specs.Ring.{following}
use Rattle.bc_parts.specs.Seat.{PartsView}
use Rattle.bc_seats.specs.Seats.{Waited}
use Rattle.bc_turn.specs.Part.{HasFailed, HasWrittenSets}
use Rattle.bc_turn.specs.Parts.{WasLeft}
use Rattle.bc_turned.specs.declared.answer.NoEntry.{NoEntry}
use Rattle.bc_turned.specs.declared.answer.NoEntry.TheVariants as no
use Rattle.bc_turned.specs.declared.answer.Turned.{Turned}
use Rattle.bc_turned.specs.declared.answer.Turned.TheVariants as turned

-- ---- which entries

abbrev pub greater : ℕ → ℕ → ℕ
greater a b = if nat_lt a b then b else a

abbrev pub lesser : ℕ → ℕ → ℕ
lesser a b = if nat_lt a b then a else b

-- the journal bucket that is begun next
abbrev pub next_bucket : Journal → ℕ
next_bucket j = following j.ring.geometry j.ring.next.bucket

-- the greatest number of an entry in that bucket or in the one behind it
abbrev pub newest_ahead : Journal → ℕ
newest_ahead j = greater (slice_index j.ring.newest (next_bucket j))
    (slice_index j.ring.newest (following j.ring.geometry (next_bucket j)))

-- An entry with keys begins a bucket only where that one and the one behind it are free. So the
-- entries of both have to go, as far as they are durable. This is the number behind them.
abbrev pub low_of : Journal → ℕ
low_of j = lesser (newest_ahead j) j.durable.seq + 1

-- the newest durable entry needs none below: so buckets with older entries alone are free
abbrev pub IsGivenUp : ℕ → Origin → State → Type 0
IsGivenUp low o st = low ≤ st.machine.whole.parts.records.newest.last_seq

-- why there can be no entry: no number is left, or the ring has no place for one
abbrev pub IsNoEntry : NoEntry → Journal → Type 0
IsNoEntry no.Number j = 2 ^ 63 ≤ number_of j
IsNoEntry no.Place j = HasRoom j 0 → ⊥

-- ---- errors

-- What a seat answers to an error, which has seen these events and has heard of this halt, or of none:
-- a halt comes before want of memory.
abbrev pub IsRefusalFor : FlushError → (heard : Option Device) → (seen : List Event) → FlushError
    → Type 0
IsRefusalFor flush.Memory None seen answer = answer ≡ flush.Memory
IsRefusalFor flush.Memory (Some device) seen answer =
    (answer ≡ flush.Halted device) × (halt_of seen ≡ Some device)
IsRefusalFor (flush.Fault device) heard seen answer = answer ≡ flush.Fault device
IsRefusalFor (flush.Halted device) heard seen answer = answer ≡ flush.Halted device
IsRefusalFor flush.Outside heard seen answer = answer ≡ flush.Outside

module _ {C B : Type 0} (cache_facts : C → DiskFacts) (backing_facts : B → DiskFacts) where
  -- The seat waited, and a journal that stood for the run then tells that the entries below this
  -- number have to go.
  pub record HasLooked (low : ℕ) (v w : View cache_facts backing_facts) : Type 0 where
    pub waited : Waited (core cache_facts backing_facts) v w
    pub journal : Journal
    pub stands : IsJournal journal (world cache_facts backing_facts w)
    pub low_is : low ≡ low_of journal

  -- ---- the entry

  -- An entry can be sealed of the journal in hand, and that needs none below, as far as the run is
  -- one from any opening.
  pub record IsReady (low : ℕ) (h : Hand C B) (v : View cache_facts backing_facts) : Type 0 where
    pub journal : Journal
    pub is : h.journal ≡ Some journal
    pub can : CanSeal journal
    pub from : FromEach (world cache_facts backing_facts v) (λ o st. low ≤ journal.needed)

  -- The seat waited, and put an entry that needs none below, of a journal that stood for the run.
  pub record HasGivenUp (low : ℕ) (v w : View cache_facts backing_facts) : Type 0 where
    pub at : View cache_facts backing_facts
    pub before : HasDone cache_facts backing_facts [] v at
    pub journal : Journal
    pub stands : IsJournal journal (world cache_facts backing_facts at)
    pub put : HasPut cache_facts backing_facts journal at w
    pub given : FromEach (world cache_facts backing_facts w) (IsGivenUp low)

  -- There can be none, as a journal tells that stood for the run; and nothing was done.
  pub record HasNoEntry (cause : NoEntry) (v w : View cache_facts backing_facts) : Type 0 where
    pub at : View cache_facts backing_facts
    pub before : HasDone cache_facts backing_facts [] v at
    pub journal : Journal
    pub stands : IsJournal journal (world cache_facts backing_facts at)
    pub why : IsNoEntry cause journal
    pub since : HasDone cache_facts backing_facts [] at w

  abbrev pub HasOrNot : ℕ → Result (Unit {0}) NoEntry → View cache_facts backing_facts
      → View cache_facts backing_facts → Type 0
  HasOrNot low (Ok done) v w = HasGivenUp low v w
  HasOrNot low (Err cause) v w = HasNoEntry cause v w

module _ {C B : Type 0} (cache_facts : C → DiskFacts) (backing_facts : B → DiskFacts)
    (p : PartsView (CorePart C B)) where
  -- ---- behind the keys that waited

  -- Sets were written, of leaves that an entry below held keys of, and then that entry was put.
  pub record HasEmptied (low : ℕ) (v w : View cache_facts backing_facts) : Type 0 where
    pub between : View cache_facts backing_facts
    pub sets : HasWrittenSets cache_facts backing_facts p low v between
    pub put : HasGivenUp cache_facts backing_facts low between w

  -- Or there can be none.
  pub record HasStayed (low : ℕ) (cause : NoEntry) (v w : View cache_facts backing_facts) :
      Type 0 where
    pub between : View cache_facts backing_facts
    pub sets : HasWrittenSets cache_facts backing_facts p low v between
    pub none : HasNoEntry cache_facts backing_facts cause between w

  -- Or a leaf was left, as a seat of this run found it, and no entry was put.
  abbrev pub HasEnded : (sectors low : ℕ) → Turned
      → View cache_facts backing_facts → View cache_facts backing_facts → Type 0
  HasEnded sectors low turned.Done v w = HasEmptied low v w
  HasEnded sectors low (turned.Left left) v w =
      WasLeft cache_facts backing_facts p sectors low v w left
  HasEnded sectors low (turned.NoEntry cause) v w = HasStayed low cause v w

  -- it came no further than to the sets of leaves
  pub record HasNotEmptied (low : ℕ) (e : FlushError) (v w : View cache_facts backing_facts) :
      Type 0 where
    pub step : StepError
    pub step_is : e ≡ refusal step
    pub failed : HasFailed cache_facts backing_facts p low step v w

  -- or to the entry behind these
  pub record HasNotGivenUp (sectors low : ℕ) (e : FlushError)
      (v w : View cache_facts backing_facts) : Type 0 where
    pub between : View cache_facts backing_facts
    pub sets : HasWrittenSets cache_facts backing_facts p low v between
    pub refused : HasNotSynced cache_facts backing_facts sectors e between w

  abbrev pub HasNotEnded : (sectors low : ℕ) → FlushError → View cache_facts backing_facts
      → View cache_facts backing_facts → Type 0
  HasNotEnded sectors low e v w = HasNotEmptied low e v w ⊎ HasNotGivenUp sectors low e v w

  -- ---- the whole turn

  -- It was looked up which entries have to go, the keys that waited became durable, and so the turn
  -- ended. These are all deeds of the seat.
  pub record HasTurned (sectors : ℕ) (answer : Turned) (v w : View cache_facts backing_facts) :
      Type 0 where
    pub low : ℕ
    pub seen_at : View cache_facts backing_facts
    pub looked : HasLooked cache_facts backing_facts low v seen_at
    pub at : View cache_facts backing_facts
    pub synced : HasSynced cache_facts backing_facts seen_at at
    pub ended : HasEnded sectors low answer at w

  -- It came no further than to the keys that wait; or behind them.
  pub record HasNotTurnedBehind (sectors : ℕ) (e : FlushError)
      (v w : View cache_facts backing_facts) : Type 0 where
    pub low : ℕ
    pub seen_at : View cache_facts backing_facts
    pub looked : HasLooked cache_facts backing_facts low v seen_at
    pub at : View cache_facts backing_facts
    pub synced : HasSynced cache_facts backing_facts seen_at at
    pub not_ended : HasNotEnded sectors low e at w

  abbrev pub HasNotTurned : (sectors : ℕ) → FlushError → View cache_facts backing_facts
      → View cache_facts backing_facts → Type 0
  HasNotTurned sectors e v w = HasNotSynced cache_facts backing_facts sectors e v w
      ⊎ HasNotTurnedBehind sectors e v w
