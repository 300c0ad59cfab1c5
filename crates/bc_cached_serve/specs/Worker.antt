-- The seat of worker 1: it is cut off from the one seat of a run for each line, and taken in again.
use Rattle.std.specs.Prelude.{◌≡◌, ℕ, ◌≤◌, true, List, [], ◌∷◌, ◌++◌, map}
use Rattle.bc_serve.specs.bc_deed.Flushed.{HasDone}
use Rattle.bc_disk.specs.Disk.{DiskFacts}
use Rattle.bc_events.specs.Run.{State}
use Rattle.bc_events.specs.declared.event.Deed.{Deed}
use Rattle.bc_events.specs.declared.event.Deed.TheVariants as deed
use Rattle.bc_events.specs.declared.event.LineNumber.{LineNumber}
use Rattle.bc_serve.specs.bc_hand.Seats.{View, Works, by, empty, note, world}
use Rattle.bc_serve.specs.bc_hand.declared.error.StepError.{StepError}
use Rattle.bc_serve.specs.bc_machine.World.{FromEach, Origin}
use Rattle.bc_serve.specs.bc_machine.declared.part.CorePart.{CorePart}
use Rattle.bc_parts.specs.Seat.{PartsView}
use Rattle.bc_flush.specs.bc_request.Asked.{IsIdle}
use Rattle.bc_shares.specs.Shares.{books_of}
use Rattle.bc_session.specs.bc_started.First.{HasAll}
use Rattle.bc_cached_serve.specs.Deeds.{IsCutAtEnd, IsCutBefore}

-- ---- what is durable

-- all insertions that have come into the index are
abbrev pub AreAllDurable : Origin → State → Type 0
AreAllDurable o st = (books_of st.machine).index.count ≤ (books_of st.machine).journal.durable

-- those that this seat noted when it began its flush have come in
abbrev pub HaveNoted : ℕ → Origin → State → Type 0
HaveNoted i o st =
    (st.machine.whole.flow.seats i).flush.keys ≤ (books_of st.machine).index.count

module _ {C B : Type 0} (cache_facts : C → DiskFacts) (backing_facts : B → DiskFacts) where
  -- ---- cut off, and taken in

  -- what is left of a seat where the seat of worker 1 was cut off, and that seat
  abbrev pub kept_seat : View cache_facts backing_facts → View cache_facts backing_facts
  kept_seat v = record v { end = 16 }

  abbrev pub worker_seat : View cache_facts backing_facts → View cache_facts backing_facts
  worker_seat v = record v { first = 16; parts = []; promises = 0 }

  -- The seat has all numbers and nothing in hand, and the seat of worker 1 can serve a line. From
  -- each opening all that came into the index is durable: the first entry of the run took all keys,
  -- and no line has brought one.
  pub record IsReady (p : PartsView (CorePart C B)) (v : View cache_facts backing_facts) : Type 0
    where
      pub all : HasAll cache_facts backing_facts v
      pub works : Works cache_facts backing_facts p v empty
      pub worker : IsIdle cache_facts backing_facts p (worker_seat v)
      pub durable : FromEach (world cache_facts backing_facts v) AreAllDurable

  -- The seat of worker 1 was cut off from v, did these deeds until it was o, and was taken in
  -- again, by which the one seat is w. Nothing else happened.
  pub record IsTakenIn (ds : List Deed) (v o w : View cache_facts backing_facts) : Type 0 where
    pub all : HasAll cache_facts backing_facts w
    pub run : w.run ≡ v.run
    pub seen : w.seen ≡ v.seen ++ map (by 16) ds
    pub last : o.seen ≡ w.seen

  -- ---- the steps of a flush

  -- It has begun, and noted how many insertions had come in.
  pub record HasBegun (of : LineNumber) (v w : View cache_facts backing_facts) : Type 0 where
    pub done : HasDone cache_facts backing_facts (deed.FlushFrom of ∷ []) v w
    pub going : (note cache_facts backing_facts w).flush.going ≡ true
    pub its : (note cache_facts backing_facts w).flush.line ≡ of.line
    pub noted : FromEach (world cache_facts backing_facts w) (HaveNoted v.first)

  pub record HasNotBegun (e : StepError) (v w : View cache_facts backing_facts) : Type 0 where
    pub deeds : List Deed
    pub done : HasDone cache_facts backing_facts deeds v w
    pub cut : IsCutBefore e w.seen deeds

  -- It was begun before, and wasn't acknowledged.
  pub record HasNotEnded (e : StepError) (v w : View cache_facts backing_facts) : Type 0 where
    pub deeds : List Deed
    pub done : HasDone cache_facts backing_facts deeds v w
    pub cut : IsCutAtEnd e w.seen deeds
