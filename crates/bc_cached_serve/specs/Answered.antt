-- What it is that a seat has answered a line in a run with a cache.
use Rattle.std.specs.Prelude.{◌≡◌, ℕ, false, List}
use Rattle.bc_serve.specs.bc_deed.Flushed.{HasDone}
use Rattle.bc_disk.specs.Disk.{DiskFacts}
use Rattle.bc_events.specs.declared.event.Deed.{Deed}
use Rattle.bc_events.specs.declared.event.Event.{Event}
use Rattle.bc_events.specs.declared.event.LineNumber.{LineNumber}
use Rattle.bc_serve.specs.bc_hand.Seats.{View}
use Rattle.bc_serve.specs.bc_job.declared.job.Job.{Job}
use Rattle.bc_serve.specs.bc_machine.declared.part.CorePart.{CorePart}
use Rattle.bc_model.specs.declared.history.Entry.{Entry}
use Rattle.bc_parts.specs.Seat.{PartsView}
use Rattle.bc_flush.specs.bc_request.Line.{HasNotReadLine, HasReadLine}
use Rattle.bc_flush.specs.bc_request.declared.error.RequestError.{RequestError}
use Rattle.bc_script.specs.Served.{ServesFlush, ServesLine, ServesPartRead, ServesRead}
use Rattle.bc_script.specs.declared.answer.Answer.{Answer}
use Rattle.bc_script.specs.declared.answer.Answer.TheVariants.{Runs, Refused}
use Rattle.bc_script.specs.declared.line.Action.{Action}
use Rattle.bc_script.specs.declared.line.Action.TheVariants.{Flush, Read}
use Rattle.bc_script.specs.declared.line.Line.{Line}
use Rattle.bc_script.specs.declared.line.Line.TheVariants as line
use Rattle.bc_serve.specs.Causes.{entries_by}
use Rattle.bc_serve.specs.Deeds.{job_of}
use Rattle.bc_cached_serve.specs.Deeds.{AreKeeping, AreReading, AreTurned, IsCaused, IsFlushCaused}
use Rattle.bc_cached_serve.specs.Refusals.{IsRefusalOf, IsUnsound}
use Rattle.bc_cached_serve.specs.Worker.{IsTakenIn, worker_seat}

-- ---- what is asked for

abbrev pub IsReadOrFlush : Action → Type 0
IsReadOrFlush (Read first count) = Unit {0}
IsReadOrFlush Flush = Unit {0}
IsReadOrFlush action = ⊥

-- The line changes no value of a sector: it asks for nothing, to read, or to flush.
abbrev pub KeepsValues : Line → Type 0
KeepsValues line.Silent = Unit {0}
KeepsValues (line.Request worker phase action) = IsReadOrFlush action

-- ---- why a line is answered

-- a line that reads did it by deeds of reading alone
abbrev pub IsReadCaused : Answer → List Event → List Deed → Type 0
IsReadCaused answer seen ds = AreReading ds × IsCaused answer seen ds

abbrev pub IsActionCaused : LineNumber → Action → Answer → List Event → List Deed → Type 0
IsActionCaused of Flush answer seen ds = IsFlushCaused of answer seen ds
IsActionCaused of action answer seen ds = IsReadCaused answer seen ds

abbrev pub IsLineCaused : (number : ℕ) → Line → Answer → List Event → List Deed → Type 0
IsLineCaused number line.Silent answer seen ds = IsCaused answer seen ds
IsLineCaused number (line.Request worker phase action) answer seen ds =
    IsActionCaused (record { worker = worker; line = number }) action answer seen ds

module _ {C B : Type 0} (cache_facts : C → DiskFacts) (backing_facts : B → DiskFacts) where
  -- ---- answers

  -- The seat did just what such an answer takes; that serves the line, and is why it is answered
  -- so.
  pub record HasAnswered (Serves : Answer → List Entry → Type 0)
      (Causes : Answer → List Event → List Deed → Type 0) (Did : Answer → Type 0)
      (answer : Answer) (v w : View cache_facts backing_facts) : Type 0 where
    pub deeds : List Deed
    pub done : HasDone cache_facts backing_facts deeds v w
    pub keeping : AreKeeping deeds
    pub serves : Serves answer (entries_by deeds)
    pub caused : Causes answer w.seen deeds
    pub did : Did answer

  -- the sectors were read, or the request was refused, by a refusal that the answer says
  abbrev pub DidRead : PartsView (CorePart C B) → Job → View cache_facts backing_facts
      → View cache_facts backing_facts → Answer → Type 0
  DidRead p job v w (Runs first values) =
      HasReadLine cache_facts backing_facts p job values v w
  DidRead p job v w (Refused why) = (error : RequestError) × IsRefusalOf error why
      × HasNotReadLine cache_facts backing_facts p error job v w
  DidRead p job v w answer = ⊥

  -- of a flush its cause says all
  abbrev pub DidAction : PartsView (CorePart C B) → (size : ℕ) → LineNumber → Action
      → View cache_facts backing_facts → View cache_facts backing_facts → Answer → Type 0
  DidAction p size of (Read first count) v w answer =
      DidRead p (job_of size of first count false) v w answer
  DidAction p size of Flush v w answer = Unit {0}
  DidAction p size of action v w answer = ⊥

  -- the same of the line that has this number in its trace, over a device of this size
  abbrev pub DidLine : PartsView (CorePart C B) → (size number : ℕ) → Line
      → View cache_facts backing_facts → View cache_facts backing_facts → Answer → Type 0
  DidLine p size number line.Silent v w answer = w ≡ v
  DidLine p size number (line.Request worker phase action) v w answer =
      DidAction p size (record { worker = worker; line = number }) action v w answer

  -- The seat of worker 1 was cut off from v and did so, and was taken in again, by which the one
  -- seat is w.
  pub record HasServed (Serves : Answer → List Entry → Type 0)
      (Causes : Answer → List Event → List Deed → Type 0)
      (Did : View cache_facts backing_facts → View cache_facts backing_facts → Answer → Type 0)
      (answer : Answer) (v w : View cache_facts backing_facts) : Type 0 where
    pub last : View cache_facts backing_facts
    pub answered : HasAnswered Serves Causes (Did (worker_seat cache_facts backing_facts v) last)
        answer (worker_seat cache_facts backing_facts v) last
    pub taken : IsTakenIn cache_facts backing_facts answered.deeds v last w

  abbrev pub HasAnsweredRead : PartsView (CorePart C B) → Job → Answer
      → View cache_facts backing_facts → View cache_facts backing_facts → Type 0
  HasAnsweredRead p job answer v w = HasAnswered
      (ServesRead job.size job.worker job.line job.first job.count) IsReadCaused (DidRead p job v w)
      answer v w

  abbrev pub HasServedRead : PartsView (CorePart C B) → Job → Answer
      → View cache_facts backing_facts → View cache_facts backing_facts → Type 0
  HasServedRead p job answer v w = HasServed
      (ServesRead job.size job.worker job.line job.first job.count) IsReadCaused (DidRead p job)
      answer v w

  abbrev pub HasServedFlush : LineNumber → Answer → View cache_facts backing_facts
      → View cache_facts backing_facts → Type 0
  HasServedFlush of answer v w = HasServed (ServesFlush of.worker of.line) (IsFlushCaused of)
      (λ x y a. Unit {0}) answer v w

  abbrev pub HasServedLine : PartsView (CorePart C B) → (size number : ℕ) → Line → Answer
      → View cache_facts backing_facts → View cache_facts backing_facts → Type 0
  HasServedLine p size number l answer v w = HasServed (ServesLine size number l)
      (IsLineCaused number l) (DidLine p size number l) answer v w

  -- ---- refusals that have no answer

  -- The seat stopped within the line, for such a cause. What it had done of it stands: no call
  -- failed but what was read again from the backing device.
  pub record HasStopped (Serves : List Entry → Type 0) (Did : RequestError → Type 0)
      (why : RequestError) (v w : View cache_facts backing_facts) : Type 0 where
    pub deeds : List Deed
    pub done : HasDone cache_facts backing_facts deeds v w
    pub reading : AreReading deeds
    pub serves : Serves (entries_by deeds)
    pub turned : AreTurned false deeds
    pub unsound : IsUnsound why
    pub did : Did why

  abbrev pub StoppedRead : PartsView (CorePart C B) → Job → View cache_facts backing_facts
      → View cache_facts backing_facts → RequestError → Type 0
  StoppedRead p job v w why = HasNotReadLine cache_facts backing_facts p why job v w

  abbrev pub StoppedAction : PartsView (CorePart C B) → (size : ℕ) → LineNumber → Action
      → View cache_facts backing_facts → View cache_facts backing_facts → RequestError → Type 0
  StoppedAction p size of (Read first count) v w why =
      StoppedRead p (job_of size of first count false) v w why
  StoppedAction p size of action v w why = ⊥

  abbrev pub StoppedLine : PartsView (CorePart C B) → (size number : ℕ) → Line
      → View cache_facts backing_facts → View cache_facts backing_facts → RequestError → Type 0
  StoppedLine p size number line.Silent v w why = ⊥
  StoppedLine p size number (line.Request worker phase action) v w why =
      StoppedAction p size (record { worker = worker; line = number }) action v w why

-- the entries that a stopped line left: those of the pieces before the one that wasn't read
abbrev pub PartAction : (size : ℕ) → LineNumber → Action → List Entry → Type 0
PartAction size of (Read first count) entries =
    ServesPartRead size of.worker of.line first count entries
PartAction size of action entries = ⊥

abbrev pub PartLine : (size number : ℕ) → Line → List Entry → Type 0
PartLine size number line.Silent entries = ⊥
PartLine size number (line.Request worker phase action) entries =
    PartAction size (record { worker = worker; line = number }) action entries

module _ {C B : Type 0} (cache_facts : C → DiskFacts) (backing_facts : B → DiskFacts) where
  abbrev pub HasStoppedRead : PartsView (CorePart C B) → Job → RequestError
      → View cache_facts backing_facts → View cache_facts backing_facts → Type 0
  HasStoppedRead p job why v w = HasStopped cache_facts backing_facts
      (ServesPartRead job.size job.worker job.line job.first job.count)
      (StoppedRead cache_facts backing_facts p job v w) why v w

  -- the seat of worker 1 did, and was taken in again
  pub record HasHalfServed (Serves : List Entry → Type 0)
      (Did : View cache_facts backing_facts → View cache_facts backing_facts → RequestError
      → Type 0) (why : RequestError) (v w : View cache_facts backing_facts) : Type 0 where
    pub last : View cache_facts backing_facts
    pub stopped : HasStopped cache_facts backing_facts Serves
        (Did (worker_seat cache_facts backing_facts v) last) why
        (worker_seat cache_facts backing_facts v) last
    pub taken : IsTakenIn cache_facts backing_facts stopped.deeds v last w

  abbrev pub HasHalfServedRead : PartsView (CorePart C B) → Job → RequestError
      → View cache_facts backing_facts → View cache_facts backing_facts → Type 0
  HasHalfServedRead p job why v w = HasHalfServed
      (ServesPartRead job.size job.worker job.line job.first job.count)
      (StoppedRead cache_facts backing_facts p job) why v w

  abbrev pub HasHalfServedLine : PartsView (CorePart C B) → (size number : ℕ) → Line
      → RequestError → View cache_facts backing_facts → View cache_facts backing_facts → Type 0
  HasHalfServedLine p size number l why v w = HasHalfServed (PartLine size number l)
      (StoppedLine cache_facts backing_facts p size number l) why v w
