-- What requests promise, by the deeds of their seat.
use Rattle.std.specs.Prelude.{◌≡◌, ◌+◌, ◌<◌, ◌≤◌, List, ◌++◌}
use Rattle.bc_model.specs.Sector.{Value}
use Rattle.bc_model.specs.Pieces.{Piece, pieces, piece_of, ServedUpTo}
use Rattle.bc_disk.specs.Disk.{DiskFacts}
use Rattle.bc_events.specs.declared.event.LineNumber.{LineNumber}
use Rattle.bc_events.specs.declared.event.Deed.{Deed}
use Rattle.bc_deed.specs.bc_hand.Seats.{View}
use Rattle.bc_deed.specs.Flushed.{HasDone}
use Rattle.bc_job.specs.Asked.{line_of}
use Rattle.bc_job.specs.Deeds.{IsHaltOf, AreReadDeeds, ReadStop, writes_deeds, WriteStop, flush_deeds, FlushStop}
use Rattle.bc_job.specs.declared.error.RequestError.{RequestError}
use Rattle.bc_job.specs.declared.error.RequestError.TheVariants as request
use Rattle.bc_job.specs.declared.job.Job.{Job}

abbrev pub IsInside : Job → Type 0
IsInside job = job.first + job.count ≤ job.size

abbrev pub IsOutside : Job → Type 0
IsOutside job = job.size < job.first + job.count

-- the first of these where the request was refused as out of range, and else the second
abbrev pub WhereOutside : RequestError → Type 0 → Type 0 → Type 0
WhereOutside request.OutOfRange Outside Stopped = Outside
WhereOutside (request.Fault device) Outside Stopped = Stopped
WhereOutside (request.Halted device) Outside Stopped = Stopped
WhereOutside request.Memory Outside Stopped = Stopped

-- these deeds are a refused read of the job: those of the pieces before the refused one, and what
-- was done of that
pub record IsRefusedRead (error : RequestError) (job : Job) (ds : List Deed) : Type 0 where
  pub served : List Piece
  pub refused : Piece
  pub up_to : ServedUpTo job.first job.count served refused
  pub values : List Value
  pub before : List Deed
  pub last : List Deed
  pub reads : AreReadDeeds (line_of job) served values before
  pub stop : ReadStop error refused.first refused.count last
  pub deeds : ds ≡ before ++ last

-- the same of a write of these values
pub record IsRefusedWrite (error : RequestError) (job : Job) (values : List Value) (ds : List Deed)
    : Type 0 where
  pub served : List Piece
  pub refused : Piece
  pub up_to : ServedUpTo job.first job.count served refused
  pub last : List Deed
  pub stop : WriteStop error job.force (line_of job) refused.first
      (piece_of job.first values refused) last
  pub deeds : ds ≡ writes_deeds job.force (line_of job) job.first values served ++ last

module _ {C B : Type 0} (cache_facts : C → DiskFacts) (backing_facts : B → DiskFacts) where
  -- what the seat did is so, and if it was a halt that stopped it, that was one
  abbrev pub HasStoppedBy : RequestError → (List Deed → Type 0) → View cache_facts backing_facts
      → View cache_facts backing_facts → Type 0
  HasStoppedBy error Is v w = IsHaltOf error w.seen
      × ((ds : List Deed) × Is ds × HasDone cache_facts backing_facts ds v w)

  -- a read was answered with these values
  abbrev pub HasRead : Job → List Value → View cache_facts backing_facts
      → View cache_facts backing_facts → Type 0
  HasRead job values v w = IsInside job × ((ds : List Deed)
      × AreReadDeeds (line_of job) (pieces job.first job.count) values ds
      × HasDone cache_facts backing_facts ds v w)

  abbrev pub HasNotRead : RequestError → Job → View cache_facts backing_facts
      → View cache_facts backing_facts → Type 0
  HasNotRead error job v w = WhereOutside error (IsOutside job × (w ≡ v))
      (IsInside job × HasStoppedBy error (IsRefusedRead error job) v w)

  -- a write of these values was acknowledged
  abbrev pub HasWritten : Job → List Value → View cache_facts backing_facts
      → View cache_facts backing_facts → Type 0
  HasWritten job values v w = IsInside job × HasDone cache_facts backing_facts
      (writes_deeds job.force (line_of job) job.first values (pieces job.first job.count)) v w

  abbrev pub HasNotWritten : RequestError → Job → List Value → View cache_facts backing_facts
      → View cache_facts backing_facts → Type 0
  HasNotWritten error job values v w = WhereOutside error (IsOutside job × (w ≡ v))
      (IsInside job × HasStoppedBy error (IsRefusedWrite error job values) v w)

  -- a flush was acknowledged
  abbrev pub HasFlushedFor : LineNumber → View cache_facts backing_facts
      → View cache_facts backing_facts → Type 0
  HasFlushedFor of v w = HasDone cache_facts backing_facts (flush_deeds of) v w

  abbrev pub HasNotFlushed : RequestError → LineNumber → View cache_facts backing_facts
      → View cache_facts backing_facts → Type 0
  HasNotFlushed error of v w = HasStoppedBy error (FlushStop error of) v w
