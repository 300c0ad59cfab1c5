-- What it is that a seat has answered a line.
use Rattle.std.specs.Prelude.{ℕ, Bool, true, false, List}
use Rattle.bc_model.specs.Values.{patterns}
use Rattle.bc_model.specs.declared.history.Entry.{Entry}
use Rattle.bc_disk.specs.Disk.{DiskFacts}
use Rattle.bc_events.specs.declared.event.Deed.{Deed}
use Rattle.bc_plain_laws.specs.bc_hand.Seats.{View}
use Rattle.bc_job.specs.bc_deed.Flushed.{HasDone}
use Rattle.bc_job.specs.Asked.{line_of}
use Rattle.bc_job.specs.declared.job.Job.{Job}
use Rattle.bc_script.specs.Served.{ServesFlush, ServesForced, ServesLine, ServesRead, ServesWrite}
use Rattle.bc_script.specs.declared.answer.Answer.{Answer}
use Rattle.bc_script.specs.declared.line.Line.{Line}
use Rattle.bc_serve.specs.Causes.{CallsBacking, IsCaused, entries_by}
use Rattle.bc_serve.specs.Deeds.{AreDeedsFor, AreFlushingDeeds, AreReadingDeeds, AreWritingDeeds}

-- a line of writing, forced or not
abbrev pub WritingServes : Bool → ℕ → ℕ → ℕ → ℕ → ℕ → ℕ → Answer → List Entry → Type 0
WritingServes false size worker number first count stamp answer entries =
    ServesWrite size worker number first count stamp answer entries
WritingServes true size worker number first count stamp answer entries =
    ServesForced size worker number first count stamp answer entries

module _ {C B : Type 0} (cache_facts : C → DiskFacts) (backing_facts : B → DiskFacts) where
  -- The seat did just what such an answer takes, deed by deed; that serves the line, and is why it
  -- is answered so.
  pub record HasAnswered (Are : Answer → List Deed → Type 0) (Serves : Answer → List Entry → Type 0)
      (answer : Answer) (v w : View cache_facts backing_facts) : Type 0 where
    pub deeds : List Deed
    pub done : HasDone cache_facts backing_facts deeds v w
    pub did : Are answer deeds
    pub serves : Serves answer (entries_by deeds)
    pub caused : IsCaused answer w.seen deeds
    pub calls : CallsBacking deeds

  -- a line that writes the patterns of the stamp
  abbrev pub HasAnsweredWrite : Job → ℕ → Answer → View cache_facts backing_facts
      → View cache_facts backing_facts → Type 0
  HasAnsweredWrite job stamp answer v w = HasAnswered
      (AreWritingDeeds job (patterns stamp job.first job.count))
      (WritingServes job.force job.size job.worker job.line job.first job.count stamp) answer v w

  abbrev pub HasAnsweredRead : Job → Answer → View cache_facts backing_facts
      → View cache_facts backing_facts → Type 0
  HasAnsweredRead job answer v w = HasAnswered (AreReadingDeeds job)
      (ServesRead job.size job.worker job.line job.first job.count) answer v w

  abbrev pub HasAnsweredFlush : Job → Answer → View cache_facts backing_facts
      → View cache_facts backing_facts → Type 0
  HasAnsweredFlush job answer v w = HasAnswered (AreFlushingDeeds (line_of job))
      (ServesFlush job.worker job.line) answer v w

  -- the line of this number, over a device of this size
  abbrev pub HasAnsweredLine : ℕ → ℕ → Line → Answer → View cache_facts backing_facts
      → View cache_facts backing_facts → Type 0
  HasAnsweredLine size number l answer v w = HasAnswered (AreDeedsFor size number l)
      (ServesLine size number l) answer v w
