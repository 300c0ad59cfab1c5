-- What a request asks of its seat.
use Rattle.std.specs.Prelude.{◌≡◌, ◌+◌, ◌<◌, ◌≤◌, ◌^◌, true}
use Rattle.bc_disk.specs.Disk.{DiskFacts}
use Rattle.bc_parts.specs.Seat.{PartsView}
use Rattle.bc_events.specs.declared.event.LineNumber.{LineNumber}
use Rattle.bc_deed.specs.bc_machine.Plain.{worker_of}
use Rattle.bc_deed.specs.bc_machine.World.{are_plain}
use Rattle.bc_deed.specs.bc_machine.declared.part.CorePart.{CorePart}
use Rattle.bc_deed.specs.bc_hand.Seats.{View, Works, empty, note}
use Rattle.bc_deed.specs.Asked.{size_of}
use Rattle.bc_job.specs.declared.job.Job.{Job}
use Rattle.bc_job.specs.declared.stock.Stock.{Stock}

abbrev pub line_of : Job → LineNumber
line_of job = record { worker = job.worker; line = job.line }

-- the range is of some sectors, and its end is a number
pub record IsRange (job : Job) : Type 0 where
  pub some : 1 ≤ job.count
  pub end : job.first + job.count < 2 ^ 64

module _ {C B : Type 0} (cache_facts : C → DiskFacts) (backing_facts : B → DiskFacts) where
  -- a seat of this run, which is one over the backing device alone, that holds no part and no claim
  pub record IsIdle (p : PartsView (CorePart C B)) (v : View cache_facts backing_facts)
      : Type 0 where
    pub works : Works cache_facts backing_facts p v empty
    pub plain : are_plain cache_facts backing_facts p.run.start ≡ true
    pub unclaimed : (note cache_facts backing_facts v).range.count ≡ 0

  -- the same of a seat with this stock: no part lies in its hand, and it has the room that is told
  pub record IsReady (p : PartsView (CorePart C B)) (v : View cache_facts backing_facts)
      (s : Stock C B) : Type 0 where
    pub works : Works cache_facts backing_facts p v s.hand
    pub free : s.hand ≡ empty
    pub room : s.room ≤ v.promises
    pub plain : are_plain cache_facts backing_facts p.run.start ≡ true
    pub unclaimed : (note cache_facts backing_facts v).range.count ≡ 0

  -- it is of the worker that the line names, and the job tells how many sectors the data are
  pub record IsFor (job : Job) (v : View cache_facts backing_facts) : Type 0 where
    pub worker : worker_of v.first ≡ job.worker
    pub size : job.size ≡ size_of cache_facts backing_facts v.run.start
