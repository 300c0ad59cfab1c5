-- What the seat of a line does to answer it, deed by deed: each claim that it makes, each call of a
-- device and each entry is among these, in order, and nothing else is.
use Rattle.std.specs.Prelude.{◌≡◌, ℕ, Bool, true, false, List, []}
use Rattle.bc_model.specs.Sector.{Value}
use Rattle.bc_model.specs.Pieces.{pieces}
use Rattle.bc_model.specs.Values.{patterns}
use Rattle.bc_events.specs.declared.event.Deed.{Deed}
use Rattle.bc_events.specs.declared.event.LineNumber.{LineNumber}
use Rattle.bc_job.specs.Asked.{line_of}
use Rattle.bc_job.specs.Deeds.{AreReadDeeds, FlushStop, flush_deeds, writes_deeds}
use Rattle.bc_job.specs.Requests.{IsRefusedRead, IsRefusedWrite, WhereOutside}
use Rattle.bc_job.specs.declared.error.RequestError.{RequestError}
use Rattle.bc_job.specs.declared.job.Job.{Job}
use Rattle.bc_script.specs.declared.answer.Answer.{Answer}
use Rattle.bc_script.specs.declared.answer.Answer.TheVariants.{Done, Runs, Refused}
use Rattle.bc_script.specs.declared.answer.Refusal.{Refusal}
use Rattle.bc_script.specs.declared.line.Action.{Action}
use Rattle.bc_script.specs.declared.line.Action.TheVariants.{Write, ForcedWrite, Read, Flush, Round}
use Rattle.bc_script.specs.declared.line.Line.{Line}
use Rattle.bc_script.specs.declared.line.Line.TheVariants as line
use Rattle.bc_serve.specs.Refusals.{refusal_of}

-- The line was refused as its request was: out of range before anything was done, and else these
-- are what the request had done by then.
abbrev pub AreRefusedDeeds : (RequestError → List Deed → Type 0) → Refusal → List Deed → Type 0
AreRefusedDeeds Stopped why ds = (error : RequestError) × (why ≡ refusal_of error)
    × WhereOutside error (ds ≡ []) (Stopped error ds)

-- of a line that writes these values: each piece was written; or where it was refused each before
-- the refused one, and of that what was done of it
abbrev pub AreWritingDeeds : Job → List Value → Answer → List Deed → Type 0
AreWritingDeeds job values Done ds =
    ds ≡ writes_deeds job.force (line_of job) job.first values (pieces job.first job.count)
AreWritingDeeds job values (Refused why) ds =
    AreRefusedDeeds (λ error. IsRefusedWrite error job values) why ds
AreWritingDeeds job values answer ds = ⊥

-- the same of a line that reads, by the values that are answered
abbrev pub AreReadingDeeds : Job → Answer → List Deed → Type 0
AreReadingDeeds job (Runs at values) ds =
    AreReadDeeds (line_of job) (pieces job.first job.count) values ds
AreReadingDeeds job (Refused why) ds = AreRefusedDeeds (λ error. IsRefusedRead error job) why ds
AreReadingDeeds job answer ds = ⊥

-- of a flush: its beginning, one barrier and its end; or where it was refused as far as it came
abbrev pub AreFlushingDeeds : LineNumber → Answer → List Deed → Type 0
AreFlushingDeeds of Done ds = ds ≡ flush_deeds of
AreFlushingDeeds of (Refused why) ds =
    (error : RequestError) × (why ≡ refusal_of error) × FlushStop error of ds
AreFlushingDeeds of answer ds = ⊥

-- what a line that writes or reads asks for, over a device of this size
abbrev pub job_of : ℕ → LineNumber → ℕ → ℕ → Bool → Job
job_of size of first count force = record {
  worker = of.worker;
  line = of.line;
  first = first;
  count = count;
  size = size;
  force = force;
}

-- of what a line asks for: without a cache there is nothing that a round could do
abbrev pub AreActionDeeds : ℕ → LineNumber → Action → Answer → List Deed → Type 0
AreActionDeeds size of (Write first count stamp) answer ds =
    AreWritingDeeds (job_of size of first count false) (patterns stamp first count) answer ds
AreActionDeeds size of (ForcedWrite first count stamp) answer ds =
    AreWritingDeeds (job_of size of first count true) (patterns stamp first count) answer ds
AreActionDeeds size of (Read first count) answer ds =
    AreReadingDeeds (job_of size of first count false) answer ds
AreActionDeeds size of Flush answer ds = AreFlushingDeeds of answer ds
AreActionDeeds size of (Round round) answer ds = ds ≡ []

-- of the line that has this number in its trace, over a device of this size
abbrev pub AreDeedsFor : ℕ → ℕ → Line → Answer → List Deed → Type 0
AreDeedsFor size number line.Silent answer ds = ds ≡ []
AreDeedsFor size number (line.Request worker phase action) answer ds =
    AreActionDeeds size (record { worker = worker; line = number }) action answer ds
