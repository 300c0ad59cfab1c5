-- What the commands that make and show a pair leave.
use Rattle.std.specs.Prelude.{◌≡◌, ◌⊎◌, Bool, Result, Ok, Err, OnOk, IfOk, IfErr, String, string_bytes}
use Rattle.std.specs.declared.alloc.Global.{Global}
use Rattle.bc_disk.specs.Disk.{DiskFacts, IsCounted}
use Rattle.bc_disk.specs.Stream.{StreamFacts}
use Rattle.bc_output.specs.Message.{message_text}
use Rattle.bc_output.specs.declared.status.Status.{Status}
use Rattle.bc_output.specs.declared.status.Status.TheVariants as statuses
use Rattle.bc_output.specs.Put.{Takes, IsWriteFault}
use Rattle.bc_output.specs.declared.put.WriteFault.{WriteFault}
use Rattle.bc_pair.specs.Causes.{AdoptLeaves, Adopts, AreKept, BackingFirst, FaultRose, Formats, IsAdoptCause, IsFormatCause, IsShowCause, KeepsOthers, UnlessFault, good}
use Rattle.bc_pair.specs.Found.{FindsAdopted, FindsNew}
use Rattle.bc_pair.specs.declared.error.PairError.{PairError}
use Rattle.bc_pair.specs.declared.pair.NewPair.{NewPair}
use Rattle.bc_check.specs.Calls.{BothKept, CountsFault, EndsAlone, EndsAtSuper, NoneFailed}
use Rattle.bc_check.specs.Text.{Reports}
use Rattle.bc_check.specs.Verdict.{IsCheckCause}
use Rattle.bc_check.specs.declared.text.ReportText.{ReportText}
use Rattle.bc_check.specs.declared.verdict.CheckError.{CheckError}
use Rattle.bc_replay.specs.Causes.{OfHeld}
use Rattle.bc_super.specs.Reading.{ReadsCache, ReadsSuper}
use Rattle.bc_super.specs.Show.{IsShown}
use Rattle.bc_super.specs.Super.{data_sectors}
use Rattle.bc_super.specs.declared.backing.BackingSuper.{BackingSuper}
use Rattle.bc_super.specs.declared.cache.CacheSuper.{CacheSuper}
use Rattle.bc_top.specs.Ended.{IsPutOf}
use Rattle.bc_top.specs.Stops.{check_stop, message_of, pair_stop, status_of, verdict_status}

-- ---- how they end

-- with the status and the message of the refusal
abbrev pub IsStopped : PairError → Status → StreamFacts → StreamFacts → Type 0
IsStopped e status old new = (status ≡ status_of (pair_stop e))
    × IsPutOf (message_text (message_of (pair_stop e))) old new

-- a command that prints nothing of its own
abbrev pub EndsSilently : Result (Unit {0}) PairError → Status → StreamFacts → StreamFacts → Type 0
EndsSilently (Ok _) status old new = (status ≡ statuses.Done) × (new ≡ old)
EndsSilently (Err e) status old new = IsStopped e status old new

-- A command that prints a text: the sink took it whole, or a put of it failed or took nothing.
abbrev pub EndsPrinting : Result (String Global) PairError → Status → StreamFacts → StreamFacts
    → Type 0
EndsPrinting (Ok text) status old new =
    ((status ≡ statuses.Done) × Takes (string_bytes text) old new)
    ⊎ ((status ≡ statuses.Sink)
    × ((cause : WriteFault) × IsWriteFault cause (string_bytes text) old new))
EndsPrinting (Err e) status old new = IsStopped e status old new

-- A command that tells a verdict: the sink took the text whole, and the status is the verdict's;
-- or a put of it failed or took nothing.
abbrev pub EndsChecking : Result ReportText CheckError → Status → StreamFacts → StreamFacts → Type 0
EndsChecking (Ok report) status old new =
    ((status ≡ verdict_status report.verdict) × Takes (string_bytes report.text) old new)
    ⊎ ((status ≡ statuses.Sink)
    × ((cause : WriteFault) × IsWriteFault cause (string_bytes report.text) old new))
EndsChecking (Err e) status old new = (status ≡ status_of (check_stop e))
    × IsPutOf (message_text (message_of (check_stop e))) old new

-- ---- the commands

module _ {C B : Type 0} (cache_facts : C → DiskFacts) (backing_facts : B → DiskFacts)
    (status : Status) (cache cache' : C) (backing backing' : B) (old new : StreamFacts) where
  -- a new pair was made, or it was refused or a device failed
  pub record HasFormatted (p : NewPair) : Type 0 where
    pub answer : Result (Unit {0}) PairError
    pub written : Formats cache_facts backing_facts p answer cache cache' backing backing'
    pub found : OnOk answer (FindsNew p (cache_facts cache).sectors
        (cache_facts cache') (backing_facts backing'))
    pub cause : IfErr answer (λ e. IsFormatCause p e (cache_facts cache).sectors
        (backing_facts backing).sectors)
    pub untouched : IfErr answer (λ e. UnlessFault e ((cache' ≡ cache) × (backing' ≡ backing)))
    pub others : KeepsOthers (backing_facts backing) (backing_facts backing')
    pub faults : IfErr answer (λ e. FaultRose e (cache_facts cache) (cache_facts cache')
        (backing_facts backing) (backing_facts backing'))
    pub ends : EndsSilently answer status old new

  -- the pair that stood there was taken into use, or it was refused or a device failed
  pub record HasAdopted : Type 0 where
    pub answer : Result (Unit {0}) PairError
    pub written :
        OnOk answer (Adopts cache_facts backing_facts (Ok tt) cache cache' backing backing')
    pub found : OnOk answer (FindsAdopted (cache_facts cache) (cache_facts cache')
        (backing_facts backing) (backing_facts backing'))
    pub cause : IfErr answer (λ e. IsAdoptCause e (cache_facts cache) (backing_facts backing))
    pub order : IfErr answer (λ e. BackingFirst e cache cache' (backing_facts backing))
    pub leaves :
        IfErr answer (λ e. AdoptLeaves cache_facts backing_facts e cache cache' backing backing')
    pub others : KeepsOthers (backing_facts backing) (backing_facts backing')
    pub faults : IfErr answer (λ e. FaultRose e (cache_facts cache) (cache_facts cache')
        (backing_facts backing) (backing_facts backing'))
    pub ends : EndsSilently answer status old new

  -- nothing was written, and what both superblocks say was printed, or they were refused or a
  -- device failed
  pub record HasShown : Type 0 where
    pub answer : Result (String Global) PairError
    pub shown : IfOk answer (λ text. (b : BackingSuper) × ReadsSuper (backing_facts backing) b
        × ((c : CacheSuper) × ReadsCache (cache_facts cache) c
        × IsShown c b (data_sectors (backing_facts backing).sectors b) (string_bytes text)))
    pub cause : IfErr answer (λ e. IsShowCause e (cache_facts cache) (backing_facts backing))
    pub order : IfErr answer (λ e. BackingFirst e cache cache' (backing_facts backing))
    pub counted : OnOk answer (IsCounted good (cache_facts cache) (cache_facts cache')
        × IsCounted good (backing_facts backing) (backing_facts backing'))
    pub kept : AreKept (cache_facts cache) (cache_facts cache')
        (backing_facts backing) (backing_facts backing')
    pub faults : IfErr answer (λ e. FaultRose e (cache_facts cache) (cache_facts cache')
        (backing_facts backing) (backing_facts backing'))
    pub ends : EndsPrinting answer status old new

  -- nothing was written, and the pair's verdict was told, and what its buckets hold, where that is
  -- asked for and it is sound; or it was refused or a device failed
  pub record HasChecked (list : Bool) : Type 0 where
    pub answer : Result ReportText CheckError
    pub reports : IfOk answer (λ r. OfHeld (λ p. Reports list p r.verdict (string_bytes r.text))
        (cache_facts cache) (backing_facts backing))
    pub cause : IfErr answer (IsCheckCause (cache_facts cache) (backing_facts backing))
    pub supers : IfErr answer (EndsAtSuper (cache_facts cache) (cache_facts cache')
        (backing_facts backing) (backing_facts backing'))
    pub alone : IfOk answer (λ r. EndsAlone (cache_facts cache) (cache_facts cache')
        (backing_facts backing) (backing_facts backing') r.verdict)
    pub kept : BothKept (cache_facts cache) (cache_facts cache')
        (backing_facts backing) (backing_facts backing')
    pub faults : IfErr answer (λ e. CountsFault e (cache_facts cache) (cache_facts cache')
        (backing_facts backing) (backing_facts backing'))
    pub good : OnOk answer (NoneFailed (cache_facts cache) (cache_facts cache')
        (backing_facts backing) (backing_facts backing'))
    pub ends : EndsChecking answer status old new
