-- What the seat of a line does to read or to flush in a run with a cache, and how its deeds end.
use Rattle.std.specs.Prelude.{◌≡◌, ◌⊎◌, Bool, true, false, List, [], ◌∷◌, ◌++◌, Some}
use Rattle.bc_disk.specs.declared.disk.Device.{Device}
use Rattle.bc_disk.specs.declared.disk.Device.TheVariants as device
use Rattle.bc_events.specs.Columns.{halt_of}
use Rattle.bc_events.specs.declared.event.Deed.{Deed}
use Rattle.bc_events.specs.declared.event.Deed.TheVariants as deed
use Rattle.bc_events.specs.declared.event.Event.{Event}
use Rattle.bc_events.specs.declared.event.Failure.{Failure}
use Rattle.bc_events.specs.declared.event.Failure.TheVariants as failure
use Rattle.bc_events.specs.declared.event.LineNumber.{LineNumber}
use Rattle.bc_flight.specs.declared.claim.Share.TheVariants.{Shared}
use Rattle.bc_serve.specs.bc_hand.declared.error.StepError.{StepError}
use Rattle.bc_serve.specs.bc_hand.declared.error.StepError.TheVariants as step
use Rattle.bc_serve.specs.bc_job.Deeds.{flush_deeds}
use Rattle.bc_script.specs.declared.answer.Answer.{Answer}
use Rattle.bc_script.specs.declared.answer.Answer.TheVariants as answer
use Rattle.bc_script.specs.declared.answer.Refusal.{Refusal}
use Rattle.bc_script.specs.declared.answer.Refusal.TheVariants as refusal

-- ---- reading

abbrev pub IsRead : Failure → Type 0
IsRead (failure.Read which) = Unit {0}
IsRead x = ⊥

-- It claims sectors with others who read, looks them up, reads a device or fails to, answers, and
-- lets the claim go.
abbrev pub IsReading : Deed → Type 0
IsReading (deed.Claim first count share) = share ≡ Shared
IsReading (deed.Look leaf) = Unit {0}
IsReading (deed.CacheRead at first values) = Unit {0}
IsReading (deed.BackingRead first values) = Unit {0}
IsReading (deed.DeviceFault x) = IsRead x
IsReading (deed.Answer of first values) = Unit {0}
IsReading deed.Release = Unit {0}
IsReading d = ⊥

abbrev pub AreReading : List Deed → Type 0
AreReading [] = Unit {0}
AreReading (d ∷ ds) = IsReading d × AreReading ds

-- ---- changing no value

-- a read failed, or a barrier of the backing device
abbrev pub IsReadOrBarrier : Failure → Type 0
IsReadOrBarrier (failure.Read which) = Unit {0}
IsReadOrBarrier (failure.Barrier device.Backing) = Unit {0}
IsReadOrBarrier x = ⊥

-- It changes no value of a sector: it is of reading, or of a flush that puts no entry.
abbrev pub IsKeeping : Deed → Type 0
IsKeeping (deed.FlushFrom of) = Unit {0}
IsKeeping deed.BackingBarrier = Unit {0}
IsKeeping (deed.FlushDone of) = Unit {0}
IsKeeping (deed.DeviceFault x) = IsReadOrBarrier x
IsKeeping d = IsReading d

abbrev pub AreKeeping : List Deed → Type 0
AreKeeping [] = Unit {0}
AreKeeping (d ∷ ds) = IsKeeping d × AreKeeping ds

-- ---- failed reads

-- The next deed is a read of the backing device; or there is none, and `cut` says that there need
-- be none.
abbrev pub GoesOn : (cut : Bool) → List Deed → Type 0
GoesOn cut [] = cut ≡ true
GoesOn cut (deed.BackingRead first values ∷ ds) = Unit {0}
GoesOn cut (d ∷ ds) = ⊥

-- where the deed is a failed call, it is one of reading the cache device, and the seat read the
-- backing device in its place
abbrev pub IsTurned : (cut : Bool) → Deed → List Deed → Type 0
IsTurned cut (deed.DeviceFault x) ds = (x ≡ failure.Read device.Cache) × GoesOn cut ds
IsTurned cut d ds = Unit {0}

-- No call among these failed but reads of the cache device, and behind each of them the seat read
-- the backing device in its place. Where they are cut off, the last deed may be such a failed read.
abbrev pub AreTurned : (cut : Bool) → List Deed → Type 0
AreTurned cut [] = Unit {0}
AreTurned cut (d ∷ ds) = IsTurned cut d ds × AreTurned cut ds

-- ---- how they end

-- Behind such deeds the claim was let go, or there was none.
abbrev pub HaveEnded : (List Deed → Type 0) → List Deed → Type 0
HaveEnded Are ds = (before : List Deed) × Are before
    × ((ds ≡ before) ⊎ (ds ≡ before ++ deed.Release ∷ []))

abbrev pub is_backing : Device → Bool
is_backing device.Cache = false
is_backing device.Backing = true

-- The last call failed: a read of this device, behind which the claim was let go. One of the
-- backing device may have been made in place of a failed read of the cache device.
pub record HasFailedAt (which : Device) (ds : List Deed) : Type 0 where
  pub before : List Deed
  pub turned : AreTurned (is_backing which) before
  pub is : ds ≡ before ++ deed.DeviceFault (failure.Read which) ∷ deed.Release ∷ []

-- Why a line is refused: `fault` is said where its last call failed, a read of that device, and
-- `halted` where a write or a barrier of that device was the first of the run that failed by then.
-- Behind a failed read of clean data a halt or want of memory may come too.
abbrev pub IsRefusedBy : Refusal → List Event → List Deed → Type 0
IsRefusedBy refusal.OutOfRange seen ds = ds ≡ []
IsRefusedBy (refusal.Fault which) seen ds = HasFailedAt which ds
IsRefusedBy (refusal.Halted which) seen ds =
    (halt_of seen ≡ Some which) × HaveEnded (AreTurned true) ds
IsRefusedBy refusal.Memory seen ds = HaveEnded (AreTurned true) ds
IsRefusedBy (refusal.Node bucket why) seen ds = AreTurned false ds
IsRefusedBy (refusal.NoBucket purpose none_len own_len) seen ds = ⊥
IsRefusedBy refusal.JournalEnd seen ds = ⊥

-- why a line is answered so, by the deeds that served it and the events by then
abbrev pub IsCaused : Answer → List Event → List Deed → Type 0
IsCaused answer.Silent seen ds = ds ≡ []
IsCaused (answer.Runs first values) seen ds = AreTurned false ds
IsCaused (answer.Refused why) seen ds = IsRefusedBy why seen ds
IsCaused answer.Done seen ds = ⊥

-- ---- a flush

-- the refusal of a flush of which a step was refused
abbrev pub refusal_of_step : StepError → Refusal
refusal_of_step (step.Fault which) = refusal.Fault which
refusal_of_step (step.Halted which) = refusal.Halted which
refusal_of_step step.Memory = refusal.Memory

-- Behind its beginning a flush came so far that wasn't acknowledged: its barrier failed, which is a
-- fault of the backing device; or a halt came before the barrier or behind it; or there was no
-- memory for the rest.
abbrev pub IsCutAtEnd : StepError → List Event → List Deed → Type 0
IsCutAtEnd (step.Fault which) seen ds = (which ≡ device.Backing)
    × (ds ≡ deed.DeviceFault (failure.Barrier device.Backing) ∷ [])
IsCutAtEnd (step.Halted which) seen ds =
    (halt_of seen ≡ Some which) × ((ds ≡ []) ⊎ (ds ≡ deed.BackingBarrier ∷ []))
IsCutAtEnd step.Memory seen ds = ds ≡ []

-- It didn't begin, for a halt or want of memory.
abbrev pub IsCutBefore : StepError → List Event → List Deed → Type 0
IsCutBefore (step.Fault which) seen ds = ⊥
IsCutBefore (step.Halted which) seen ds = (halt_of seen ≡ Some which) × (ds ≡ [])
IsCutBefore step.Memory seen ds = ds ≡ []

-- So a flush was refused: before it began, or behind that.
abbrev pub IsFlushCut : LineNumber → StepError → List Event → List Deed → Type 0
IsFlushCut of e seen ds = IsCutBefore e seen ds
    ⊎ ((more : List Deed) × IsCutAtEnd e seen more × (ds ≡ deed.FlushFrom of ∷ more))

-- Why a flush is answered so: it is done behind its beginning, one barrier of the backing device
-- and its end, since no key waits in such a run for an entry of the journal.
abbrev pub IsFlushCaused : LineNumber → Answer → List Event → List Deed → Type 0
IsFlushCaused of answer.Done seen ds = ds ≡ flush_deeds of
IsFlushCaused of (answer.Refused why) seen ds =
    (e : StepError) × (why ≡ refusal_of_step e) × IsFlushCut of e seen ds
IsFlushCaused of answer.Silent seen ds = ⊥
IsFlushCaused of (answer.Runs first values) seen ds = ⊥
