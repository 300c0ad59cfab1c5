-- What was done of a piece that was refused.
use Rattle.std.proofs.Common.{◌≡◌, ◌⊎◌, inl, inr, ℕ, Bool, true, false, List, [], ◌∷◌, length, Some, refl, sym, ap, subst}
use Rattle.bc_model.specs.Sector.{Value}
use Rattle.bc_model.specs.declared.history.Entry.TheVariants as entry
use Rattle.bc_disk.specs.declared.disk.Device.TheVariants.{Backing}
use Rattle.bc_flight.specs.declared.claim.Share.TheVariants.{Shared, Exclusive}
use Rattle.bc_events.specs.declared.event.LineNumber.{LineNumber}
use Rattle.bc_events.specs.declared.event.Failure.TheVariants as failure
use Rattle.bc_events.specs.declared.event.Deed.{Deed}
use Rattle.bc_events.specs.declared.event.Deed.TheVariants as deed
use Rattle.bc_events.specs.declared.event.Event.{Event}
use Rattle.bc_job.specs.Deeds.{under, IsHaltOf, HasBegunRead, ReadStop, HasClaimedOnly, HasWrittenOnly, HasFailedWrite, WriteStop, FlushStop}
use Rattle.bc_job.specs.declared.error.RequestError.{RequestError}
use Rattle.bc_job.specs.declared.error.RequestError.TheVariants as request
use Rattle.bc_script.specs.declared.answer.Answer.TheVariants.{Refused}
use Rattle.bc_serve.specs.Causes.{entries_by, has_failed, CallsBacking, IsCaused}
use Rattle.bc_serve.specs.Refusals.{refusal_of}

-- deeds of which none failed, all of the backing device, and nothing of them in the history
pub record AreQuiet (ds : List Deed) : Type 0 where
  pub entries : entries_by ds ≡ []
  pub failed : has_failed ds ≡ false
  pub calls : CallsBacking ds

quiet_as : (ds es : List Deed) → ds ≡ es → AreQuiet es → AreQuiet ds
quiet_as ds es is quiet = subst AreQuiet (sym is) quiet

no_deed : AreQuiet []
no_deed = record { entries = refl; failed = refl; calls = tt }

-- ---- reading

begun_read : (first count : ℕ) (ds : List Deed) → HasBegunRead first count ds → AreQuiet ds
begun_read first count ds (inl is) = quiet_as ds [] is no_deed
begun_read first count ds (inr (inl is)) = quiet_as ds (under first count Shared []) is
    (record { entries = refl; failed = refl; calls = (tt, (tt, tt)) })
begun_read first count ds (inr (inr (values, is))) =
    quiet_as ds (under first count Shared (deed.BackingRead first values ∷ [])) is
    (record { entries = refl; failed = refl; calls = (tt, (refl, (tt, tt))) })

pub record IsStop (error : RequestError) (seen : List Event) (ds : List Deed) : Type 0 where
  pub caused : IsCaused (Refused (refusal_of error)) seen ds
  pub calls : CallsBacking ds

stop_as : (error : RequestError) (seen : List Event) (ds es : List Deed) → ds ≡ es → IsStop error seen es
    → IsStop error seen ds
stop_as error seen ds es is stop = subst (IsStop error seen) (sym is) stop

pub read_stop : (error : RequestError) (first count : ℕ) (seen : List Event) (ds : List Deed)
    → ReadStop error first count ds → IsHaltOf error seen
    → (entries_by ds ≡ []) × IsStop error seen ds
read_stop request.OutOfRange first count seen ds stop halted = absurd stop
read_stop (request.Fault device) first count seen ds stop halted =
    let es = under first count Shared (deed.DeviceFault (failure.Read Backing) ∷ []) in (
      ap entries_by stop.1,
      stop_as (request.Fault device) seen ds es stop.1
          (record { caused = (stop.0, refl); calls = (tt, (refl, (tt, tt))) }),
    )
read_stop (request.Halted device) first count seen ds stop halted =
    let quiet = begun_read first count ds stop in
    (quiet.entries, record { caused = (halted, quiet.failed); calls = quiet.calls })
read_stop request.Memory first count seen ds stop halted =
    let quiet = begun_read first count ds stop in
    (quiet.entries, record { caused = quiet.failed; calls = quiet.calls })

-- ---- writing

pub claimed_only : (first count : ℕ) (ds : List Deed) → HasClaimedOnly first count ds → AreQuiet ds
claimed_only first count ds (inl is) = quiet_as ds [] is no_deed
claimed_only first count ds (inr is) = quiet_as ds (under first count Exclusive []) is
    (record { entries = refl; failed = refl; calls = (tt, (tt, tt)) })

-- the write stands, and its acknowledgement doesn't
pub record IsOnlyWrite (of : LineNumber) (first : ℕ) (values : List Value) (ds : List Deed) : Type 0 where
  pub entries : entries_by ds ≡ entry.Write of.worker of.line first values ∷ []
  pub failed : has_failed ds ≡ false
  pub calls : CallsBacking ds

pub written_only : (of : LineNumber) (first : ℕ) (values : List Value) (ds : List Deed)
    → HasWrittenOnly of first values ds → IsOnlyWrite of first values ds
written_only of first values ds (inl is) = subst (IsOnlyWrite of first values) (sym is)
    (record { entries = refl; failed = refl; calls = (tt, (refl, (tt, tt))) })
written_only of first values ds (inr is) = subst (IsOnlyWrite of first values) (sym is)
    (record { entries = refl; failed = refl; calls = (tt, (refl, (refl, (tt, tt)))) })

pub failed_entries : (force : Bool) (of : LineNumber) (first : ℕ) (values : List Value) (ds : List Deed)
    → HasFailedWrite force of first values ds
    → (entries_by ds ≡ entry.Tried first values ∷ [])
    ⊎ ((force ≡ true) × (entries_by ds ≡ entry.Write of.worker of.line first values ∷ []))
failed_entries force of first values ds (inl is) = inl (ap entries_by is)
failed_entries force of first values ds (inr (on, is)) = inr (on, ap entries_by is)

failed_write : (device : _) (force : Bool) (of : LineNumber) (first : ℕ) (values : List Value) (seen : List Event)
    (ds : List Deed) → device ≡ Backing → HasFailedWrite force of first values ds
    → IsStop (request.Fault device) seen ds
failed_write device force of first values seen ds back (inl is) = stop_as (request.Fault device) seen ds
    (under first (length values) Exclusive (deed.DeviceFault (failure.BackingWrite first (Some of) values) ∷ [])) is
    (record { caused = (back, refl); calls = (tt, (refl, (tt, tt))) })
failed_write device force of first values seen ds back (inr (on, is)) = stop_as (request.Fault device) seen ds
    (under first (length values) Exclusive (deed.BackingWrite first (Some of) values
    ∷ deed.DeviceFault (failure.Barrier Backing) ∷ [])) is
    (record { caused = (back, refl); calls = (tt, (refl, (refl, (tt, tt)))) })

pub write_stop : (error : RequestError) (force : Bool) (of : LineNumber) (first : ℕ) (values : List Value)
    (seen : List Event) (ds : List Deed) → WriteStop error force of first values ds → IsHaltOf error seen
    → IsStop error seen ds
write_stop request.OutOfRange force of first values seen ds stop halted = absurd stop
write_stop (request.Fault device) force of first values seen ds stop halted =
    failed_write device force of first values seen ds stop.0 stop.1
write_stop (request.Halted device) force of first values seen ds (inl claimed) halted =
    let quiet = claimed_only first (length values) ds claimed in
    record { caused = (halted, quiet.failed); calls = quiet.calls }
write_stop (request.Halted device) force of first values seen ds (inr (on, wrote)) halted =
    let only = written_only of first values ds wrote in
    record { caused = (halted, only.failed); calls = only.calls }
write_stop request.Memory force of first values seen ds stop halted =
    let quiet = claimed_only first (length values) ds stop in
    record { caused = quiet.failed; calls = quiet.calls }

-- ---- flushes

-- at most its beginning stands
pub record IsBegun (of : LineNumber) (error : RequestError) (seen : List Event) (ds : List Deed) : Type 0 where
  pub entries : (entries_by ds ≡ []) ⊎ (entries_by ds ≡ entry.FlushFrom of.worker of.line ∷ [])
  pub stop : IsStop error seen ds

begun_as : (of : LineNumber) (error : RequestError) (seen : List Event) (ds es : List Deed) → ds ≡ es
    → IsBegun of error seen es → IsBegun of error seen ds
begun_as of error seen ds es is begun = subst (IsBegun of error seen) (sym is) begun

pub flush_stop : (error : RequestError) (of : LineNumber) (seen : List Event) (ds : List Deed)
    → FlushStop error of ds → IsHaltOf error seen → IsBegun of error seen ds
flush_stop request.OutOfRange of seen ds stop halted = absurd stop
flush_stop (request.Fault device) of seen ds stop halted = begun_as of (request.Fault device) seen ds
    (deed.FlushFrom of ∷ deed.DeviceFault (failure.Barrier Backing) ∷ []) stop.1
    (record { entries = inr refl; stop = record { caused = (stop.0, refl); calls = (tt, (refl, tt)) } })
flush_stop (request.Halted device) of seen ds (inl is) halted = begun_as of (request.Halted device) seen ds [] is
    (record { entries = inl refl; stop = record { caused = (halted, refl); calls = tt } })
flush_stop (request.Halted device) of seen ds (inr (inl is)) halted = begun_as of (request.Halted device) seen ds
    (deed.FlushFrom of ∷ []) is
    (record { entries = inr refl; stop = record { caused = (halted, refl); calls = (tt, tt) } })
flush_stop (request.Halted device) of seen ds (inr (inr is)) halted = begun_as of (request.Halted device) seen ds
    (deed.FlushFrom of ∷ deed.BackingBarrier ∷ []) is
    (record { entries = inr refl; stop = record { caused = (halted, refl); calls = (tt, (refl, tt)) } })
flush_stop request.Memory of seen ds is halted = begun_as of request.Memory seen ds [] is
    (record { entries = inl refl; stop = record { caused = refl; calls = tt } })
