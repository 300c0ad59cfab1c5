-- What the status of a check tells.
use Rattle.std.proofs.Common.{◌≡◌, ◌⊎◌, inl, inr, sym, subst}
use Rattle.std.specs.Prelude.{Result, Ok, Err, IfErr}
use Rattle.bc_disk.specs.Device.{HasRisen}
use Rattle.bc_disk.specs.Disk.{DiskFacts}
use Rattle.bc_disk.specs.Stream.{StreamFacts}
use Rattle.bc_disk.specs.declared.disk.Device.TheVariants as device
use Rattle.bc_check.specs.Calls.{BothKept, CountsFault}
use Rattle.bc_check.specs.Verdict.{IsCheckCause, IsReason}
use Rattle.bc_check.specs.declared.text.ReportText.{ReportText}
use Rattle.bc_check.specs.declared.verdict.CheckError.{CheckError}
use Rattle.bc_check.specs.declared.verdict.CheckError.TheVariants as checks
use Rattle.bc_check.specs.declared.verdict.Verdict.{Verdict}
use Rattle.bc_check.specs.declared.verdict.Verdict.TheVariants as verdicts
use Rattle.bc_replay.specs.declared.error.OpenError.{OpenError}
use Rattle.bc_replay.specs.declared.error.OpenError.TheVariants as errors
use Rattle.bc_output.specs.declared.status.Status.{Status}
use Rattle.bc_output.specs.declared.status.Status.TheVariants as statuses
use Rattle.bc_top.specs.Ended.{HasStopped}
use Rattle.bc_top.specs.Pairs.{EndsChecking}
use Rattle.bc_top.specs.Stops.{check_stop, status_of, open_stop, verdict_status}
use Rattle.bc_top.specs.Top.{AreSame, OneHasRisen}
use Rattle.bc_top.proofs.Pairing.{EndsQuietly}
use Rattle.bc_sound_reads.proofs.of_bc_serve.Failing.{next_rises}
use Rattle.bc_top.proofs.Settled.{same_kept}
use Rattle.bc_top.proofs.Statuses.{fault_stops}

pub same_checked : (cache cache' backing backing' : DiskFacts) → BothKept cache cache' backing
    backing' → AreSame cache cache' backing backing'
same_checked cache cache' backing backing' kept =
    (same_kept cache cache' kept.cache_kept, same_kept backing backing' kept.backing_kept)

-- ---- which statuses there are

-- what a check ends with: a verdict, a refusal, a fault of a device or of the sink, or want of
-- memory
data Ending (status : Status) : Type 0 where
  sound : status ≡ statuses.Done → Ending status
  unsound : status ≡ statuses.Image → Ending status
  refused : status ≡ statuses.Superblock → Ending status
  failed : status ≡ statuses.Device → Ending status
  lacks : status ≡ statuses.Memory → Ending status
  cut : status ≡ statuses.Sink → Ending status

by_verdict : (v : Verdict) (status : Status) → status ≡ verdict_status v → Ending status
by_verdict verdicts.PassThrough status is = sound is
by_verdict (verdicts.Sound dirty clean) status is = sound is
by_verdict (verdicts.Journal bucket) status is = unsound is
by_verdict (verdicts.Age sector) status is = unsound is
by_verdict (verdicts.Agree sector) status is = unsound is

by_reason : (why : OpenError) (status : Status) → IsReason why → status ≡ status_of (open_stop why)
    → Ending status
by_reason (errors.Super d why) status reason is = refused is
by_reason (errors.Fault d) status reason is = absurd reason
by_reason errors.Memory status reason is = absurd reason
by_reason why status reason is = unsound is

module _ (cache cache' backing backing' : DiskFacts) (answer : Result ReportText CheckError)
    (status : Status) (old new : StreamFacts) (cause : IfErr answer (IsCheckCause cache backing))
    (faults : IfErr answer (λ e. CountsFault e cache cache' backing backing'))
    (ends : EndsChecking answer status old new) where
  rises_at : (e : CheckError) → CountsFault e cache cache' backing backing' → IsCheckCause cache
      backing e → status ≡ status_of (check_stop e) → status ≡ statuses.Device → OneHasRisen cache
      cache' backing backing'
  rises_at (checks.Fault device.Cache) counts cause is six = inl
      (subst (HasRisen cache.faults) (sym counts.0) (next_rises cache.faults))
  rises_at (checks.Fault device.Backing) counts cause is six = inr
      (subst (HasRisen backing.faults) (sym counts.1) (next_rises backing.faults))
  rises_at checks.Memory counts cause is six = absurd (cc)
  rises_at (checks.Open why) counts cause is six = never (by_reason why status cause.0 is)
    where
      never : Ending status → OneHasRisen cache cache' backing backing'
      never (sound s) = absurd (cc)
      never (unsound s) = absurd (cc)
      never (refused s) = absurd (other why cause.0 is)
        where
          other : (why : OpenError) → IsReason why → status ≡ status_of (open_stop why) → ⊥
          other (errors.Super d w) reason at = cc
          other (errors.Fault d) reason at = reason
          other errors.Memory reason at = reason
          other w reason at = cc
      never (failed s) = absurd (other why cause.0 is)
        where
          other : (why : OpenError) → IsReason why → status ≡ status_of (open_stop why) → ⊥
          other (errors.Super d w) reason at = cc
          other (errors.Fault d) reason at = reason
          other errors.Memory reason at = reason
          other w reason at = cc
      never (lacks s) = absurd (cc)
      never (cut s) = absurd (cc)

  by_error : (e : CheckError) → IsCheckCause cache backing e → status ≡ status_of (check_stop e) →
      Ending status
  by_error (checks.Open why) cause is = by_reason why status cause.0 is
  by_error (checks.Fault d) cause is = failed is
  by_error checks.Memory cause is = lacks is

  ending : Ending status
  ending = go answer cause ends
    where
      go : (r : Result ReportText CheckError) → IfErr r (IsCheckCause cache backing) → EndsChecking
          r status old new → Ending status
      go (Ok told) cause (inl done) = by_verdict told.verdict status done.0
      go (Ok told) cause (inr short) = cut short.0
      go (Err e) cause ends = by_error e cause ends.0

  pub checking_rises : status ≡ statuses.Device → OneHasRisen cache cache' backing backing'
  checking_rises six = go answer cause faults ends
    where
      go : (r : Result ReportText CheckError) → IfErr r (IsCheckCause cache backing) → IfErr r
          (λ e. CountsFault e cache cache' backing backing') → EndsChecking r status old new →
          OneHasRisen cache cache' backing backing'
      go (Ok told) cause faults (inl done) = absurd (never (by_verdict told.verdict status done.0))
        where
          never : Ending status → ⊥
          never e = not_six told.verdict done.0
            where
              not_six : (v : Verdict) → status ≡ verdict_status v → ⊥
              not_six verdicts.PassThrough is = cc
              not_six (verdicts.Sound dirty clean) is = cc
              not_six (verdicts.Journal bucket) is = cc
              not_six (verdicts.Age sector) is = cc
              not_six (verdicts.Agree sector) is = cc
      go (Ok told) cause faults (inr short) = (let eight = short.0 in absurd (cc))
      go (Err e) cause faults ends = rises_at e faults cause ends.0 six

  pub checking_stops : status ≡ statuses.Sink → HasStopped old new
  checking_stops eight = go answer cause ends
    where
      not_eight : (e : CheckError) → IsCheckCause cache backing e → status ≡ status_of
          (check_stop e) → ⊥
      not_eight (checks.Fault d) cause is = cc
      not_eight checks.Memory cause is = cc
      not_eight (checks.Open why) cause is = other why cause.0 is
        where
          other : (why : OpenError) → IsReason why → status ≡ status_of (open_stop why) → ⊥
          other (errors.Super d w) reason at = cc
          other (errors.Fault d) reason at = reason
          other errors.Memory reason at = reason
          other w reason at = cc

      by_told : (v : Verdict) → status ≡ verdict_status v → ⊥
      by_told verdicts.PassThrough is = cc
      by_told (verdicts.Sound dirty clean) is = cc
      by_told (verdicts.Journal bucket) is = cc
      by_told (verdicts.Age sector) is = cc
      by_told (verdicts.Agree sector) is = cc

      go : (r : Result ReportText CheckError) → IfErr r (IsCheckCause cache backing) → EndsChecking
          r status old new → HasStopped old new
      go (Ok told) cause (inl done) = absurd (by_told told.verdict done.0)
      go (Ok told) cause (inr short) = fault_stops short.1.0 _ old new short.1.1
      go (Err e) cause ends = absurd (not_eight e cause ends.0)

  -- neither the words, nor a trace, nor its source
  pub not_usage : status ≡ statuses.Usage → ⊥
  not_usage two = elim ending [
    | sound s ↦ cc
    | unsound s ↦ cc
    | refused s ↦ cc
    | failed s ↦ cc
    | lacks s ↦ cc
    | cut s ↦ cc
  ]

  pub not_source : status ≡ statuses.Source → ⊥
  not_source seven = elim ending [
    | sound s ↦ cc
    | unsound s ↦ cc
    | refused s ↦ cc
    | failed s ↦ cc
    | lacks s ↦ cc
    | cut s ↦ cc
  ]

  pub checking_ends : (OneHasRisen cache cache' backing backing' → ⊥) → (HasStopped old new → ⊥) →
      EndsQuietly status ⊎ (status ≡ statuses.Image)
  checking_ends still takes = elim ending [
    | sound s ↦ inl (inl s)
    | unsound s ↦ inr s
    | refused s ↦ inl (inr (inr (inl s)))
    | failed s ↦ absurd (still (checking_rises s))
    | lacks s ↦ inl (inr (inr (inr s)))
    | cut s ↦ absurd (takes (checking_stops s))
  ]
