-- What a check says of the calls of both devices.
use Rattle.std.proofs.Common.{◌≡◌, ◌≢◌, ℕ, ◌<◌, ◌≤◌, refl, sym, subst, ap, ◌∙◌}
use Rattle.bc_disk.specs.Device.{next_count}
use Rattle.bc_disk.specs.Disk.{DiskFacts, IsKept}
use Rattle.bc_prio.proofs.Chains.{kept_all}
use Rattle.bc_replay.specs.Causes.{EndsAtSupers, IsReadOnce}
use Rattle.bc_replay.specs.declared.error.OpenError.{OpenError}
use Rattle.bc_replay.specs.declared.error.OpenError.TheVariants as errors
use Rattle.bc_replay.proofs.Ends.{cause_before}
use Rattle.bc_check.specs.Calls.{EndsAlone, EndsAtSuper, IsReadTwice, IsWant, check_of}
use Rattle.bc_check.specs.declared.verdict.CheckError.{CheckError}
use Rattle.bc_check.specs.declared.verdict.CheckError.TheVariants as checks
use Rattle.bc_check.specs.declared.verdict.Verdict.{Verdict}
use Rattle.bc_check.specs.declared.verdict.Verdict.TheVariants as verdicts

-- one read, and another one
twice : (sectors sectors' old mid new : ℕ) → sectors' ≡ sectors → IsReadOnce sectors old mid → IsReadOnce sectors' mid new → IsReadTwice sectors old new
twice sectors sectors' old mid new same first second =
    ((λ large. second.0 (subst (λ n. 16 ≤ n) (sym same) large) ∙ ap (λ n. next_count n) (first.0 large)), (λ few. second.1 (subst (λ n. n < 16) (sym same) few) ∙ first.1 few))

-- a survey that ended at a superblock, behind a read of the backing device's
pub surveyed_end : (cache cache' backing mid backing' : DiskFacts) → IsKept backing mid → IsReadOnce backing.sectors backing.calls mid.calls → IsReadOnce mid.sectors mid.calls backing'.calls
    → (why : OpenError) → EndsAtSupers cache mid cache.calls cache'.calls why → EndsAtSuper cache cache' backing backing' (check_of why)
surveyed_end cache cache' backing mid backing' kept first second (errors.Super d why) ends = (
  cause_before cache cache backing mid refl (kept_all cache).holds kept.sectors kept.holds cache.calls cache'.calls (errors.Super d why) ends,
  twice backing.sectors mid.sectors backing.calls mid.calls backing'.calls kept.sectors first second,
)
surveyed_end cache cache' backing mid backing' kept first second (errors.Fault d) ends = tt
surveyed_end cache cache' backing mid backing' kept first second errors.Memory ends = tt
surveyed_end cache cache' backing mid backing' kept first second why ends = tt

-- no want ends at a superblock
pub wanting_end : (cache cache' backing backing' : DiskFacts) (e : CheckError) → IsWant e → EndsAtSuper cache cache' backing backing' e
wanting_end cache cache' backing backing' (checks.Open why) want = absurd want
wanting_end cache cache' backing backing' e want = tt

-- another verdict says nothing of this
pub other_end : (cache cache' backing backing' : DiskFacts) (v : Verdict) → v ≢ verdicts.PassThrough → EndsAlone cache cache' backing backing' v
other_end cache cache' backing backing' verdicts.PassThrough other = absurd (other refl)
other_end cache cache' backing backing' v other = tt
