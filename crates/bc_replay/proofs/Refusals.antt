-- Why a superblock can't be read, and what its read leaves of the count of faults.
use Rattle.std.proofs.Common.{◌≡◌, inl, inr, ℕ, ◌<◌, ◌≤◌}
use Rattle.std.specs.Prelude.{Result, Ok, Err}
use Rattle.std.proofs.lemmas.Bool.{cases_lt}
use Rattle.bc_disk.specs.Device.{next_count}
use Rattle.bc_disk.specs.Disk.{DiskFacts, IsCounted}
use Rattle.bc_disk.specs.declared.disk.Device.TheVariants as device
use Rattle.bc_super.specs.Reading.{IsCacheCause, IsCause, call_of}
use Rattle.bc_super.specs.declared.error.SuperError.{SuperError}
use Rattle.bc_super.specs.declared.error.SuperError.TheVariants as super
use Rattle.bc_replay.specs.Causes.{IsBackingCause, IsCacheCauseOf, IsReadOnce, RisesWith, refusal}

either : (sectors : ℕ) (P : Type 0) → (sectors < 16 → P) → (16 ≤ sectors → P) → P
either sectors P small large = elim (cases_lt sectors 16) [ inl low ↦ small low | inr high ↦ large high ]

pub backing_cause : (why : SuperError) (d : DiskFacts) → IsCause d why → (d.sectors < 16 → why ≡ super.DeviceSmall) → IsBackingCause d (refusal device.Backing why)
backing_cause super.Fault d cause small = tt
backing_cause why d cause small = ((λ e. cc), cause, small)

pub cache_cause : (why : SuperError) (d : DiskFacts) → IsCacheCause d why → (d.sectors < 16 → why ≡ super.DeviceSmall) → IsCacheCauseOf d (refusal device.Cache why)
cache_cause super.Fault d cause small = tt
cache_cause why d cause small = ((λ e. cc), cause, small)

pub backing_rises : (T : Type 0) (why : SuperError) (old new : DiskFacts) → IsCause old why → (old.sectors < 16 → new.faults ≡ old.faults) → (16 ≤ old.sectors → IsCounted (call_of {T = T} (Err why)) old new)
    → RisesWith {T = T} (Err (refusal device.Backing why)) old.faults new.faults
backing_rises T super.Fault old new cause untouched counted = (counted cause).1
backing_rises T why old new cause untouched counted = either old.sectors (new.faults ≡ old.faults) untouched (λ large. (counted large).1)

pub cache_rises : (T : Type 0) (why : SuperError) (old new : DiskFacts) → IsCacheCause old why → (old.sectors < 16 → new.faults ≡ old.faults) → (16 ≤ old.sectors → IsCounted (call_of {T = T} (Err why)) old new)
    → RisesWith {T = T} (Err (refusal device.Cache why)) old.faults new.faults
cache_rises T super.Fault old new cause untouched counted = (counted cause).1
cache_rises T why old new cause untouched counted = either old.sectors (new.faults ≡ old.faults) untouched (λ large. (counted large).1)

-- the one call of a read, or none
pub once : (T : Type 0) (r : Result T SuperError) (old new : DiskFacts) → (old.sectors < 16 → new.calls ≡ old.calls) → (16 ≤ old.sectors → IsCounted (call_of r) old new) → IsReadOnce old.sectors old.calls new.calls
once T r old new untouched counted = ((λ large. by r (counted large)), untouched)
  where
    by : (r : Result T SuperError) → IsCounted (call_of r) old new → new.calls ≡ next_count old.calls
    by (Ok s) counts = counts.0
    by (Err super.Fault) counts = counts.0
    by (Err e) counts = counts.0
