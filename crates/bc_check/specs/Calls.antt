-- What a check leaves of two devices, and why it gives no verdict.
use Rattle.std.specs.Prelude.{◌≡◌, ℕ, ◌<◌, ◌≤◌}
use Rattle.bc_disk.specs.Device.{next_count}
use Rattle.bc_disk.specs.Disk.{DiskFacts, IsKept}
use Rattle.bc_disk.specs.declared.disk.Device.{Device}
use Rattle.bc_disk.specs.declared.disk.Device.TheVariants as device
use Rattle.bc_replay.specs.Causes.{IsSupersCause}
use Rattle.bc_replay.specs.declared.error.OpenError.{OpenError}
use Rattle.bc_replay.specs.declared.error.OpenError.TheVariants as errors
use Rattle.bc_check.specs.declared.verdict.CheckError.{CheckError}
use Rattle.bc_check.specs.declared.verdict.CheckError.TheVariants as checks
use Rattle.bc_check.specs.declared.verdict.Verdict.{Verdict}
use Rattle.bc_check.specs.declared.verdict.Verdict.TheVariants as verdicts

-- a refusal of a pair as that of its check
abbrev pub check_of : OpenError → CheckError
check_of (errors.Fault d) = checks.Fault d
check_of errors.Memory = checks.Memory
check_of why = checks.Open why

-- both devices hold what they held, and a crash may leave what it might have left
pub record BothKept (cache cache' backing backing' : DiskFacts) : Type 0 where
  pub cache_kept : IsKept cache cache'
  pub backing_kept : IsKept backing backing'

-- no call of either device failed
abbrev pub NoneFailed : DiskFacts → DiskFacts → DiskFacts → DiskFacts → Type 0
NoneFailed cache cache' backing backing' = (cache'.faults ≡ cache.faults) × (backing'.faults ≡ backing.faults)

-- one call of the device failed that the answer names, and else none did
abbrev pub CountsFault : CheckError → DiskFacts → DiskFacts → DiskFacts → DiskFacts → Type 0
CountsFault (checks.Fault device.Cache) cache cache' backing backing' = (cache'.faults ≡ next_count cache.faults) × (backing'.faults ≡ backing.faults)
CountsFault (checks.Fault device.Backing) cache cache' backing backing' = (cache'.faults ≡ cache.faults) × (backing'.faults ≡ next_count backing.faults)
CountsFault e cache cache' backing backing' = NoneFailed cache cache' backing backing'

-- want of memory, or a fault of one of the devices
abbrev pub IsWant : CheckError → Type 0
IsWant (checks.Open why) = ⊥
IsWant e = Unit {0}

-- want of memory, or a fault of this device, and its count says which
abbrev pub IsWantOf : Device → CheckError → ℕ → ℕ → Type 0
IsWantOf d (checks.Open why) old new = ⊥
IsWantOf d (checks.Fault other) old new = (other ≡ d) × (new ≡ next_count old)
IsWantOf d checks.Memory old new = new ≡ old

-- ---- counts of calls

-- two calls of a device with so many sectors; none of one that is too small for a superblock
abbrev pub IsReadTwice : ℕ → ℕ → ℕ → Type 0
IsReadTwice sectors old new = (16 ≤ sectors → new ≡ next_count (next_count old)) × (sectors < 16 → new ≡ old)

-- how a check ends whose pair is refused for a superblock: by what was read of both, the backing device's a second time
abbrev pub EndsAtSuper : DiskFacts → DiskFacts → DiskFacts → DiskFacts → CheckError → Type 0
EndsAtSuper cache cache' backing backing' (checks.Open (errors.Super d why)) =
    IsSupersCause cache backing cache.calls cache'.calls (errors.Super d why) × IsReadTwice backing.sectors backing.calls backing'.calls
EndsAtSuper cache cache' backing backing' e = Unit {0}

-- where the backing device serves alone its superblock was read, and nothing else
abbrev pub EndsAlone : DiskFacts → DiskFacts → DiskFacts → DiskFacts → Verdict → Type 0
EndsAlone cache cache' backing backing' verdicts.PassThrough = (cache'.calls ≡ cache.calls) × (backing'.calls ≡ next_count backing.calls)
EndsAlone cache cache' backing backing' verdict = Unit {0}
