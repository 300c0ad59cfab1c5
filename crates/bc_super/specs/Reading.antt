-- What is read of a device as its superblock, and what the read leaves of the device.
use Rattle.std.specs.Prelude.{◌≡◌, ◌⊎◌, ℕ, ◌<◌, ◌≤◌, List, length, Result, Ok, Err}
use Rattle.bc_model.specs.Sector.{values_of}
use Rattle.bc_disk.specs.Device.{DeviceModel, after_read, after_fault}
use Rattle.bc_disk.specs.Disk.{DiskFacts, IfTold, IsRead}
use Rattle.bc_super.specs.Cache.{IsCacheSuper, IsCacheRefused}
use Rattle.bc_super.specs.Super.{IsBackingSuper, IsRefused}
use Rattle.bc_super.specs.declared.backing.BackingSuper.{BackingSuper}
use Rattle.bc_super.specs.declared.cache.CacheSuper.{CacheSuper}
use Rattle.bc_super.specs.declared.error.SuperError.{SuperError}
use Rattle.bc_super.specs.declared.error.SuperError.TheVariants as errors

-- what the disk holds in the five sectors from 8 on, where it tells what it holds; else any 2,560 bytes
pub record IsSuperBytes (bytes : List ℕ) (d : DiskFacts) : Type 0 where
  pub whole : length bytes ≡ 2560
  pub read : IsRead 8 (values_of bytes) d

-- what stands there is this superblock, or is refused for this reason
abbrev pub ReadsSuper : DiskFacts → BackingSuper → Type 0
ReadsSuper d s = (bytes : List ℕ) × IsSuperBytes bytes d × IsBackingSuper bytes d.sectors s

abbrev pub ReadsRefused : DiskFacts → SuperError → Type 0
ReadsRefused d e = (bytes : List ℕ) × IsSuperBytes bytes d × IsRefused bytes d.sectors e

-- where the disk tells what it holds, whatever a read gives there is this superblock
abbrev pub OnlyReads : DiskFacts → BackingSuper → Type 0
OnlyReads d s = IfTold d.holds (λ _. (bytes : List ℕ) → IsSuperBytes bytes d → IsBackingSuper bytes d.sectors s)

-- when an error may be answered
abbrev pub IsCause : DiskFacts → SuperError → Type 0
IsCause d errors.DeviceSmall = d.sectors < 16
IsCause d errors.Fault = 16 ≤ d.sectors
IsCause d e = ReadsRefused d e

-- the answer as that of the one call of the device, which failed exactly where the answer is a fault
abbrev pub call_of : {T : Type 0} → Result T SuperError → Result (Unit {0}) SuperError
call_of (Ok s) = Ok tt
call_of (Err errors.Fault) = Err errors.Fault
call_of (Err e) = Ok tt

-- what a read makes of the model of a device
abbrev pub after_call : Result (Unit {0}) SuperError → DeviceModel → DeviceModel
after_call (Ok u) model = after_read model
after_call (Err e) model = after_fault model

-- ---- the superblock of a cache device

abbrev pub ReadsCache : DiskFacts → CacheSuper → Type 0
ReadsCache d s = (bytes : List ℕ) × IsSuperBytes bytes d × IsCacheSuper bytes d.sectors s

abbrev pub ReadsCacheRefused : DiskFacts → SuperError → Type 0
ReadsCacheRefused d e = (bytes : List ℕ) × IsSuperBytes bytes d × IsCacheRefused bytes d.sectors e

abbrev pub OnlyReadsCache : DiskFacts → CacheSuper → Type 0
OnlyReadsCache d s = IfTold d.holds (λ _. (bytes : List ℕ) → IsSuperBytes bytes d → IsCacheSuper bytes d.sectors s)

abbrev pub IsCacheCause : DiskFacts → SuperError → Type 0
IsCacheCause d errors.DeviceSmall = (d.sectors < 16) ⊎ ReadsCacheRefused d errors.DeviceSmall
IsCacheCause d errors.Fault = 16 ≤ d.sectors
IsCacheCause d e = ReadsCacheRefused d e
