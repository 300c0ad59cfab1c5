-- What the calls on a pair answer, and why they refuse.
use Rattle.std.specs.Prelude.{◌≡◌, ◌≢◌, ◌⊎◌, ℕ, ◌-◌, ◌*◌, ◌≤◌, ◌^◌, min, replicate, Result, Ok, Err}
use Rattle.bc_model.specs.Sector.{Image}
use Rattle.bc_disk.specs.Disk.{DiskFacts, IfTold, BothTold, IsCounted, IsKept}
use Rattle.bc_disk.specs.Device.{HasRisen}
use Rattle.bc_disk.specs.declared.disk.Device.{Device}
use Rattle.bc_disk.specs.declared.disk.Device.TheVariants as device
use Rattle.bc_super.specs.Cache.{IsBlock, IsBucket}
use Rattle.bc_disk.specs.declared.geometry.Geometry.{Geometry}
use Rattle.bc_super.specs.Division.{IsGeometryOf}
use Rattle.bc_super.specs.Layout.{IsLaidOut, buckets_of}
use Rattle.bc_super.specs.Reading.{IsCacheCause, IsCause, ReadsCache, ReadsSuper}
use Rattle.bc_super.specs.Super.{IsDataOffset, Unless}
use Rattle.bc_super.specs.declared.backing.BackingSuper.{BackingSuper}
use Rattle.bc_super.specs.declared.cache.CacheSuper.{CacheSuper}
use Rattle.bc_super.specs.declared.error.SuperError.{SuperError}
use Rattle.bc_super.specs.declared.error.SuperError.TheVariants as super
use Rattle.bc_super.specs.declared.layout.Layout.{Layout}
use Rattle.bc_pair.specs.declared.error.PairError.{PairError}
use Rattle.bc_pair.specs.declared.error.PairError.TheVariants as errors
use Rattle.bc_pair.specs.declared.pair.NewPair.{NewPair}
use Rattle.bc_pair.specs.Made.{IsUnused, PairWritten, adopted_backing, adopted_cache, new_backing, new_cache}

-- ---- the backing device

-- No sector but that of the superblock was written: each holds what it held, and a crash leaves what it might have left.
pub record KeepsOthers (old new : DiskFacts) : Type 0 where
  pub sectors : new.sectors ≡ old.sectors
  pub holds : BothTold (λ (a z : Image). (s : ℕ) → s ≢ 8 → z s ≡ a s) old.holds new.holds
  pub leaves : IfTold new.holds (λ _. (image : Image) → new.may_leave image → (before : Image) × old.may_leave before × ((s : ℕ) → s ≢ 8 → image s ≡ before s))

-- ---- the answers

-- as an answer of the writing of a pair, where no refusal kept it from being begun
abbrev pub IsWritingOf : Result (Unit {0}) PairError → (Result (Unit {0}) Device → Type 0) → Type 0
IsWritingOf (Ok u) P = P (Ok tt)
IsWritingOf (Err (errors.Fault d)) P = P (Err d)
IsWritingOf (Err (errors.Superblock d why)) P = Unit {0}
IsWritingOf (Err errors.Memory) P = Unit {0}

-- ---- format

-- the first reason why a new pair can't be made of devices with so many sectors: of the cache device, then of the backing device
abbrev pub IsFormatRefused : NewPair → ℕ → ℕ → Device → SuperError → Type 0
IsFormatRefused p cache backing d why =
    Unless (IsBlock p.block) ((d ≡ device.Cache) × (why ≡ super.Block))
    (Unless (IsBucket p.bucket) ((d ≡ device.Cache) × (why ≡ super.Bucket))
    (Unless (128 ≤ buckets_of cache p.bucket) ((d ≡ device.Cache) × (why ≡ super.FewBuckets))
    (Unless (p.set_uuid ≢ replicate 16 0) ((d ≡ device.Cache) × (why ≡ super.ZeroUuid))
    (Unless (16 ≤ backing) ((d ≡ device.Backing) × (why ≡ super.DeviceSmall))
    (Unless (IsDataOffset backing p.offset) ((d ≡ device.Backing) × (why ≡ super.DataOffset)) ⊥)))))

-- want of memory is free
abbrev pub IsFormatCause : NewPair → PairError → ℕ → ℕ → Type 0
IsFormatCause p (errors.Superblock d why) cache backing = IsFormatRefused p cache backing d why
IsFormatCause p (errors.Fault d) cache backing = Unit {0}
IsFormatCause p errors.Memory cache backing = Unit {0}

-- this holds where the answer isn't the fault of a device
abbrev pub UnlessFault : PairError → Type 0 → Type 0
UnlessFault (errors.Superblock d why) P = P
UnlessFault (errors.Fault d) P = Unit {0}
UnlessFault errors.Memory P = P

-- the pair was written as its layout says, or a call failed on the way
abbrev pub Formats : {C B : Type 0} → (C → DiskFacts) → (B → DiskFacts) → NewPair → Result (Unit {0}) PairError → C → C → B → B → Type 0
Formats cache_facts backing_facts p answer cache cache' backing backing' = IsWritingOf answer (λ how. (l : Layout) × IsLaidOut (cache_facts cache).sectors l
    × (l.geometry.block ≡ p.block) × (l.geometry.bucket ≡ p.bucket)
    × ((g : Geometry) × IsGeometryOf (new_cache p l) g × PairWritten cache_facts backing_facts g (new_cache p l) (new_backing p) how cache cache' backing backing'))

-- ---- adopt

-- what was read of both devices, of which the first reason is told why it is refused; want of memory is free
abbrev pub IsAdoptCause : PairError → DiskFacts → DiskFacts → Type 0
IsAdoptCause (errors.Superblock device.Backing why) cache backing = (why ≢ super.Fault) × IsCause backing why
IsAdoptCause (errors.Superblock device.Cache why) cache backing = (b : BackingSuper) × ReadsSuper backing b
    × (((why ≢ super.Fault) × IsCacheCause cache why)
    ⊎ ((why ≡ super.Initialised) × ((c : CacheSuper) × ReadsCache cache c × (IsUnused c b → ⊥))))
IsAdoptCause (errors.Fault d) cache backing = Unit {0}
IsAdoptCause errors.Memory cache backing = Unit {0}

-- a good call
abbrev pub good : Result (Unit {0}) Device
good = Ok tt

-- Each superblock was read by one call, and the pair that they make was written, or a call failed on the way.
pub record Adopts {C B : Type 0} (cache_facts : C → DiskFacts) (backing_facts : B → DiskFacts) (how : Result (Unit {0}) Device) (cache cache' : C) (backing backing' : B) : Type 0 where
  pub cache_read : C
  pub backing_read : B
  pub cache_kept : IsKept (cache_facts cache) (cache_facts cache_read) × IsCounted good (cache_facts cache) (cache_facts cache_read)
  pub backing_kept : IsKept (backing_facts backing) (backing_facts backing_read) × IsCounted good (backing_facts backing) (backing_facts backing_read)
  pub b : BackingSuper
  pub reads_backing : ReadsSuper (backing_facts backing) b
  pub c : CacheSuper
  pub reads_cache : ReadsCache (cache_facts cache) c
  pub unused : IsUnused c b
  pub l : Layout
  pub laid_out : IsLaidOut (c.bucket * c.nbuckets) l
  pub sizes : (l.geometry.block ≡ c.block) × (l.geometry.bucket ≡ c.bucket)
  pub g : Geometry
  pub geometry : IsGeometryOf (adopted_cache c l) g
  pub written : PairWritten cache_facts backing_facts g (adopted_cache c l) (adopted_backing c b) how cache_read cache' backing_read backing'

-- nothing was written of either device
abbrev pub AreKept : DiskFacts → DiskFacts → DiskFacts → DiskFacts → Type 0
AreKept cache cache' backing backing' = IsKept cache cache' × IsKept backing backing'

-- what a refusal to adopt leaves: the devices as they were, but where a call of the writing failed
abbrev pub AdoptLeaves : {C B : Type 0} → (C → DiskFacts) → (B → DiskFacts) → PairError → C → C → B → B → Type 0
AdoptLeaves cache_facts backing_facts (errors.Fault d) cache cache' backing backing' =
    AreKept (cache_facts cache) (cache_facts cache') (backing_facts backing) (backing_facts backing') ⊎ Adopts cache_facts backing_facts (Err d) cache cache' backing backing'
AdoptLeaves cache_facts backing_facts (errors.Superblock d why) cache cache' backing backing' = AreKept (cache_facts cache) (cache_facts cache') (backing_facts backing) (backing_facts backing')
AdoptLeaves cache_facts backing_facts errors.Memory cache cache' backing backing' = AreKept (cache_facts cache) (cache_facts cache') (backing_facts backing) (backing_facts backing')

-- The superblock of the backing device is read first: where it is refused the cache device wasn't called, and where a call of the
-- cache device failed it had been read.
abbrev pub BackingFirst : {C : Type 0} → PairError → C → C → DiskFacts → Type 0
BackingFirst (errors.Superblock device.Backing why) cache cache' backing = cache' ≡ cache
BackingFirst (errors.Superblock device.Cache why) cache cache' backing = Unit {0}
BackingFirst (errors.Fault device.Cache) cache cache' backing = (b : BackingSuper) × ReadsSuper backing b
BackingFirst (errors.Fault device.Backing) cache cache' backing = Unit {0}
BackingFirst errors.Memory cache cache' backing = Unit {0}

-- ---- show

-- want of memory is free
abbrev pub IsShowCause : PairError → DiskFacts → DiskFacts → Type 0
IsShowCause (errors.Superblock device.Backing why) cache backing = (why ≢ super.Fault) × IsCause backing why
IsShowCause (errors.Superblock device.Cache why) cache backing = ((b : BackingSuper) × ReadsSuper backing b) × (why ≢ super.Fault) × IsCacheCause cache why
IsShowCause (errors.Fault d) cache backing = Unit {0}
IsShowCause errors.Memory cache backing = Unit {0}

-- ---- counts of faults

-- where the answer is a fault of a device, its count rose
abbrev pub FaultRose : PairError → DiskFacts → DiskFacts → DiskFacts → DiskFacts → Type 0
FaultRose (errors.Fault device.Cache) cache cache' backing backing' = HasRisen cache.faults cache'.faults × (backing'.faults ≡ backing.faults)
FaultRose (errors.Fault device.Backing) cache cache' backing backing' = (cache'.faults ≡ cache.faults) × HasRisen backing.faults backing'.faults
FaultRose (errors.Superblock d why) cache cache' backing backing' = (cache'.faults ≡ cache.faults) × (backing'.faults ≡ backing.faults)
FaultRose errors.Memory cache cache' backing backing' = (cache'.faults ≡ cache.faults) × (backing'.faults ≡ backing.faults)
