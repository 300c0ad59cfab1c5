-- What the reading of two devices answers, where they tell what they hold.
use Rattle.std.specs.Prelude.{◌≡◌, ◌≢◌, ◌⊎◌, ℕ, ◌<◌, ◌≤◌, Bool, List, Result, Ok, Err}
use Rattle.std.specs.Bool.{MatchBool}
use Rattle.bc_disk.specs.Device.{next_count}
use Rattle.bc_disk.specs.Disk.{DiskFacts, IfTold}
use Rattle.bc_disk.specs.declared.disk.Device.{Device}
use Rattle.bc_disk.specs.declared.disk.Device.TheVariants as device
use Rattle.bc_disk.specs.declared.geometry.Geometry.{Geometry}
use Rattle.bc_image.specs.Pair.{Pair}
use Rattle.bc_image.specs.Sound.{HasSuperblocks}
use Rattle.bc_key.specs.declared.key.Key.{Key}
use Rattle.bc_pair.specs.Found.{pair_of}
use Rattle.bc_super.specs.Division.{IsGeometryOf}
use Rattle.bc_super.specs.Reading.{ReadsCache, ReadsSuper, IsCause, IsCacheCause}
use Rattle.bc_super.specs.declared.backing.BackingSuper.{BackingSuper}
use Rattle.bc_super.specs.declared.cache.CacheSuper.{CacheSuper}
use Rattle.bc_super.specs.declared.error.SuperError.{SuperError}
use Rattle.bc_super.specs.declared.error.SuperError.TheVariants as super
use Rattle.bc_uuid.specs.declared.error.UuidError.{UuidError}
use Rattle.bc_uuid.specs.declared.error.UuidError.TheVariants as uuids
use Rattle.bc_replay.specs.declared.error.OpenError.{OpenError}
use Rattle.bc_replay.specs.declared.error.OpenError.TheVariants as errors
use Rattle.bc_replay.specs.First.{IsFirstHead, IsReady}
use Rattle.bc_replay.specs.Heads.{NamesDevice}

-- this holds of the pair that two devices hold
abbrev pub OfHeld : (Pair → Type 0) → DiskFacts → DiskFacts → Type 0
OfHeld P cache backing = IfTold cache.holds (λ c. IfTold backing.holds (λ b. P (pair_of cache backing c b)))

-- ---- one superblock

-- a read of a device with room for a superblock gives this one, or refuses it for this reason, which is no fault
abbrev pub GivesBacking : DiskFacts → BackingSuper → Type 0
GivesBacking d b = (16 ≤ d.sectors) × ReadsSuper d b

abbrev pub GivesCache : DiskFacts → CacheSuper → Type 0
GivesCache d c = (16 ≤ d.sectors) × ReadsCache d c

abbrev pub RefusesBacking : DiskFacts → SuperError → Type 0
RefusesBacking d why = (why ≢ super.Fault) × IsCause d why × ((d.sectors < 16) → why ≡ super.DeviceSmall)

abbrev pub RefusesCache : DiskFacts → SuperError → Type 0
RefusesCache d why = (why ≢ super.Fault) × IsCacheCause d why × ((d.sectors < 16) → why ≡ super.DeviceSmall)

-- the answer to a superblock that can't be read
abbrev pub refusal : Device → SuperError → OpenError
refusal d super.Fault = errors.Fault d
refusal d why = errors.Super d why

-- why one isn't had
abbrev pub IsBackingCause : DiskFacts → OpenError → Type 0
IsBackingCause d (errors.Super device.Backing why) = RefusesBacking d why
IsBackingCause d (errors.Fault device.Backing) = Unit {0}
IsBackingCause d e = ⊥

abbrev pub IsCacheCauseOf : DiskFacts → OpenError → Type 0
IsCacheCauseOf d (errors.Super device.Cache why) = RefusesCache d why
IsCacheCauseOf d (errors.Fault device.Cache) = Unit {0}
IsCacheCauseOf d e = ⊥

-- why two of them don't fit each other
abbrev pub IsMisfit : BackingSuper → CacheSuper → OpenError → Type 0
IsMisfit b c (errors.Super device.Cache why) = ¬ (IsReady b c) × (why ≡ super.NotInitialised)
IsMisfit b c (errors.Super device.Backing why) = IsReady b c × (b.set_uuid ≢ c.set_uuid) × (why ≡ super.OtherSet)
IsMisfit b c e = ⊥

-- both superblocks are what reads give, they fit each other, and the cache device is divided so
pub record ReadsSupers (cache backing : DiskFacts) (b : BackingSuper) (c : CacheSuper) (g : Geometry) : Type 0 where
  pub backing_super : GivesBacking backing b
  pub cache_super : GivesCache cache c
  pub fit : HasSuperblocks b c
  pub geometry : IsGeometryOf c g

-- one call of a device with so many sectors; none of one that is too small for a superblock
abbrev pub IsReadOnce : ℕ → ℕ → ℕ → Type 0
IsReadOnce sectors old new = (16 ≤ sectors → new ≡ next_count old) × (sectors < 16 → new ≡ old)

-- Why they aren't had, and the cache device's count of calls before and behind its part: the backing device's first, and then the
-- cache device isn't called; then the cache device's; then both.
abbrev pub IsSupersCause : DiskFacts → DiskFacts → ℕ → ℕ → OpenError → Type 0
IsSupersCause cache backing old new e = (IsBackingCause backing e × (new ≡ old)) ⊎ ((b : BackingSuper) × GivesBacking backing b × IsReadOnce cache.sectors old new
    × (IsCacheCauseOf cache e ⊎ ((c : CacheSuper) × GivesCache cache c × IsMisfit b c e)))

-- so it is where a pair is refused for a superblock
abbrev pub EndsAtSupers : DiskFacts → DiskFacts → ℕ → ℕ → OpenError → Type 0
EndsAtSupers cache backing old new (errors.Super d why) = IsSupersCause cache backing old new (errors.Super d why)
EndsAtSupers cache backing old new e = Unit {0}

-- ---- counts of faults

-- the count of this device rose by one where a call of it failed, and else none did
abbrev pub CountsFault : OpenError → DiskFacts → DiskFacts → DiskFacts → DiskFacts → Type 0
CountsFault (errors.Fault device.Cache) cache cache' backing backing' = (cache'.faults ≡ next_count cache.faults) × (backing'.faults ≡ backing.faults)
CountsFault (errors.Fault device.Backing) cache cache' backing backing' = (cache'.faults ≡ cache.faults) × (backing'.faults ≡ next_count backing.faults)
CountsFault e cache cache' backing backing' = (cache'.faults ≡ cache.faults) × (backing'.faults ≡ backing.faults)

-- one device's count, of one call
abbrev pub RisesWith : {T : Type 0} → Result T OpenError → ℕ → ℕ → Type 0
RisesWith (Ok t) old new = new ≡ old
RisesWith (Err (errors.Fault d)) old new = new ≡ next_count old
RisesWith (Err e) old new = new ≡ old

-- ---- the table of uuids

-- it names the device, or it doesn't, where the device tells what it holds
abbrev pub DecidesNames : DiskFacts → Geometry → Key → List ℕ → Bool → Type 0
DecidesNames d g key uuid names = IfTold d.holds (λ image. MatchBool names (NamesDevice g image key uuid) (¬ (NamesDevice g image key uuid)))

abbrev pub FaultsWith : UuidError → ℕ → ℕ → Type 0
FaultsWith uuids.Fault old new = new ≡ next_count old
FaultsWith uuids.Memory old new = new ≡ old

-- ---- all of it

abbrev pub IsOpenCause : DiskFacts → DiskFacts → OpenError → Type 0
IsOpenCause cache backing (errors.Fault d) = Unit {0}
IsOpenCause cache backing errors.Memory = Unit {0}
IsOpenCause cache backing e = OfHeld (λ p. IsFirstHead p e) cache backing
