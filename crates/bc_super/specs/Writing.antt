-- What is written of a superblock, and what that leaves of the device.
use Rattle.std.specs.Prelude.{◌≡◌, ◌⊎◌, ℕ, zero, suc, ◌+◌, ◌-◌, ◌*◌, ◌<◌, ◌≤◌, List, [], ◌∷◌, length, take, drop, replicate, slice_range, Some, ◌==◌, if◌then◌else◌, Result, Ok, Err}
use Rattle.bc_bytes.specs.Fields.{number_at}
use Rattle.bc_model.specs.Sector.{Value, Image, at_run, unless, values_of}
use Rattle.bc_disk.specs.Device.{next_count}
use Rattle.bc_disk.specs.Disk.{DiskFacts, IfTold, BothTold, Overwritten, IsFailedWrite}
use Rattle.bc_super.specs.Cache.{Lists}
use Rattle.bc_super.specs.Super.{HasMagic, IsSuper, fields_in, place_in}
use Rattle.bc_super.specs.declared.backing.BackingSuper.{BackingSuper}
use Rattle.bc_super.specs.declared.cache.CacheSuper.{CacheSuper}
use Rattle.bc_super.specs.declared.fields.Fields.{Fields}

-- the fields up to the feature words
pub record HasNames (bytes : List ℕ) (f : Fields) : Type 0 where
  pub has_magic : HasMagic bytes
  pub place : place_in bytes ≡ 8
  pub version : number_at 8 bytes 16 ≡ f.version
  pub uuid : slice_range bytes 40 56 ≡ f.uuid
  pub set_uuid : slice_range bytes 56 72 ≡ f.set_uuid
  pub label : slice_range bytes 72 104 ≡ f.label
  pub flags : number_at 8 bytes 104 ≡ f.flags
  pub seq : number_at 8 bytes 112 ≡ f.seq

-- the fields behind the pad
pub record HasLayout (bytes : List ℕ) (f : Fields) : Type 0 where
  pub nbuckets : number_at 8 bytes 184 ≡ f.nbuckets
  pub block : number_at 2 bytes 192 ≡ f.block
  pub bucket : number_at 2 bytes 194 ≡ f.bucket
  pub devices : number_at 2 bytes 196 ≡ f.devices
  pub device : number_at 2 bytes 198 ≡ f.device
  pub last_mount : number_at 4 bytes 200 ≡ f.last_mount
  pub first_bucket : number_at 2 bytes 204 ≡ f.first_bucket
  pub journal : number_at 2 bytes 206 ≡ f.journal

-- ---- what any write of whole sectors leaves

-- the values stand on the disk, and a crash leaves what the disk holds
pub record IsStored (at : ℕ) (values : List Value) (old new : DiskFacts) : Type 0 where
  pub sectors : new.sectors ≡ old.sectors
  pub holds : BothTold (Overwritten at values) old.holds new.holds
  pub leaves : IfTold new.holds (λ held. (image : Image) → new.may_leave image → (s : ℕ) → image s ≡ held s)

-- a count after some more calls
abbrev pub count_after : ℕ → ℕ → ℕ
count_after zero count = count
count_after (suc n) count = next_count (count_after n count)

-- so many calls were made, or fewer of which the last one failed
abbrev pub AreCounted : {E : Type 0} → ℕ → Result (Unit {0}) E → DiskFacts → DiskFacts → Type 0
AreCounted n (Ok _) old new = (new.calls ≡ count_after n old.calls) × (new.faults ≡ old.faults)
AreCounted n (Err _) old new = ((k : ℕ) × (0 < k) × (k ≤ n) × (new.calls ≡ count_after k old.calls)) × (new.faults ≡ next_count old.faults)

-- ---- the superblock of a backing device

-- its fields as they are written
abbrev pub fields_of : BackingSuper → Fields
fields_of s = record {
  version = s.version;
  uuid = s.uuid;
  set_uuid = s.set_uuid;
  label = s.label;
  flags = s.flags;
  seq = s.seq;
  features = replicate 24 0;
  nbuckets = if s.version == 1 then 0 else s.data_offset;
  block = s.block;
  bucket = 0;
  devices = 0;
  device = 0;
  last_mount = s.last_mount;
  first_bucket = 0;
  journal = 0;
}

-- the one sector that it needs: what it is known by, its fields, and zeros
pub record IsBackingSector (bytes : List ℕ) (s : BackingSuper) : Type 0 where
  pub whole : length bytes ≡ 512
  pub super : IsSuper bytes
  pub fields : fields_in bytes ≡ fields_of s
  pub features_and_pad : slice_range bytes 120 184 ≡ replicate 64 0
  pub behind : slice_range bytes 208 512 ≡ replicate 304 0

-- sector 8 has it and each other sector its old value, and that is what a crash leaves
abbrev pub IsBackingStored : BackingSuper → DiskFacts → DiskFacts → Type 0
IsBackingStored s old new = (bytes : List ℕ) × IsBackingSector bytes s × IsStored 8 (bytes ∷ []) old new

-- sector 8 has it, whole, or its old value, and so a crash may leave it; each other sector is as it was
abbrev pub IsBackingTorn : BackingSuper → DiskFacts → DiskFacts → Type 0
IsBackingTorn s old new = (bytes : List ℕ) × IsBackingSector bytes s × IsFailedWrite 8 (bytes ∷ []) old new

-- ---- the superblock of a cache device

-- its fields as they are written: it is the one device of its set
abbrev pub cache_fields_of : CacheSuper → Fields
cache_fields_of s = record {
  version = s.version;
  uuid = s.uuid;
  set_uuid = s.set_uuid;
  label = s.label;
  flags = s.flags;
  seq = s.seq;
  features = replicate 24 0;
  nbuckets = s.nbuckets;
  block = s.block;
  bucket = s.bucket;
  devices = 1;
  device = 0;
  last_mount = s.last_mount;
  first_bucket = s.first_bucket;
  journal = s.journal;
}

-- the five sectors that it needs: what it is known by, its fields, its list, and zeros
pub record IsCacheBytes (bytes : List ℕ) (s : CacheSuper) : Type 0 where
  pub whole : length bytes ≡ 2560
  pub super : IsSuper bytes
  pub fields : fields_in bytes ≡ cache_fields_of s
  pub list : Lists bytes s.first_bucket s.journal
  pub features_and_pad : slice_range bytes 120 184 ≡ replicate 64 0
  pub behind : slice_range bytes (208 + 8 * s.journal) 2560 ≡ replicate (2352 - 8 * s.journal) 0

-- sectors 8 to 12 have it and each other sector its old value, and that is what a crash leaves
abbrev pub IsCacheStored : CacheSuper → DiskFacts → DiskFacts → Type 0
IsCacheStored s old new = (bytes : List ℕ) × IsCacheBytes bytes s × IsStored 8 (values_of bytes) old new

-- the values stand on the disk from `at` on, and the sector before them has this value or its old one
abbrev pub LastTorn : ℕ → List Value → Value → Image → Image → Type 0
LastTorn at values last old new = (s : ℕ) → (new s ≡ unless (at_run (suc at) values s) (old s)) ⊎ (at_run at (last ∷ []) s ≡ Some (new s))

-- so the disk stands, and so a crash leaves it
pub record IsLastTorn (at : ℕ) (values : List Value) (last : Value) (old new : DiskFacts) : Type 0 where
  pub sectors : new.sectors ≡ old.sectors
  pub holds : BothTold (LastTorn at values last) old.holds new.holds
  pub leaves : IfTold old.holds (λ held. (image : Image) → new.may_leave image → LastTorn at values last held image)

-- Sector 8 is as it was, and each of sectors 9 to 12 has its new value or its old one; or these four have the new ones,
-- and sector 8 has its new value or its old one. A crash leaves no other.
abbrev pub IsCacheTorn : CacheSuper → DiskFacts → DiskFacts → Type 0
IsCacheTorn s old new = (bytes : List ℕ) × IsCacheBytes bytes s
    × (IsFailedWrite 9 (values_of (drop 512 bytes)) old new ⊎ IsLastTorn 8 (values_of (drop 512 bytes)) (take 512 bytes) old new)
