-- What is written of a pair that is made, and what that leaves of its two devices.
use Rattle.std.specs.Prelude.{◌≡◌, ◌⊎◌, ℕ, ◌+◌, ◌*◌, ◌%◌, ◌^◌, ◌<◌, ◌≤◌, List, replicate, Result, Ok, Err, ◌==◌, if◌then◌else◌}
use Rattle.bc_model.specs.Sector.{Image, values_of}
use Rattle.bc_disk.specs.Disk.{DiskFacts, IfTold, BothTold}
use Rattle.bc_disk.specs.declared.disk.Device.{Device}
use Rattle.bc_disk.specs.declared.disk.Device.TheVariants as device
use Rattle.bc_mode.specs.declared.mode.Mode.{Mode}
use Rattle.bc_mode.specs.declared.mode.Mode.TheVariants as modes
use Rattle.bc_super.specs.Super.{state_number}
use Rattle.bc_super.specs.Writing.{IsBackingStored, IsBackingTorn, IsCacheBytes, AreCounted}
use Rattle.bc_super.specs.declared.backing.BackingSuper.{BackingSuper}
use Rattle.bc_super.specs.declared.cache.CacheSuper.{CacheSuper}
use Rattle.bc_super.specs.declared.layout.Layout.{Layout}
use Rattle.bc_disk.specs.declared.geometry.Geometry.{Geometry}
use Rattle.bc_disk.specs.Chain.{sets_in_chain}
use Rattle.bc_pair.specs.declared.records.Records.{Records}
use Rattle.bc_pair.specs.Records.{AreNew, AreWrites, IsRecordSector}
use Rattle.bc_pair.specs.Runs.{Run, over, written_over}
use Rattle.bc_pair.specs.declared.pair.NewPair.{NewPair}

-- ---- the superblocks

-- of a new pair: a set that was set up, whose victim is the bucket that was used longest ago, and no times
abbrev pub new_cache : NewPair → Layout → CacheSuper
new_cache p l = record {
  version = 3;
  uuid = p.cache_uuid;
  set_uuid = p.set_uuid;
  label = replicate 32 0;
  flags = 1;
  seq = 0;
  nbuckets = l.geometry.nbuckets;
  block = p.block;
  bucket = p.bucket;
  last_mount = 0;
  first_bucket = l.geometry.first_bucket;
  journal = l.geometry.journal;
}

-- the number by which flags name a mode
abbrev pub mode_bits : Mode → ℕ
mode_bits modes.Writethrough = 0
mode_bits modes.Writeback = 1
mode_bits modes.Writearound = 2
mode_bits modes.None = 3

-- of this mode, and clean
abbrev pub flags_for : Mode → ℕ
flags_for mode = mode_bits mode + 2 ^ 61

-- By version 1 data begins at sector 16, so another place is told by version 4.
abbrev pub version_for : ℕ → ℕ
version_for offset = if offset == 16 then 1 else 4

-- in its mode, clean, and with its data where it is to begin
abbrev pub new_backing : NewPair → BackingSuper
new_backing p = record {
  version = version_for p.offset;
  uuid = p.backing_uuid;
  set_uuid = p.set_uuid;
  label = replicate 32 0;
  flags = flags_for p.mode;
  seq = 0;
  block = p.block;
  last_mount = 0;
  data_offset = p.offset;
}

-- a pair that another tool formatted and that no cache was set up for
abbrev pub IsUnused : CacheSuper → BackingSuper → Type 0
IsUnused c b = (c.flags % 2 ≡ 0) × (c.journal ≡ 0) × (state_number b.flags ≡ 0)

-- the version of a cache device in use: one that has feature words keeps it
abbrev pub version_in_use : ℕ → ℕ
version_in_use version = if version == 5 then 5 else 3

-- what becomes of its superblocks: bit 0 of the flags says that the cache was set up, and bit 61 that the state is clean
abbrev pub adopted_cache : CacheSuper → Layout → CacheSuper
adopted_cache c l = record c { version = version_in_use c.version; flags = c.flags + 1; first_bucket = l.geometry.first_bucket; journal = l.geometry.journal }

abbrev pub adopted_backing : CacheSuper → BackingSuper → BackingSuper
adopted_backing c b = record b { set_uuid = c.set_uuid; flags = b.flags + 2 ^ 61 }

-- ---- the cache device

-- what the cache device of such a pair is made of: new records, and its superblock
pub record IsMadeImage (g : Geometry) (c : CacheSuper) (b : BackingSuper) (old new : Image) : Type 0 where
  pub super : List ℕ
  pub is_super : IsCacheBytes super c
  pub records : Records
  pub are_new : AreNew g b records
  pub runs : List Run
  pub are_runs : AreWrites g records runs
  pub is : (s : ℕ) → new s ≡ over 8 (values_of super) (written_over runs old) s

-- the device holds that, each other sector is as it was, and a crash leaves what the device holds
pub record IsMadeCache (g : Geometry) (c : CacheSuper) (b : BackingSuper) (old new : DiskFacts) : Type 0 where
  pub sectors : new.sectors ≡ old.sectors
  pub holds : BothTold (IsMadeImage g c b) old.holds new.holds
  pub leaves : IfTold new.holds (λ held. (image : Image) → new.may_leave image → (s : ℕ) → image s ≡ held s)

-- the sectors that are written of it
abbrev pub IsWrittenSector : Geometry → ℕ → Type 0
IsWrittenSector g s = ((8 ≤ s) × (s < 13)) ⊎ IsRecordSector g s

-- A call failed on the way: no other sector was written, and whatever a crash leaves has the first sector of the superblock as
-- it might have been before, or else is the whole.
pub record IsUnfinished (g : Geometry) (c : CacheSuper) (b : BackingSuper) (old new : DiskFacts) : Type 0 where
  pub sectors : new.sectors ≡ old.sectors
  pub holds : BothTold (λ (a z : Image). (s : ℕ) → (IsWrittenSector g s → ⊥) → z s ≡ a s) old.holds new.holds
  pub leaves : IfTold old.holds (λ held. (image : Image) → new.may_leave image
      → ((before : Image) × old.may_leave before × (image 8 ≡ before 8)) ⊎ ((whole : Image) × IsMadeImage g c b held whole × ((s : ℕ) → image s ≡ whole s)))

-- ---- both devices

-- How many calls make the cache device: one for each journal bucket, one for entry 1, one for each set of the chain, the table and two
-- nodes, a barrier, and the superblock's four.
abbrev pub record_calls : Geometry → ℕ
record_calls g = g.journal + 1 + sets_in_chain g + (1 + 2)

abbrev pub cache_calls : Geometry → ℕ
cache_calls g = record_calls g + 1 + 4

-- The pair was written: the cache device first, and where none of its calls failed, the superblock of the backing device.
abbrev pub PairWritten : {C B : Type 0} → (C → DiskFacts) → (B → DiskFacts) → Geometry → CacheSuper → BackingSuper → Result (Unit {0}) Device → C → C → B → B → Type 0
PairWritten cache_facts backing_facts g c b (Ok _) cache cache' backing backing' =
    IsMadeCache g c b (cache_facts cache) (cache_facts cache') × AreCounted {E = Device} (cache_calls g) (Ok tt) (cache_facts cache) (cache_facts cache')
    × IsBackingStored b (backing_facts backing) (backing_facts backing') × AreCounted {E = Device} 2 (Ok tt) (backing_facts backing) (backing_facts backing')
PairWritten cache_facts backing_facts g c b (Err device.Cache) cache cache' backing backing' =
    IsUnfinished g c b (cache_facts cache) (cache_facts cache') × AreCounted (cache_calls g) (Err device.Cache) (cache_facts cache) (cache_facts cache')
    × (backing' ≡ backing)
PairWritten cache_facts backing_facts g c b (Err device.Backing) cache cache' backing backing' =
    IsMadeCache g c b (cache_facts cache) (cache_facts cache') × AreCounted {E = Device} (cache_calls g) (Ok tt) (cache_facts cache) (cache_facts cache')
    × IsBackingTorn b (backing_facts backing) (backing_facts backing') × AreCounted 2 (Err device.Backing) (backing_facts backing) (backing_facts backing')
