-- Superblocks: the bytes from a device's sector 8 on, as `struct cache_sb_disk` in the kernel's `bcache_ondisk.h` lays
-- them out. A number has its lowest byte first, and bit 0 of the flags is the lowest one.
use Rattle.std.specs.Prelude.{◌≡◌, ◌≢◌, ◌⊎◌, ℕ, ◌+◌, ◌-◌, ◌*◌, ◌/◌, ◌%◌, ◌^◌, ◌<◌, ◌≤◌, min, replicate, List, [], ◌∷◌, slice_range, ◌==◌, if◌then◌else◌}
use Rattle.bc_bytes.specs.Fields.{number_at}
use Rattle.bc_bytes.specs.Checksum.{checksum}
use Rattle.bc_super.specs.declared.backing.BackingSuper.{BackingSuper}
use Rattle.bc_super.specs.declared.error.SuperError.{SuperError}
use Rattle.bc_super.specs.declared.error.SuperError.TheVariants as errors
use Rattle.bc_super.specs.declared.fields.Fields.{Fields}
use Rattle.bc_mode.specs.declared.mode.Mode.{Mode}
use Rattle.bc_mode.specs.declared.mode.Mode.TheVariants as modes
use Rattle.bc_super.specs.declared.state.BackingState.{BackingState}
use Rattle.bc_super.specs.declared.state.BackingState.TheVariants as states

-- ---- what the superblocks of both devices have

-- what tells a superblock from other bytes
abbrev pub magic : List ℕ
magic = 0xc6 ∷ 0x85 ∷ 0x73 ∷ 0xf6 ∷ 0x4e ∷ 0x1a ∷ 0x45 ∷ 0xca ∷ 0x82 ∷ 0x65 ∷ 0xf5 ∷ 0x7f ∷ 0x48 ∷ 0xba ∷ 0x6d ∷ 0x81 ∷ []

abbrev pub HasMagic : List ℕ → Type 0
HasMagic bytes = slice_range bytes 24 40 ≡ magic

-- where the superblock says that it stands
abbrev pub place_in : List ℕ → ℕ
place_in bytes = number_at 8 bytes 8

-- how many journal buckets it says that it lists
abbrev pub count_in : List ℕ → ℕ
count_in bytes = number_at 2 bytes 206

-- it tells the checksum of its bytes from the eighth to the end of the list, begun with all ones
abbrev pub HasChecksum : List ℕ → Type 0
HasChecksum bytes = number_at 8 bytes 0 ≡ checksum 0xffff_ffff_ffff_ffff (slice_range bytes 8 (208 + 8 * count_in bytes))

-- what a superblock of either kind is known by
pub record IsSuper (bytes : List ℕ) : Type 0 where
  pub has_magic : HasMagic bytes
  pub place : place_in bytes ≡ 8
  pub count : count_in bytes ≤ 256
  pub checksum : HasChecksum bytes

-- where each field stands
abbrev pub fields_in : List ℕ → Fields
fields_in bytes = record {
  version = number_at 8 bytes 16;
  uuid = slice_range bytes 40 56;
  set_uuid = slice_range bytes 56 72;
  label = slice_range bytes 72 104;
  flags = number_at 8 bytes 104;
  seq = number_at 8 bytes 112;
  features = slice_range bytes 120 144;
  nbuckets = number_at 8 bytes 184;
  block = number_at 2 bytes 192;
  bucket = number_at 2 bytes 194;
  devices = number_at 2 bytes 196;
  device = number_at 2 bytes 198;
  last_mount = number_at 4 bytes 200;
  first_bucket = number_at 2 bytes 204;
  journal = number_at 2 bytes 206;
}

-- A test, the answer where it fails, and what comes behind it, which is looked at only where it passes.
abbrev pub Unless : Type 0 → Type 0 → Type 0 → Type 0
Unless passes answer behind = ((passes → ⊥) × answer) ⊎ (passes × behind)

-- the first fault of what either kind is known by, and what comes behind it
abbrev pub FirstFault : List ℕ → SuperError → Type 0 → Type 0
FirstFault bytes e behind =
    Unless (HasMagic bytes) (e ≡ errors.Magic)
    (Unless (place_in bytes ≡ 8) (e ≡ errors.Place)
    (Unless (count_in bytes ≤ 256) (e ≡ errors.JournalList)
    (Unless (HasChecksum bytes) (e ≡ errors.Checksum) behind)))

-- ---- the superblock of a backing device

-- By version 1 data begins at sector 16, and by versions 4 and 6 at the sector that the field of the buckets tells.
-- Version 6 has feature words.
abbrev pub IsBackingVersion : ℕ → Type 0
IsBackingVersion version = (version ≡ 1) ⊎ (version ≡ 4) ⊎ (version ≡ 6)

-- By the version that has feature words none of them is set, since nothing is known of what they would ask for. By the
-- others they aren't looked at.
abbrev pub HasNoFeatures : ℕ → Fields → Type 0
HasNoFeatures version f = f.version ≡ version → f.features ≡ replicate 24 0

-- the fields of a backing device
abbrev pub backing_of : Fields → BackingSuper
backing_of f = record {
  version = f.version;
  uuid = f.uuid;
  set_uuid = f.set_uuid;
  label = f.label;
  flags = f.flags;
  seq = f.seq;
  block = f.block;
  last_mount = f.last_mount;
  data_offset = if f.version == 1 then 16 else f.nbuckets;
}

-- the first of the device's sectors that has data, behind those set aside
abbrev pub IsDataOffset : ℕ → ℕ → Type 0
IsDataOffset sectors offset = (16 ≤ offset) × (offset < sectors)

-- bits 0 to 3 of the flags, and bits 61 and 62
abbrev pub mode_number : ℕ → ℕ
mode_number flags = flags % 2 ^ 4

abbrev pub state_number : ℕ → ℕ
state_number flags = flags / 2 ^ 61 % 2 ^ 2

-- the mode that a number of four bits names
abbrev pub IsMode : ℕ → Mode → Type 0
IsMode n modes.Writethrough = (n ≡ 0) ⊎ (3 < n)
IsMode n modes.Writeback = n ≡ 1
IsMode n modes.Writearound = n ≡ 2
IsMode n modes.None = n ≡ 3

-- the state that a number of two bits names
abbrev pub IsState : ℕ → BackingState → Type 0
IsState n states.None = n ≡ 0
IsState n states.Clean = n ≡ 1
IsState n states.Dirty = n ≡ 2
IsState n states.Stale = n ≡ 3

-- how many sectors of a device with so many have data, of which the first 2^40 count
abbrev pub data_sectors : ℕ → BackingSuper → ℕ
data_sectors sectors s = min (sectors - s.data_offset) (2 ^ 40)

-- what a backing device with so many sectors may say of itself
pub record IsUsable (sectors : ℕ) (s : BackingSuper) : Type 0 where
  pub version : IsBackingVersion s.version
  pub fixed : s.version ≡ 1 → s.data_offset ≡ 16
  pub data_offset : IsDataOffset sectors s.data_offset
  pub state : state_number s.flags ≢ 3

-- the bytes are this superblock, on a device with so many sectors
pub record IsBackingSuper (bytes : List ℕ) (sectors : ℕ) (s : BackingSuper) : Type 0 where
  pub super : IsSuper bytes
  pub spelled : s ≡ backing_of (fields_in bytes)
  pub features : HasNoFeatures 6 (fields_in bytes)
  pub usable : IsUsable sectors s

-- the bytes are no superblock that can be used, and this is the first reason
abbrev pub IsRefused : List ℕ → ℕ → SuperError → Type 0
IsRefused bytes sectors e = let s = backing_of (fields_in bytes) in
    FirstFault bytes e
    (Unless (IsBackingVersion s.version) (e ≡ errors.Version s.version)
    (Unless (HasNoFeatures 6 (fields_in bytes)) (e ≡ errors.Features)
    (Unless (IsDataOffset sectors s.data_offset) (e ≡ errors.DataOffset)
    (Unless (state_number s.flags ≢ 3) (e ≡ errors.Stale) ⊥))))

-- ---- the numbers of errors

-- the number by which an error is printed
abbrev pub number_of : SuperError → ℕ
number_of errors.Magic = 1
number_of errors.Checksum = 2
number_of (errors.Version n) = 3
number_of errors.Place = 4
number_of errors.Block = 5
number_of errors.Bucket = 6
number_of errors.FewBuckets = 7
number_of errors.ManyBuckets = 8
number_of errors.DeviceSmall = 9
number_of errors.ZeroUuid = 10
number_of errors.SetNumber = 11
number_of errors.FirstBucket = 12
number_of errors.JournalList = 13
number_of errors.DataOffset = 14
number_of errors.NotInitialised = 15
number_of errors.Stale = 16
number_of errors.OtherSet = 17
number_of errors.Initialised = 18
number_of errors.Fault = 19
number_of errors.Features = 20
