-- The superblock of a cache device.
use Rattle.std.specs.Prelude.{◌≡◌, ◌≢◌, ◌⊎◌, ℕ, ◌+◌, ◌*◌, ◌%◌, ◌^◌, ◌<◌, ◌≤◌, min, List, replicate}
use Rattle.bc_bytes.specs.Fields.{number_at}
use Rattle.bc_super.specs.Super.{HasNoFeatures, IsSuper, Unless, FirstFault, fields_in}
use Rattle.bc_super.specs.declared.cache.CacheSuper.{CacheSuper}
use Rattle.bc_super.specs.declared.error.SuperError.{SuperError}
use Rattle.bc_super.specs.declared.error.SuperError.TheVariants as errors
use Rattle.bc_super.specs.declared.fields.Fields.{Fields}

-- the fields of a cache device
abbrev pub cache_of : Fields → CacheSuper
cache_of f = record {
  version = f.version;
  uuid = f.uuid;
  set_uuid = f.set_uuid;
  label = f.label;
  flags = f.flags;
  seq = f.seq;
  nbuckets = f.nbuckets;
  block = f.block;
  bucket = f.bucket;
  last_mount = f.last_mount;
  first_bucket = f.first_bucket;
  journal = f.journal;
}

-- version 5 has feature words
abbrev pub IsCacheVersion : ℕ → Type 0
IsCacheVersion version = (version ≡ 0) ⊎ (version ≡ 3) ⊎ (version ≡ 5)

-- what a block and a bucket may have, in sectors
abbrev pub IsBlock : ℕ → Type 0
IsBlock block = (block ≡ 1) ⊎ (block ≡ 2) ⊎ (block ≡ 4) ⊎ (block ≡ 8)

abbrev pub IsBucket : ℕ → Type 0
IsBucket bucket = (k : ℕ) × (6 ≤ k) × (k ≤ 15) × (bucket ≡ 2 ^ k)

-- the most buckets that a device may have, by the sectors of one
abbrev pub most_buckets : ℕ → ℕ
most_buckets bucket = min (1024 * bucket) 1048576

-- the first bucket begins behind the sectors set aside, and is one of the device's
abbrev pub IsFirstBucket : ℕ → ℕ → ℕ → Type 0
IsFirstBucket bucket nbuckets first = (16 ≤ first * bucket) × (first < nbuckets)

-- bit 0 of the flags says that the device was set up
abbrev pub HasSync : ℕ → Type 0
HasSync flags = flags % 2 ≡ 1

-- a journal is one of 8 buckets or more on a device that was set up, where there is one
abbrev pub IsJournalCount : ℕ → ℕ → Type 0
IsJournalCount flags count = HasSync flags → (count ≡ 0) ⊎ (8 ≤ count)

-- the list has so many items, the buckets from the first one on
abbrev pub Lists : List ℕ → ℕ → ℕ → Type 0
Lists bytes first count = (i : ℕ) → i < count → number_at 8 bytes (208 + 8 * i) ≡ first + i

-- what a cache device with so many sectors may say of itself
pub record IsUsableCache (sectors : ℕ) (s : CacheSuper) : Type 0 where
  pub version : IsCacheVersion s.version
  pub block : IsBlock s.block
  pub bucket : IsBucket s.bucket
  pub fewest : 128 ≤ s.nbuckets
  pub most : s.nbuckets ≤ most_buckets s.bucket
  pub room : s.bucket * s.nbuckets ≤ sectors
  pub set_uuid : s.set_uuid ≢ replicate 16 0
  pub first_bucket : IsFirstBucket s.bucket s.nbuckets s.first_bucket
  pub few : s.journal ≤ 256
  pub count : IsJournalCount s.flags s.journal
  pub within : s.first_bucket + s.journal ≤ s.nbuckets

-- the bytes are this superblock, on a device with so many sectors
pub record IsCacheSuper (bytes : List ℕ) (sectors : ℕ) (s : CacheSuper) : Type 0 where
  pub super : IsSuper bytes
  pub spelled : s ≡ cache_of (fields_in bytes)
  pub features : HasNoFeatures 5 (fields_in bytes)
  -- the one device of its set
  pub set_number : ((fields_in bytes).devices ≡ 1) × ((fields_in bytes).device ≡ 0)
  pub list : Lists bytes s.first_bucket s.journal
  pub usable : IsUsableCache sectors s

-- the first fault of how a cache device is divided, and what comes behind it
abbrev pub FirstLayoutFault : ℕ → Fields → SuperError → Type 0 → Type 0
FirstLayoutFault sectors f e behind =
    Unless (IsCacheVersion f.version) (e ≡ errors.Version f.version)
    (Unless (HasNoFeatures 5 f) (e ≡ errors.Features)
    (Unless (IsBlock f.block) (e ≡ errors.Block)
    (Unless (IsBucket f.bucket) (e ≡ errors.Bucket)
    (Unless (128 ≤ f.nbuckets) (e ≡ errors.FewBuckets)
    (Unless (f.nbuckets ≤ most_buckets f.bucket) (e ≡ errors.ManyBuckets)
    (Unless (f.bucket * f.nbuckets ≤ sectors) (e ≡ errors.DeviceSmall)
    (Unless (f.set_uuid ≢ replicate 16 0) (e ≡ errors.ZeroUuid)
    (Unless ((f.devices ≡ 1) × (f.device ≡ 0)) (e ≡ errors.SetNumber)
    (Unless (IsFirstBucket f.bucket f.nbuckets f.first_bucket) (e ≡ errors.FirstBucket) behind)))))))))

-- what passes those tests
pub record IsLayout (sectors : ℕ) (f : Fields) : Type 0 where
  pub version : IsCacheVersion f.version
  pub features : HasNoFeatures 5 f
  pub block : IsBlock f.block
  pub bucket : IsBucket f.bucket
  pub fewest : 128 ≤ f.nbuckets
  pub most : f.nbuckets ≤ most_buckets f.bucket
  pub room : f.bucket * f.nbuckets ≤ sectors
  pub set_uuid : f.set_uuid ≢ replicate 16 0
  pub set_number : (f.devices ≡ 1) × (f.device ≡ 0)
  pub first_bucket : IsFirstBucket f.bucket f.nbuckets f.first_bucket

-- the journal's buckets are those that it may have
pub record HasJournal (bytes : List ℕ) (f : Fields) : Type 0 where
  pub count : IsJournalCount f.flags f.journal
  pub within : f.first_bucket + f.journal ≤ f.nbuckets
  pub list : Lists bytes f.first_bucket f.journal

-- the bytes are no superblock that can be used, and this is the first reason
abbrev pub IsCacheRefused : List ℕ → ℕ → SuperError → Type 0
IsCacheRefused bytes sectors e = let f = fields_in bytes in
    FirstFault bytes e (FirstLayoutFault sectors f e (Unless (HasJournal bytes f) (e ≡ errors.JournalList) ⊥))

-- the device was set up, and has a journal
abbrev pub IsInitialised : CacheSuper → Type 0
IsInitialised s = HasSync s.flags × (0 < s.journal)
