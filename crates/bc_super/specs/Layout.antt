-- How a cache device is divided when it is set up.
use Rattle.std.specs.Prelude.{◌≡◌, ℕ, ◌+◌, ◌-◌, ◌*◌, ◌/◌, ◌<◌, ◌≤◌, min, max}
use Rattle.bc_super.specs.Cache.{IsBlock, IsBucket, most_buckets}
use Rattle.bc_super.specs.Super.{Unless}
use Rattle.bc_super.specs.declared.error.SuperError.{SuperError}
use Rattle.bc_super.specs.declared.error.SuperError.TheVariants as errors
use Rattle.bc_super.specs.declared.layout.Layout.{Layout}

-- as many buckets as there is room for, and as may be
abbrev pub buckets_of : ℕ → ℕ → ℕ
buckets_of sectors bucket = min (sectors / bucket) (most_buckets bucket)

-- A priority set fills a bucket: 40 bytes, and then 3 for each bucket that it tells of.
abbrev pub per_set : ℕ → ℕ
per_set bucket = (512 * bucket - 40) / 3

pub record IsLaidOut (sectors : ℕ) (l : Layout) : Type 0 where
  pub block : IsBlock l.geometry.block
  pub bucket : IsBucket l.geometry.bucket
  pub nbuckets : l.geometry.nbuckets ≡ buckets_of sectors l.geometry.bucket
  pub enough : 128 ≤ l.geometry.nbuckets
  -- so that it begins behind the superblock, sector 23 included
  pub first_bucket : l.geometry.first_bucket ≡ 23 / l.geometry.bucket + 1
  pub journal : l.geometry.journal ≡ max 8 (min 256 (l.geometry.nbuckets / 128))
  pub set_magic : l.geometry.set_magic ≡ 0
  pub node_sectors : l.geometry.node_sectors ≡ min l.geometry.bucket 512
  -- as few priority sets as tell of all buckets
  pub hold : l.geometry.nbuckets ≤ l.p * per_set l.geometry.bucket
  pub few : (l.p - 1) * per_set l.geometry.bucket < l.geometry.nbuckets
  pub prio : l.prio ≡ l.geometry.first_bucket + l.geometry.journal
  pub uuid : l.uuid ≡ l.prio + l.p
  pub root : l.root ≡ l.uuid + 1
  pub leaf : l.leaf ≡ l.root + 1
  pub within : l.leaf < l.geometry.nbuckets

-- the first reason why it can't be divided so
abbrev pub IsLayoutRefused : ℕ → ℕ → ℕ → SuperError → Type 0
IsLayoutRefused sectors block bucket e =
    Unless (IsBlock block) (e ≡ errors.Block)
    (Unless (IsBucket bucket) (e ≡ errors.Bucket)
    (Unless (128 ≤ buckets_of sectors bucket) (e ≡ errors.FewBuckets) ⊥))
