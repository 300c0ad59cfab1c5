-- Two images, of a cache device and of a backing device, and their superblocks.
use Rattle.std.specs.Prelude.{ℕ, ◌≤◌, List}
use Rattle.bc_model.specs.Sector.{Image}
use Rattle.bc_record.specs.Sectors.{bytes_in}
use Rattle.bc_super.specs.Cache.{IsCacheSuper}
use Rattle.bc_super.specs.Super.{IsBackingSuper}
use Rattle.bc_super.specs.declared.backing.BackingSuper.{BackingSuper}
use Rattle.bc_super.specs.declared.cache.CacheSuper.{CacheSuper}

-- what each of the two devices holds, and how many sectors it has
pub record Pair : Type 0 where
  pub cache : Image
  pub cache_sectors : ℕ
  pub backing : Image
  pub backing_sectors : ℕ

-- the bytes of the five sectors in which a superblock stands
abbrev pub super_bytes : Image → List ℕ
super_bytes image = bytes_in image 8 5

-- the superblock of each device
abbrev pub HasCache : Pair → CacheSuper → Type 0
HasCache p s = (16 ≤ p.cache_sectors) × IsCacheSuper (super_bytes p.cache) p.cache_sectors s

abbrev pub HasBacking : Pair → BackingSuper → Type 0
HasBacking p s = (16 ≤ p.backing_sectors) × IsBackingSuper (super_bytes p.backing) p.backing_sectors s
