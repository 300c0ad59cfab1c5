-- What is found on the two devices of a pair that was made.
use Rattle.std.specs.Prelude.{◌≡◌, ℕ, ◌+◌, ◌*◌, ◌<◌, ◌≤◌}
use Rattle.bc_disk.specs.Disk.{DiskFacts, IfTold}
use Rattle.bc_disk.specs.declared.geometry.Geometry.{Geometry}
use Rattle.bc_super.specs.Layout.{IsLaidOut}
use Rattle.bc_super.specs.Reading.{OnlyReads, OnlyReadsCache, ReadsCache, ReadsSuper}
use Rattle.bc_super.specs.declared.backing.BackingSuper.{BackingSuper}
use Rattle.bc_super.specs.declared.cache.CacheSuper.{CacheSuper}
use Rattle.bc_super.specs.declared.layout.Layout.{Layout}
use Rattle.bc_model.specs.Sector.{Image}
use Rattle.bc_super.specs.Division.{IsGeometryOf}
use Rattle.bc_image.specs.Pair.{Pair}
use Rattle.bc_image.specs.Formatted.{IsFormatted}
use Rattle.bc_image.specs.Sound.{HasSuperblocks}
use Rattle.bc_pair.specs.declared.pair.NewPair.{NewPair}
use Rattle.bc_pair.specs.Made.{adopted_backing, adopted_cache, new_backing, new_cache}

-- the sectors of the journal's buckets
abbrev pub IsJournalSector : Geometry → ℕ → Type 0
IsJournalSector g s = (g.bucket * g.first_bucket ≤ s) × (s < g.bucket * (g.first_bucket + g.journal))

-- two images as those of a pair of devices
abbrev pub pair_of : DiskFacts → DiskFacts → Image → Image → Pair
pair_of cache backing c b = record { cache = c; cache_sectors = cache.sectors; backing = b; backing_sectors = backing.sectors }

-- where both devices tell what they hold, this holds of the pair that they hold and of each that a crash leaves
pub record OfEachPair (P : Pair → Type 0) (cache backing : DiskFacts) : Type 0 where
  pub held : IfTold cache.holds (λ c. IfTold backing.holds (λ b. P (pair_of cache backing c b)))
  pub crashed : IfTold cache.holds (λ _. IfTold backing.holds (λ _. (c b : Image) → cache.may_leave c → backing.may_leave b → P (pair_of cache backing c b)))

-- these superblocks are what is read, and the pair is formatted
pub record IsPair (g : Geometry) (c : CacheSuper) (b : BackingSuper) (cache backing : DiskFacts) : Type 0 where
  pub geometry : IsGeometryOf c g
  pub superblocks : HasSuperblocks b c
  pub cache_super : OnlyReadsCache cache c
  pub backing_super : OnlyReads backing b
  pub formatted : OfEachPair (λ p. IsFormatted p b c g) cache backing

-- the new pair is found, on a cache device of so many sectors
abbrev pub FindsNew : NewPair → ℕ → DiskFacts → DiskFacts → Type 0
FindsNew p sectors cache backing = (l : Layout) × IsLaidOut sectors l × (l.geometry.block ≡ p.block) × (l.geometry.bucket ≡ p.bucket)
    × ((g : Geometry) × IsPair g (new_cache p l) (new_backing p) cache backing)

-- the pair is found that becomes of what was read before
abbrev pub FindsAdopted : DiskFacts → DiskFacts → DiskFacts → DiskFacts → Type 0
FindsAdopted cache cache' backing backing' = (c : CacheSuper) × ReadsCache cache c × ((b : BackingSuper) × ReadsSuper backing b
    × ((l : Layout) × IsLaidOut (c.bucket * c.nbuckets) l × (l.geometry.block ≡ c.block) × (l.geometry.bucket ≡ c.bucket)
    × ((g : Geometry) × IsPair g (adopted_cache c l) (adopted_backing c b) cache' backing')))
