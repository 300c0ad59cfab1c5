-- What a reader finds of a pair before it comes to the index.
use Rattle.std.specs.Prelude.{◌≡◌, ℕ, ◌<◌, List, slice_index_or}
use Rattle.bc_disk.specs.Gens.{Gens}
use Rattle.bc_disk.specs.declared.geometry.Geometry.{Geometry}
use Rattle.bc_entries.specs.Journal.{Journal, HasJournal}
use Rattle.bc_image.specs.Pair.{Pair, HasBacking, HasCache}
use Rattle.bc_image.specs.Pointers.{PointsIntoData, PointsInto}
use Rattle.bc_image.specs.Sound.{HasSuperblocks}
use Rattle.bc_key.specs.declared.key.Key.{Key}
use Rattle.bc_model.specs.Sector.{Image}
use Rattle.bc_prio.specs.Records.{ChainIn}
use Rattle.bc_super.specs.Division.{IsGeometryOf}
use Rattle.bc_super.specs.declared.backing.BackingSuper.{BackingSuper}
use Rattle.bc_super.specs.declared.cache.CacheSuper.{CacheSuper}
use Rattle.bc_uuid.specs.declared.entry.UuidEntry.{UuidEntry}
use Rattle.bc_uuid.specs.Table.{TableIn}

-- the superblocks of a pair, which fit each other
pub record HasSupers (p : Pair) (b : BackingSuper) (c : CacheSuper) (g : Geometry) : Type 0 where
  pub backing : HasBacking p b
  pub cache : HasCache p c
  pub fit : HasSuperblocks b c
  pub geometry : IsGeometryOf c g

-- a table names this device first
abbrev pub NamesFirst : List UuidEntry → List ℕ → Type 0
NamesFirst entries uuid = (d : UuidEntry) → (slice_index_or entries 0 d).uuid ≡ uuid

-- The table of uuids that a key points to, in the bucket of its first pointer, names this device first. Each
-- pointer of the key points into the data buckets.
pub record NamesDevice (g : Geometry) (image : Image) (key : Key) (uuid : List ℕ) : Type 0 where
  pub some : 0 < key.count
  pub ptrs : PointsIntoData g key
  pub bucket : ℕ
  pub place : PointsInto g key bucket
  pub entries : List UuidEntry
  pub table : TableIn g image bucket entries
  pub first : NamesFirst entries uuid

-- what was found up to there
pub record HasHeads (p : Pair) (b : BackingSuper) (c : CacheSuper) (g : Geometry) (j : Journal) (gens : Gens) : Type 0 where
  pub supers : HasSupers p b c g
  pub journal : HasJournal g p.cache j
  pub chain : ChainIn g p.cache journal.entries.newest.item.prio gens
  pub uuids : NamesDevice g p.cache journal.entries.newest.item.uuid_bucket b.uuid
