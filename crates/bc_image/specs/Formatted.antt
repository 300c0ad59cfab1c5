-- A pair that was made anew: an empty index over the data of the backing device.
use Rattle.std.specs.Prelude.{◌≡◌, ℕ, ◌+◌, ◌*◌, ◌/◌, ◌^◌, ◌<◌, ◌≤◌, min, max, List, [], ◌∷◌, length, slice_index_or}
use Rattle.bc_disk.specs.Gens.{Gens}
use Rattle.bc_disk.specs.declared.geometry.Geometry.{Geometry}
use Rattle.bc_model.specs.Sector.{Image}
use Rattle.bc_model.specs.Pattern.{zeros}
use Rattle.bc_jset.specs.declared.entry.JEntry.{JEntry}
use Rattle.bc_jset.specs.Entries.{bucket_start, bucket_end}
use Rattle.bc_jset.specs.Records.{entry_sectors, EntryFound}
use Rattle.bc_key.specs.declared.key.Key.{Key}
use Rattle.bc_key.specs.Key.{ptr_at}
use Rattle.bc_key.specs.Words.{ptr_word}
use Rattle.bc_prio.specs.Records.{ChainIn}
use Rattle.bc_disk.specs.Chain.{sets_in_chain}
use Rattle.bc_set.specs.declared.set.Set.{Set}
use Rattle.bc_set.specs.Records.{set_sectors, SetFound}
use Rattle.bc_super.specs.Division.{IsGeometryOf}
use Rattle.bc_super.specs.declared.backing.BackingSuper.{BackingSuper}
use Rattle.bc_super.specs.declared.cache.CacheSuper.{CacheSuper}
use Rattle.bc_uuid.specs.declared.entry.UuidEntry.{UuidEntry}
use Rattle.bc_uuid.specs.Table.{TableIn}
use Rattle.bc_image.specs.Pair.{Pair, HasBacking, HasCache}
use Rattle.bc_image.specs.Tree.{kind_at}

-- Behind the journal there are the sets of generations, the uuid table, the root, and one leaf.
abbrev pub first_set : Geometry → ℕ
first_set g = g.first_bucket + g.journal

abbrev pub table_bucket : Geometry → ℕ
table_bucket g = first_set g + sets_in_chain g

abbrev pub root_bucket : Geometry → ℕ
root_bucket g = table_bucket g + 1

abbrev pub leaf_bucket : Geometry → ℕ
leaf_bucket g = root_bucket g + 1

-- all sectors from one up to another are zero
abbrev pub AreBlank : Image → ℕ → ℕ → Type 0
AreBlank image from to = (s : ℕ) → from ≤ s → s < to → image s ≡ zeros

-- the key has one pointer, of generation 0 and to the first sector of a bucket
pub record IsKeyTo (g : Geometry) (bucket end size : ℕ) (key : Key) : Type 0 where
  pub ends : key.end ≡ end
  pub long : key.size ≡ size
  pub count : key.count ≡ 1
  pub device : (ptr_at key 0).dev ≡ 0
  pub offset : (ptr_at key 0).offset ≡ g.bucket * bucket
  pub generation : (ptr_at key 0).generation ≡ 0

-- entry 1 stands in the first sector of the journal, and behind it there are zeros
pub record HasFirstEntry (g : Geometry) (image : Image) (e : JEntry) : Type 0 where
  pub stands : EntryFound g image (bucket_end g 0) (bucket_start g 0) e
  pub blank : AreBlank image (bucket_start g 0 + entry_sectors g e) (bucket_start g g.journal)
  pub seq : e.seq ≡ 1
  pub last_seq : e.last_seq ≡ 1
  pub level : e.level ≡ 1
  pub prio : e.prio ≡ first_set g
  pub uuid_bucket : IsKeyTo g (table_bucket g) g.bucket g.bucket e.uuid_bucket
  pub root : IsKeyTo g (root_bucket g) (2 ^ 40) g.node_sectors e.root
  pub keys : e.keys ≡ []

-- a node has one set, and behind it there are zeros
pub record HasOneSet (g : Geometry) (image : Image) (level : ℕ) (key : Key) (s : Set) : Type 0 where
  pub stands : SetFound g (ptr_word (ptr_at key 0)) (kind_at level) image ((ptr_at key 0).offset + g.node_sectors) (ptr_at key 0).offset s
  pub blank : AreBlank image ((ptr_at key 0).offset + set_sectors g s) ((ptr_at key 0).offset + g.node_sectors)

-- how the device is divided: as few buckets as may be for all but data
pub record IsDivided (g : Geometry) : Type 0 where
  pub first_bucket : g.first_bucket ≡ 1
  pub journal : g.journal ≡ max 8 (min 256 (g.nbuckets / 128))

-- the pair's superblocks, entry 1, generations of 0, the uuid table, a root with one child, and a leaf without keys
pub record IsFormatted (p : Pair) (b : BackingSuper) (c : CacheSuper) (g : Geometry) : Type 0 where
  pub backing : HasBacking p b
  pub cache : HasCache p c
  pub geometry : IsGeometryOf c g
  pub divided : IsDivided g
  pub entry : JEntry
  pub first_entry : HasFirstEntry g p.cache entry
  pub gens : Gens
  pub chain : ChainIn g p.cache (first_set g) gens
  pub in_order : (k : ℕ) (d : ℕ) → k < length gens.chain → slice_index_or gens.chain k d ≡ first_set g + k
  pub entries : List UuidEntry
  pub table : TableIn g p.cache (table_bucket g) entries
  pub named : (d : UuidEntry) → (slice_index_or entries 0 d).uuid ≡ b.uuid
  pub leaf : Key
  pub leaf_key : IsKeyTo g (leaf_bucket g) (2 ^ 40) g.node_sectors leaf
  pub root_set : Set
  pub has_root : HasOneSet g p.cache 1 entry.root root_set
  pub children : root_set.keys ≡ leaf ∷ []
  pub leaf_set : Set
  pub has_leaf : HasOneSet g p.cache 0 leaf leaf_set
  pub empty : leaf_set.keys ≡ []
