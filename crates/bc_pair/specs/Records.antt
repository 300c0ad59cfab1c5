-- The records of a pair that is made, what their bytes are and where they are written.
use Rattle.std.specs.Prelude.{◌≡◌, ◌⊎◌, ℕ, suc, ◌+◌, ◌-◌, ◌*◌, ◌^◌, ◌<◌, ◌≤◌, List, [], ◌∷◌, ◌++◌, length, replicate, slice_index_or, slice_range}
use Rattle.bc_disk.specs.declared.geometry.Geometry.{Geometry}
use Rattle.bc_disk.specs.declared.gens.BucketRecord.{BucketRecord}
use Rattle.bc_image.specs.Formatted.{IsKeyTo, first_set, leaf_bucket, root_bucket, table_bucket}
use Rattle.bc_jset.specs.EntryBytes.{IsEntry, IsPlain}
use Rattle.bc_jset.specs.declared.entry.JEntry.{JEntry}
use Rattle.bc_key.specs.declared.key.Key.{Key}
use Rattle.bc_keys.specs.Spelling.{words_of_all}
use Rattle.bc_prio.specs.Set.{IsWrittenSet}
use Rattle.bc_disk.specs.Chain.{sets_in_chain}
use Rattle.bc_set.specs.SetBytes.{IsSet, bytes_of, words_in}
use Rattle.bc_set.specs.declared.set.Set.{Set}
use Rattle.bc_set.specs.declared.set.SetKind.{SetKind}
use Rattle.bc_set.specs.declared.set.SetKind.TheVariants.{Extents, Children}
use Rattle.bc_super.specs.declared.backing.BackingSuper.{BackingSuper}
use Rattle.bc_uuid.specs.Table.{AreWritten, IsDevice, entries_in}
use Rattle.bc_uuid.specs.declared.entry.UuidEntry.{UuidEntry}
use Rattle.bc_pair.specs.declared.records.Records.{Records}
use Rattle.bc_pair.specs.Runs.{Run, run_of, zeros}

-- ---- the records

-- the key to a bucket: of inode 0, clean and without a checksum
pub record IsNewKey (g : Geometry) (bucket end size : ℕ) (key : Key) : Type 0 where
  pub leads : IsKeyTo g bucket end size key
  pub inode : key.inode ≡ 0
  pub csum : key.csum ≡ 0

-- entry 1
pub record IsFirstEntry (g : Geometry) (e : JEntry) : Type 0 where
  pub seq : e.seq ≡ 1
  pub last_seq : e.last_seq ≡ 1
  pub level : e.level ≡ 1
  pub prio : e.prio ≡ first_set g
  pub uuid_bucket : IsNewKey g (table_bucket g) g.bucket g.bucket e.uuid_bucket
  pub root : IsNewKey g (root_bucket g) (2 ^ 40) g.node_sectors e.root
  pub keys : e.keys ≡ []

-- a bucket that is used isn't the first to be reused
abbrev pub used : BucketRecord
used = record { priority = 65535; generation = 0 }

abbrev pub unused : BucketRecord
unused = record { priority = 0; generation = 0 }

-- the buckets up to the leaf's are used, and no others
pub record AreFresh (g : Geometry) (records : List BucketRecord) : Type 0 where
  pub many : length records ≡ g.nbuckets
  pub below : (k : ℕ) (d : BucketRecord) → k ≤ leaf_bucket g → slice_index_or records k d ≡ used
  pub behind : (k : ℕ) (d : BucketRecord) → leaf_bucket g < k → k < g.nbuckets → slice_index_or records k d ≡ unused

-- so many buckets one behind the other
abbrev pub AreBuckets : ℕ → ℕ → List ℕ → Type 0
AreBuckets first many buckets = (length buckets ≡ many) × ((k d : ℕ) → k < many → slice_index_or buckets k d ≡ first + k)

-- the table has this one device
pub record IsTableOf (b : BackingSuper) (entries : List UuidEntry) : Type 0 where
  pub first : (d : UuidEntry) → IsDevice b.uuid b.label (slice_index_or entries 0 d)
  pub others : (i : ℕ) (d : UuidEntry) → 0 < i → i < length entries → IsDevice (replicate 16 0) (replicate 32 0) (slice_index_or entries i d)

-- the first set of a node, with this number and these keys
pub record IsFirstSet (seq : ℕ) (keys : List Key) (s : Set) : Type 0 where
  pub number : s.seq ≡ seq
  pub version : s.version ≡ 1
  pub has : s.keys ≡ keys

pub record IsRoot (g : Geometry) (s : Set) : Type 0 where
  pub leaf : Key
  pub key : IsNewKey g (leaf_bucket g) (2 ^ 40) g.node_sectors leaf
  pub set : IsFirstSet 65537 (leaf ∷ []) s

-- of a pair with this superblock of the backing device
pub record AreNew (g : Geometry) (b : BackingSuper) (r : Records) : Type 0 where
  pub entry : IsFirstEntry g r.entry
  pub fresh : AreFresh g r.gens.records
  pub chain : AreBuckets (first_set g) (sets_in_chain g) r.gens.chain
  pub many : length r.table ≡ entries_in g
  pub table : IsTableOf b r.table
  pub root : IsRoot g r.root
  pub leaf : IsFirstSet 65536 [] r.leaf

-- ---- their bytes

-- a block, with zeros behind the entry
pub record IsEntryBlock (g : Geometry) (e : JEntry) (bytes : List ℕ) : Type 0 where
  pub whole : length bytes ≡ 512 * g.block
  pub entry : IsEntry g.set_magic bytes e
  pub plain : IsPlain bytes e
  pub rest : slice_range bytes 240 (512 * g.block) ≡ replicate (512 * g.block - 240) 0

-- the sets of a chain from a part on, in neighbouring buckets of which each names the next
abbrev pub next_bucket : ℕ → List (List ℕ) → ℕ
next_bucket bucket [] = 0
next_bucket bucket (bytes ∷ sets) = suc bucket

abbrev pub AreChainSets : Geometry → List BucketRecord → ℕ → ℕ → List (List ℕ) → Type 0
AreChainSets g records part bucket [] = Unit {0}
AreChainSets g records part bucket (bytes ∷ sets) = IsWrittenSet g records part (next_bucket bucket sets) bytes × AreChainSets g records (suc part) (suc bucket) sets

pub record IsTableBucket (g : Geometry) (entries : List UuidEntry) (bytes : List ℕ) : Type 0 where
  pub whole : length bytes ≡ 512 * g.bucket
  pub written : AreWritten bytes entries

-- A node with one set, and zeros behind it. The checksum starts with the pointer to the node's bucket.
pub record IsNodeBytes (g : Geometry) (bucket : ℕ) (kind : SetKind) (s : Set) (bytes : List ℕ) : Type 0 where
  pub whole : length bytes ≡ 512 * g.node_sectors
  pub set : IsSet (2 ^ 8 * (g.bucket * bucket)) g.set_magic kind bytes s
  pub words : words_in bytes ≡ words_of_all s.keys
  pub rest : slice_range bytes (bytes_of s) (512 * g.node_sectors) ≡ replicate (512 * g.node_sectors - bytes_of s) 0

-- ---- where they are written

-- runs of the first kind, and then such of the other
abbrev pub Then : (List Run → Type 0) → (List Run → Type 0) → List Run → Type 0
Then P Q runs = (first then : List Run) × P first × Q then × (runs ≡ first ++ then)

abbrev pub journal_start : Geometry → ℕ
journal_start g = g.bucket * g.first_bucket

abbrev pub IsZeroed : Geometry → List Run → Type 0
IsZeroed g runs = runs ≡ record { at = journal_start g; values = zeros (g.bucket * g.journal) } ∷ []

abbrev pub IsEntryAt : Geometry → JEntry → List Run → Type 0
IsEntryAt g e runs = (bytes : List ℕ) × IsEntryBlock g e bytes × (runs ≡ run_of (journal_start g) bytes ∷ [])

abbrev pub chain_runs : Geometry → ℕ → List (List ℕ) → List Run
chain_runs g bucket [] = []
chain_runs g bucket (bytes ∷ sets) = run_of (g.bucket * bucket) bytes ∷ chain_runs g (suc bucket) sets

abbrev pub IsChainOf : Geometry → List BucketRecord → List Run → Type 0
IsChainOf g records runs = (sets : List (List ℕ)) × (length sets ≡ sets_in_chain g) × AreChainSets g records 0 (first_set g) sets × (runs ≡ chain_runs g (first_set g) sets)

abbrev pub IsTableAt : Geometry → List UuidEntry → List Run → Type 0
IsTableAt g entries runs = (bytes : List ℕ) × IsTableBucket g entries bytes × (runs ≡ run_of (g.bucket * table_bucket g) bytes ∷ [])

abbrev pub IsNodeAt : Geometry → ℕ → SetKind → Set → List Run → Type 0
IsNodeAt g bucket kind s runs = (bytes : List ℕ) × IsNodeBytes g bucket kind s bytes × (runs ≡ run_of (g.bucket * bucket) bytes ∷ [])

-- all journal buckets are zeroed, and entry 1 is written at the first sector of the first of them
abbrev pub IsJournal : Geometry → JEntry → List Run → Type 0
IsJournal g e = Then (IsZeroed g) (IsEntryAt g e)

abbrev pub AreNodes : Geometry → Records → List Run → Type 0
AreNodes g r = Then (IsNodeAt g (root_bucket g) Children r.root) (IsNodeAt g (leaf_bucket g) Extents r.leaf)

-- all of them, in the order in which they are written
abbrev pub AreWrites : Geometry → Records → List Run → Type 0
AreWrites g r = Then (Then (IsJournal g r.entry) (IsChainOf g r.gens.records)) (Then (IsTableAt g r.table) (AreNodes g r))

-- the sectors of a node in this bucket
abbrev pub IsNodeSector : Geometry → ℕ → ℕ → Type 0
IsNodeSector g bucket s = (g.bucket * bucket ≤ s) × (s < g.bucket * bucket + g.node_sectors)

-- the sectors of the journal, the chain and the table, which follow each other, and those of the root and of the leaf
abbrev pub IsRecordSector : Geometry → ℕ → Type 0
IsRecordSector g s = ((journal_start g ≤ s) × (s < g.bucket * root_bucket g)) ⊎ IsNodeSector g (root_bucket g) s ⊎ IsNodeSector g (leaf_bucket g) s
