-- A priority set: the bytes of a bucket, as `struct prio_set` in the kernel's `bcache_ondisk.h` lays them out. A number has its
-- lowest byte first.
use Rattle.std.specs.Prelude.{◌≡◌, ◌↔◌, ℕ, ◌+◌, ◌-◌, ◌*◌, ◌<◌, ◌≤◌, min, List, length, drop, slice_index, slice_index_or, bit_xor}
use Rattle.bc_bytes.specs.Fields.{number_at}
use Rattle.bc_bytes.specs.Checksum.{checksum}
use Rattle.bc_disk.specs.declared.geometry.Geometry.{Geometry}
use Rattle.bc_disk.specs.declared.gens.BucketRecord.{BucketRecord}
use Rattle.bc_prio.specs.declared.error.PrioError.{PrioError}
use Rattle.bc_prio.specs.declared.error.PrioError.TheVariants as errors
use Rattle.bc_disk.specs.Chain.{bucket_bytes, records_in_set, sets_in_chain}

-- what tells a priority set of this cache from other bytes
abbrev pub magic_of : Geometry → ℕ
magic_of g = bit_xor g.set_magic 0x6750_e15f_8733_7f91

abbrev pub HasMagic : Geometry → List ℕ → Type 0
HasMagic g bytes = number_at 8 bytes 8 ≡ magic_of g

-- the first 8 bytes are the checksum of all others, which begins with all ones
abbrev pub HasChecksum : List ℕ → Type 0
HasChecksum bytes = number_at 8 bytes 0 ≡ checksum 0xffff_ffff_ffff_ffff (drop 8 bytes)

-- the bucket of the next set
abbrev pub next_in : List ℕ → ℕ
next_in bytes = number_at 8 bytes 32

-- a next set is named in each set but the last one
abbrev pub HasCount : Geometry → ℕ → List ℕ → Type 0
HasCount g part bytes = (next_in bytes ≡ 0) ↔ (part + 1 ≡ sets_in_chain g)

-- record i of the bytes: 2 bytes of priority, and then one of generation
abbrev pub IsRecord : List ℕ → ℕ → BucketRecord → Type 0
IsRecord bytes i entry = (number_at 2 bytes (40 + 3 * i) ≡ entry.priority) × (slice_index bytes (42 + 3 * i) ≡ entry.generation)

-- the bytes have the records of this part of the buckets: the first set of a chain has the first buckets, as many as fit into it
abbrev pub HoldsPart : Geometry → List BucketRecord → ℕ → List ℕ → Type 0
HoldsPart g records part bytes =
    (i : ℕ) → i < records_in_set g → part * records_in_set g + i < length records
    → (d : BucketRecord) → IsRecord bytes i (slice_index_or records (part * records_in_set g + i) d)

-- the bytes are the set of this part in a chain
pub record IsSet (g : Geometry) (part : ℕ) (bytes : List ℕ) : Type 0 where
  pub whole : length bytes ≡ bucket_bytes g
  pub magic : HasMagic g bytes
  pub checksum : HasChecksum bytes
  pub count : HasCount g part bytes

-- the first reason why bytes that fill a bucket aren't the set of this part
abbrev pub IsWrong : Geometry → ℕ → List ℕ → PrioError → Type 0
IsWrong g part bytes errors.Magic = HasMagic g bytes → ⊥
IsWrong g part bytes errors.Checksum = HasMagic g bytes × (HasChecksum bytes → ⊥)
IsWrong g part bytes errors.Count = HasMagic g bytes × HasChecksum bytes × (HasCount g part bytes → ⊥)
IsWrong g part bytes errors.Range = ⊥
IsWrong g part bytes errors.Cycle = ⊥
IsWrong g part bytes errors.Fault = ⊥
IsWrong g part bytes errors.Memory = ⊥

-- how many records this part has: all that fit but for the last part
abbrev pub records_in : Geometry → ℕ → ℕ
records_in g part = min (records_in_set g) (g.nbuckets - part * records_in_set g)

-- each byte of a set as it is written: those that tell nothing are 0
pub record IsWrittenSet (g : Geometry) (records : List BucketRecord) (part next : ℕ) (bytes : List ℕ) : Type 0 where
  pub whole : length bytes ≡ bucket_bytes g
  pub magic : HasMagic g bytes
  pub checksum : HasChecksum bytes
  pub names : next_in bytes ≡ next
  pub holds : HoldsPart g records part bytes
  -- the number of the set, the version of its format and a pad, none of which is read
  pub between : (k : ℕ) → 16 ≤ k → k < 32 → slice_index bytes k ≡ 0
  pub rest : (k : ℕ) → 40 + 3 * records_in g part ≤ k → slice_index bytes k ≡ 0
