-- The 128 bytes of an entry, as `struct uuid_entry` in the kernel's `bcache_ondisk.h` lays them out. A number has its lowest
-- byte first.
use Rattle.std.specs.Prelude.{◌≡◌, ℕ, ◌≤◌, List, slice_range, slice_index}
use Rattle.bc_bytes.specs.Fields.{number_at}
use Rattle.bc_uuid.specs.declared.entry.UuidEntry.{UuidEntry}

-- the bytes say this of a device
pub record IsEntry (bytes : List ℕ) (entry : UuidEntry) : Type 0 where
  pub uuid : slice_range bytes 0 16 ≡ entry.uuid
  pub label : slice_range bytes 16 48 ≡ entry.label
  pub first_reg : number_at 4 bytes 48 ≡ entry.first_reg
  pub last_reg : number_at 4 bytes 52 ≡ entry.last_reg
  pub invalidated : number_at 4 bytes 56 ≡ entry.invalidated
  pub flags : number_at 4 bytes 60 ≡ entry.flags
  pub sectors : number_at 8 bytes 64 ≡ entry.sectors

-- Times aren't kept: an entry is written with times of 0, also where other ones were read.
abbrev pub without_times : UuidEntry → UuidEntry
without_times entry = record entry { first_reg = 0; last_reg = 0; invalidated = 0 }

-- what is written of an entry, and nothing else: the bytes behind the fields are 0
pub record IsWrittenEntry (bytes : List ℕ) (entry : UuidEntry) : Type 0 where
  pub says : IsEntry bytes (without_times entry)
  pub rest : (k : ℕ) → 72 ≤ k → slice_index bytes k ≡ 0
