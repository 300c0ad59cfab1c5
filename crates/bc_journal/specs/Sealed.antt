-- An entry on its way to the device.
use Rattle.std.specs.Prelude.{◌≡◌, ℕ, ◌+◌, ◌*◌, ◌≤◌, List, length, drop, All}
use Rattle.bc_disk.specs.declared.geometry.Geometry.{Geometry}
use Rattle.bc_jset.specs.declared.entry.JEntry.{JEntry}
use Rattle.bc_jset.specs.EntryBytes.{IsEntry, bytes_of}
use Rattle.bc_jset.specs.Records.{entry_sectors}
use Rattle.bc_jset.specs.Entries.{bucket_start}
use Rattle.bc_key.specs.declared.key.Key.{Key}
use Rattle.bc_journal.specs.Ring.{IsPlace}
use Rattle.bc_journal.specs.declared.place.Place.{Place}
use Rattle.bc_journal.specs.declared.heads.Heads.{Heads}
use Rattle.bc_journal.specs.declared.place.Numbers.{Numbers}

-- what a sealed entry is seen as
pub record Sealed : Type 0 where
  pub geometry : Geometry
  pub place : Place
  pub entry : JEntry

-- an entry of these parts
abbrev pub entry_of : Numbers → Heads → List Key → JEntry
entry_of numbers heads keys =
    record {
      seq = numbers.seq;
      last_seq = numbers.last_seq;
      uuid_bucket = heads.uuid_bucket;
      root = heads.root;
      level = heads.level;
      prio = heads.prio;
      keys = keys;
    }

abbrev pub numbers_of : JEntry → Numbers
numbers_of e = record { seq = e.seq; last_seq = e.last_seq }

-- what an entry names beside its keys
abbrev pub heads_of : JEntry → Heads
heads_of e = record {
  uuid_bucket = e.uuid_bucket;
  root = e.root;
  level = e.level;
  prio = e.prio;
}

-- the entry's bytes, and zeros behind them up to the end of its last block
pub record AreBytesOf (g : Geometry) (e : JEntry) (bytes : List ℕ) : Type 0 where
  pub whole : length bytes ≡ 512 * entry_sectors g e
  pub entry : IsEntry g.set_magic bytes e
  pub zeros : All (λ b. b ≡ 0) (drop (bytes_of e) bytes)

-- the entry stands within its bucket, from a block's beginning on
pub record IsWithin (s : Sealed) : Type 0 where
  pub place : IsPlace s.geometry s.place
  pub inside : s.place.sector + entry_sectors s.geometry s.entry ≤ s.geometry.bucket

-- the device's sector at which a place lies
abbrev pub sector_at : Geometry → Place → ℕ
sector_at g p = bucket_start g p.bucket + p.sector
