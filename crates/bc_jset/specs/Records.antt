-- Entries as records in an image: which one a reader finds at a place.
use Rattle.std.specs.Prelude.{ℕ}
use Rattle.bc_model.specs.Sector.{Image}
use Rattle.bc_disk.specs.declared.geometry.Geometry.{Geometry}
use Rattle.bc_record.specs.Kind.{Kind, IsFound, sectors_of}
use Rattle.bc_jset.specs.declared.entry.JEntry.{JEntry}
use Rattle.bc_jset.specs.EntryBytes.{IsEntry, bytes_of}

abbrev pub entry_kind : Geometry → Kind JEntry
entry_kind g = record { block = g.block; Begins = IsEntry g.set_magic; bytes = bytes_of }

-- how many sectors an entry takes: whole blocks
abbrev pub entry_sectors : Geometry → JEntry → ℕ
entry_sectors g e = sectors_of (entry_kind g) e

-- a reader that looks no further than an end finds the entry at a place, both in sectors
abbrev pub EntryFound : Geometry → Image → ℕ → ℕ → JEntry → Type 0
EntryFound g image end place e = IsFound (entry_kind g) image end place e
