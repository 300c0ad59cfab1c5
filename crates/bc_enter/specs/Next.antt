-- The entry that comes behind those that were read.
use Rattle.std.specs.Prelude.{◌≡◌, ◌⊎◌, List, [], ◌∷◌, ◌++◌}
use Rattle.bc_disk.specs.declared.geometry.Geometry.{Geometry}
use Rattle.bc_entries.specs.Journal.{Journal as Read}
use Rattle.bc_journal.specs.Sealed.{Sealed, sector_at}
use Rattle.bc_jset.specs.Entries.{FoundEntry}
use Rattle.bc_jset.specs.EntryBytes.{IsLevel}
use Rattle.bc_jset.specs.Records.{entry_sectors}
use Rattle.bc_enter.specs.Entry.{GoesTo, IsOpeningEntry, NeedsOldest}

-- it follows the newest of them, and has a place in the journal's ring
pub record IsNext (g : Geometry) (read : Read) (s : Sealed) : Type 0 where
  pub older : List FoundEntry
  pub newest : FoundEntry
  pub parts : read.entries ≡ older ++ newest ∷ []
  pub geometry : s.geometry ≡ g
  pub entry : IsOpeningEntry read.entries newest s.entry
  pub oldest : NeedsOldest read.entries s.entry
  pub place : GoesTo g read.all read.entries newest (entry_sectors g s.entry) s.place.bucket
      (sector_at g s.place)

-- The newest of them has no level that a root has, or still needs an entry of number 0, which no
-- tool writes.
pub record IsOdd (read : Read) : Type 0 where
  pub older : List FoundEntry
  pub newest : FoundEntry
  pub parts : read.entries ≡ older ++ newest ∷ []
  pub odd : ¬ (IsLevel newest.item.level) ⊎ (newest.item.last_seq ≡ 0)
