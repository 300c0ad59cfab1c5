-- A journal that goes on behind the entries of a device.
use Rattle.std.specs.Prelude.{◌≡◌, ℕ, ◌+◌, List, [], ◌∷◌, ◌++◌}
use Rattle.bc_disk.specs.declared.geometry.Geometry.{Geometry}
use Rattle.bc_entries.specs.Journal.{Journal as Read}
use Rattle.bc_journal.specs.Journal.{Journal, journal_at}
use Rattle.bc_journal.specs.Sealed.{heads_of}
use Rattle.bc_journal.specs.declared.place.Place.{Place}
use Rattle.bc_jset.specs.EntryBytes.{IsLevel}
use Rattle.bc_jset.specs.Entries.{FoundEntry}
use Rattle.bc_jset.specs.Ring.{IsNextPlace, bucket_of}
use Rattle.bc_resume.specs.Behind.{IsAt}
use Rattle.bc_resume.specs.Numbers.{AreNewest}

-- Of the entries that were read the last one is durable, and the journal has what it names. The next
-- one gets the number behind its and goes behind the last one in its bucket.
pub record IsResumed (g : Geometry) (read : Read) (j : Journal) : Type 0 where
  pub older : List FoundEntry
  pub newest : FoundEntry
  pub parts : read.entries ≡ older ++ newest ∷ []
  pub next : ℕ
  pub place : IsNextPlace g read.entries newest next
  pub at : Place
  pub is_at : IsAt g (bucket_of g newest) next at
  pub numbers : List ℕ
  pub are_newest : AreNewest g read.all numbers
  pub is : j
      ≡ journal_at g at numbers newest.item.last_seq (newest.item.seq + 1) (heads_of newest.item)

-- the last one tells no level that a root may have
pub record HasNoLevel (read : Read) : Type 0 where
  pub older : List FoundEntry
  pub newest : FoundEntry
  pub parts : read.entries ≡ older ++ newest ∷ []
  pub level : ¬ (IsLevel newest.item.level)
