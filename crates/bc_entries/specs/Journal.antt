-- What a reader of the journal answers, said of an image. Each image has one of the four answers, and no other.
use Rattle.std.specs.Prelude.{◌≡◌, ◌⊎◌, ℕ, ◌<◌, ◌≤◌, List}
use Rattle.bc_model.specs.Sector.{Image}
use Rattle.bc_disk.specs.declared.geometry.Geometry.{Geometry}
use Rattle.bc_jset.specs.Entries.{FoundEntry, AreEntries, HasNoJournal, HasGap}
use Rattle.bc_jset.specs.Ring.{HasRoom}
use Rattle.bc_entries.specs.Lists.{last_numbers}
use Rattle.bc_entries.specs.declared.error.JournalError.{JournalError}
use Rattle.bc_entries.specs.declared.error.JournalError.TheVariants as errors

-- what a `Journal` is seen as
pub record Journal : Type 0 where
  -- the entries that count, oldest first
  pub entries : List FoundEntry
  -- all that are found, in a lower bucket first
  pub all : List FoundEntry

-- there are entries, and the journal can go on behind them: numbers are left, and the ring has room for one more entry
pub record HasJournal (g : Geometry) (image : Image) (j : Journal) : Type 0 where
  pub entries : AreEntries g image j.entries
  pub all : entries.all ≡ j.all
  pub number : entries.newest.item.seq < last_numbers
  pub room : HasRoom g j.all j.entries entries.newest

-- there are entries, and the journal can't go on behind them
pub record IsAtEnd (g : Geometry) (image : Image) (seq : ℕ) : Type 0 where
  pub es : List FoundEntry
  pub entries : AreEntries g image es
  pub number : entries.newest.item.seq ≡ seq
  pub full : (last_numbers ≤ seq) ⊎ ¬ (HasRoom g entries.all es entries.newest)

-- why a journal is refused
abbrev pub IsRefused : Geometry → Image → JournalError → Type 0
IsRefused g image errors.NoJournal = HasNoJournal g image
IsRefused g image (errors.Gap from to) = HasGap g image from to
IsRefused g image (errors.End seq) = IsAtEnd g image seq
IsRefused g image errors.Fault = ⊥
IsRefused g image errors.Memory = ⊥
