-- What is known of the parts of a pair in memory, also where its devices don't tell what they hold.
use Rattle.std.specs.Prelude.{◌≡◌, List, All, length}
use Rattle.bc_disk.specs.Gens.{Gens}
use Rattle.bc_disk.specs.declared.geometry.Geometry.{Geometry}
use Rattle.bc_entries.specs.Journal.{Journal}
use Rattle.bc_entries.specs.Lists.{IsFit}
use Rattle.bc_entries.specs.Reading.{StandsWithin}
use Rattle.bc_replay.specs.declared.uses.Use.{Use}

-- each entry stands in the journal, and of these the ones count that do; the journal can go on
-- behind them
pub record IsOfEntries (g : Geometry) (j : Journal) : Type 0 where
  pub counts : IsFit g j.all j.entries
  pub places : All (StandsWithin g) j.all

-- so it is, and each bucket has a record
pub record AreHeads (g : Geometry) (j : Journal) (gens : Gens) : Type 0 where
  pub journal : IsOfEntries g j
  pub records : length gens.records ≡ g.nbuckets

-- so they are, and each bucket has its use
pub record AreParts (g : Geometry) (j : Journal) (gens : Gens) (table : List Use) : Type 0 where
  pub heads : AreHeads g j gens
  pub uses : length table ≡ g.nbuckets
