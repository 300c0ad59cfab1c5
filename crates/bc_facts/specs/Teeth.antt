-- A condition that is needed.
use Rattle.std.specs.Prelude.{List}
use Rattle.bc_model.specs.Sector.{Image}
use Rattle.bc_disk.specs.declared.geometry.Geometry.{Geometry}
use Rattle.bc_jset.specs.Entries as jset
use Rattle.bc_jset.specs.Entries.{FoundEntry}
use Rattle.bc_meta.specs.Entries.{Entry, AreEntries}
use Rattle.bc_meta.specs.Layout.{Layout, ring_entries}
use Rattle.bc_facts.specs.Layout.{IsLayoutOf}

-- the format lists the device's entries, and the machine reads none
abbrev pub NeedsNoStray : Type 0
NeedsNoStray =
    (g : Geometry) × (w : Layout) × (image : Image) × (es : List FoundEntry) × IsLayoutOf g w
    × jset.AreEntries g image es
    × ((newest : Entry) (older : List Entry)
    → AreEntries (ring_entries w image w.journal) newest older → ⊥)
