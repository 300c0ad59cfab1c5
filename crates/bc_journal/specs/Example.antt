-- A ring in an image: the second entry went to the first bucket again.
use Rattle.std.specs.Prelude.{[], ◌∷◌}
use Rattle.bc_jset.specs.ExampleEntries.{example_geometry}
use Rattle.bc_journal.specs.Ring.{Ring}
use Rattle.bc_journal.specs.declared.place.Numbers.{Numbers}

abbrev pub example_ring : Ring
example_ring = record { geometry = example_geometry; next = record { bucket = 0; sector = 1 }; newest = 2 ∷ 1 ∷ [] }

abbrev pub example_numbers : Numbers
example_numbers = record { seq = 2; last_seq = 1 }
