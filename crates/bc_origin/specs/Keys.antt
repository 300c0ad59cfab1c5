-- The keys of an opening, and those that come in with a run.
use Rattle.std.specs.Prelude.{◌≡◌, ◌⊎◌, ℕ, true, false, List, [], ◌∷◌, ◌++◌}
use Rattle.bc_key.specs.declared.key.Key.{Key}
use Rattle.bc_meta.specs.Facts.{In}
use Rattle.bc_meta.specs.Entries.{all_keys}
use Rattle.bc_meta.specs.Tree.{set_keys}
use Rattle.bc_meta.specs.Layout.{node_sets}
use Rattle.bc_whole.specs.State.{Opening, Write, OfSet, OfLeaf}
use Rattle.bc_known.specs.Acts.{Act, Keyed, WriteCache, FailCache, Event}

-- the key was in an entry that counts, or in a leaf
abbrev pub WasThere : Opening → Key → Type 0
WasThere w key =
    In key (all_keys (w.store.newest ∷ w.store.older))
    ⊎ ((q : ℕ) × (w.store.unused q ≡ false) × ((w.store.owners q).leaf ≡ true)
    × In key (set_keys (node_sets w.layout w.store.owners w.store.image q)))

-- those of a set of a leaf that is written, well or not
abbrev pub keys_written : Write → List Key
keys_written (OfSet slot set) = set.keys
keys_written (OfLeaf slot leaf set) = set.keys
keys_written write = []

-- those that come in with an act
abbrev pub keys_with : Act → List Key
keys_with (Keyed act slot keys) = keys
keys_with (WriteCache write values) = keys_written write
keys_with (FailCache write values) = keys_written write
keys_with act = []

-- and with a run
abbrev pub new_keys : List Event → List Key
new_keys [] = []
new_keys (e ∷ es) = keys_with e.act ++ new_keys es
