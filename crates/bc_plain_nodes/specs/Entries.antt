-- The entries of the journal that hold a leaf's pending keys.
use Rattle.std.specs.Prelude.{ℕ, List, [], ◌∷◌}
use Rattle.bc_key.specs.declared.key.Key.{Key}

-- what is noted for keys that an entry holds
abbrev pub entries_of : List Key → ℕ → List ℕ
entries_of [] entry = []
entries_of (key ∷ keys) entry = entry ∷ []
