-- Keys inserted one after another.
use Rattle.std.specs.Prelude.{◌≡◌, List, [], ◌∷◌, ◌++◌}
use Rattle.bc_key.specs.declared.key.Key.{Key}
use Rattle.bc_extent.specs.LastKey.{last_key}
use Rattle.bc_extent.specs.Extents.{IsInOrder, Shows}

-- the old list becomes the new one by an insert of each of these keys
abbrev pub AreInserted : List Key → List Key → List Key → Type 0
AreInserted [] old new = new ≡ old
AreInserted (key ∷ keys) old new = (next : List Key) × IsInOrder next × Shows (last_key (old ++ key ∷ [])) next × AreInserted keys next new
