-- Keys that say that their sectors are on the backing device.
use Rattle.std.specs.Prelude.{◌≡◌, ℕ, ◌+◌, ◌<◌, ◌≤◌, true, List, [], ◌∷◌}
use Rattle.bc_key.specs.declared.key.Key.{Key}
use Rattle.bc_write_back.specs.bc_machine.Frame.{Range}

-- so many sectors from there on, claimed for a seat alone
abbrev pub alone_at : (first count : ℕ) → Range
alone_at first count = record { first = first; count = count; exclusive = true }

-- a key without a pointer, of sectors from there on, of no more than a bucket has
pub record IsEmptyFrom (bucket first : ℕ) (key : Key) : Type 0 where
  pub none : key.count ≡ 0
  pub some : 0 < key.size
  pub few : key.size ≤ bucket
  pub end : key.end ≡ first + key.size

-- such keys, one behind the other, up to that sector
abbrev pub AreEmpty : (bucket first end : ℕ) → List Key → Type 0
AreEmpty bucket first end [] = first ≡ end
AreEmpty bucket first end (key ∷ keys) =
    IsEmptyFrom bucket first key × AreEmpty bucket key.end end keys
