-- Which key a sector has: one look-up in a plain list of keys, whose ranges may overlap and stand in any order.
use Rattle.std.specs.Prelude.{ℕ, Bool, ◌&&◌, nat_le, nat_lt, List, [], ◌∷◌, Option, Some, None, if◌then◌else◌}
use Rattle.std.specs.Option.{option_or}
use Rattle.bc_key.specs.declared.key.Key.{Key}
use Rattle.bc_key.specs.Key.{start_of}

-- the sector lies in the key's range
abbrev pub covers : Key → ℕ → Bool
covers key sector = nat_le (start_of key) sector && nat_lt sector key.end

-- the last key of a list, newest last, whose range covers the sector
abbrev pub last_key : List Key → ℕ → Option Key
last_key [] sector = None
last_key (key ∷ keys) sector = option_or (last_key keys sector) (if covers key sector then Some key else None)
