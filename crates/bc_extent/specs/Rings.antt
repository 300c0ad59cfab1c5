-- Rings of keys, one behind the other.
use Rattle.std.specs.Prelude.{◌≡◌, ℕ, ◌*◌, ◌≤◌, ◌^◌, List, length, All}
use Rattle.std.specs.List.{flat_map}
use Rattle.bc_key.specs.declared.key.Key.{Key}

-- the keys of all rings
abbrev pub joined : List (List Key) → List Key
joined rings = flat_map (λ ring. ring) rings

-- each ring has 512 keys
abbrev pub AreFull : List (List Key) → Type 0
AreFull rings = All (λ ring. length ring ≡ 512) rings

-- so many keys, the first ones of the rings, are in use
pub record HoldRoom (count : ℕ) (rings : List (List Key)) : Type 0 where
  pub full : AreFull rings
  pub room : count ≤ 512 * length rings
  pub few : length rings ≤ 2 ^ 46
