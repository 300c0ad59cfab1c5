-- The keys of a list on one side of a sector, of which one may be cut.
use Rattle.std.specs.Prelude.{◌≡◌, ◌⊎◌, ℕ, ◌<◌, ◌≤◌, List, length, slice_index_or, All, Contains}
use Rattle.bc_key.specs.declared.key.Key.{Key}
use Rattle.bc_key.specs.Key.{start_of, Covers}
use Rattle.bc_extent.specs.Extents.{IsInOrder, IsPart}

-- some key of the list covers the sector
abbrev pub IsHeld : List Key → ℕ → Type 0
IsHeld keys sector = (key : Key) × Contains keys key × Covers key sector

-- the key is an old one as far as it lies below the sector
abbrev pub IsOneBelow : ℕ → List Key → Key → Type 0
IsOneBelow at old key = (whole : Key) × Contains old whole × IsPart whole key × (start_of key ≡ start_of whole) × ((key.end ≡ whole.end) ⊎ (key.end ≡ at))

-- the key is an old one as far as it lies from the sector on
abbrev pub IsOneAbove : ℕ → List Key → Key → Type 0
IsOneAbove at old key = (whole : Key) × Contains old whole × IsPart whole key × (key.end ≡ whole.end) × ((start_of key ≡ start_of whole) ⊎ (start_of key ≡ at))

-- the left keys are the old ones as far as they lie below the sector
pub record IsBelow (at : ℕ) (old left : List Key) : Type 0 where
  pub order : IsInOrder left
  pub below : All (λ key. key.end ≤ at) left
  pub each : All (IsOneBelow at old) left
  pub all : (sector : ℕ) (whole : Key) → sector < at → Contains old whole → Covers whole sector → IsHeld left sector

-- the right keys are the old ones as far as they lie from the sector on
pub record IsAbove (at : ℕ) (old right : List Key) : Type 0 where
  pub order : IsInOrder right
  pub above : All (λ key. at ≤ start_of key) right
  pub each : All (IsOneAbove at old) right
  pub all : (sector : ℕ) (whole : Key) → at ≤ sector → Contains old whole → Covers whole sector → IsHeld right sector

-- the list has a key at this place, and P holds of it
abbrev pub HoldsWithin : (Key → Type 0) → List Key → ℕ → Type 0
HoldsWithin P keys place = (place < length keys) × ((d : Key) → P (slice_index_or keys place d))
