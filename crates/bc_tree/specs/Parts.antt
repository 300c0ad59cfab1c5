-- The keys of a leaf that lie between two sectors.
use Rattle.std.specs.Prelude.{◌≡◌, ◌⊎◌, ℕ, ◌+◌, ◌/◌, ◌<◌, ◌≤◌, ◌&&◌, nat_le, nat_lt, max, min, List, [], ◌∷◌, Option, None, if◌then◌else◌, length, slice_index_or}
use Rattle.bc_extent.specs.Extents.{IsPart, IsRange}
use Rattle.bc_key.specs.Key.{start_of}
use Rattle.bc_key.specs.declared.key.Key.{Key}

-- a look-up that gives what another gives for the sectors from one up to another, and else none
abbrev pub bounded : ℕ → ℕ → (ℕ → Option Key) → ℕ → Option Key
bounded from end look sector = if nat_le from sector && nat_lt sector end then look sector else None

-- some sector of the key lies between these
abbrev pub Meets : ℕ → ℕ → Key → Type 0
Meets from end key = (start_of key < end) × (from < key.end)

-- none does
abbrev pub Misses : ℕ → ℕ → Key → Type 0
Misses from end key = (end ≤ start_of key) ⊎ (key.end ≤ from)

-- the part is the key as far as it lies between these sectors
pub record IsCutTo (from end : ℕ) (whole part : Key) : Type 0 where
  pub meets : Meets from end whole
  pub cut : IsPart whole part
  pub range : IsRange part
  pub begins : start_of part ≡ max from (start_of whole)
  pub ends : part.end ≡ min end whole.end

-- the parts of those keys that have one
abbrev pub AreParts : ℕ → ℕ → List Key → List Key → Type 0
AreParts from end [] parts = parts ≡ []
AreParts from end (key ∷ keys) parts =
    (Misses from end key × AreParts from end keys parts)
    ⊎ ((part : Key) × (rest : List Key) × (parts ≡ part ∷ rest)
    × IsCutTo from end key part × AreParts from end keys rest)

-- the key lies between these sectors
abbrev pub LiesBetween : ℕ → ℕ → Key → Type 0
LiesBetween from end key = (from ≤ start_of key) × (key.end ≤ end)

-- A leaf is cut at the last multiple of 256 that isn't behind the start of the middle one of its
-- keys, or at the first one in its range.
abbrev pub IsNearMiddle : ℕ → List Key → ℕ → Type 0
IsNearMiddle from keys cut =
    (cut ≡ from + 256)
    ⊎ ((d : Key) → let key = slice_index_or keys (length keys / 2) d in
    (cut ≤ start_of key) × (start_of key < cut + 256))
