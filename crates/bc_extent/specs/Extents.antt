-- Keys in order without overlaps, and what they show of a look-up.
use Rattle.std.specs.Prelude.{◌≡◌, ◌≢◌, ℕ, ◌+◌, ◌<◌, ◌≤◌, ◌&&◌, nat_le, nat_lt, List, length, All, AllPairs, MatchOption, IsSomeAnd, Option, Some, None, if◌then◌else◌}
use Rattle.bc_key.specs.declared.key.Key.{Key}
use Rattle.bc_key.specs.declared.ptr.Ptr.{Ptr}
use Rattle.bc_key.specs.Key.{start_of, Covers, IsExtent, ptr_at, place_at}
use Rattle.bc_key.specs.Cut.{KeepsKind}
use Rattle.bc_extent.specs.LastKey.{last_key}

-- what an `Extents` is seen as
pub record Extents : Type 0 where
  pub keys : List Key
  -- how many more keys have room
  pub spare : ℕ

-- how many keys there is memory for
abbrev pub room_of : Extents → ℕ
room_of extents = length extents.keys + extents.spare

-- the range begins at sector 0 or behind it and has a sector at least
abbrev pub IsRange : Key → Type 0
IsRange key = IsExtent key × (0 < key.size)

-- each key ends where a later one begins, or before
abbrev pub IsInOrder : List Key → Type 0
IsInOrder keys = All IsRange keys × AllPairs (λ a b. a.end ≤ start_of b) keys

-- on the same device, and of the same generation
pub record KeepsDevice (old new : Ptr) : Type 0 where
  pub dev : new.dev ≡ old.dev
  pub generation : new.generation ≡ old.generation

-- the part is the whole but for its range, which may be shorter, and each of its sectors lies where it lay
pub record IsPart (whole part : Key) : Type 0 where
  pub kind : KeepsKind whole part
  pub from : start_of whole ≤ start_of part
  pub to : part.end ≤ whole.end
  pub devices : (i : ℕ) → i < whole.count → KeepsDevice (ptr_at whole i) (ptr_at part i)
  pub places : (sector i : ℕ) → Covers part sector → i < whole.count → place_at part i sector ≡ place_at whole i sector

-- The part is what a look-up leaves of the whole: it gives the whole for each sector of the part, and not for the one before or behind it.
pub record IsRest (look : ℕ → Option Key) (whole part : Key) : Type 0 where
  pub cut : IsPart whole part
  pub inside : (sector : ℕ) → Covers part sector → look sector ≡ Some whole
  pub before : (sector : ℕ) → sector + 1 ≡ start_of part → look sector ≢ Some whole
  pub behind : look part.end ≢ Some whole

-- for each sector the list has the key that the look-up gives, cut to what is left of it
abbrev pub Shows : (ℕ → Option Key) → List Key → Type 0
Shows look keys = (sector : ℕ) → MatchOption (look sector) (last_key keys sector ≡ None) (λ whole. IsSomeAnd (last_key keys sector) (IsRest look whole))

-- a look-up in which the sectors from `first` on up to `end` have this key, or none
abbrev pub overlaid : ℕ → ℕ → Option Key → (ℕ → Option Key) → ℕ → Option Key
overlaid first end key look sector = if nat_le first sector && nat_lt sector end then key else look sector

-- a look-up in which so many sectors from `first` on have no key
abbrev pub erased : ℕ → ℕ → (ℕ → Option Key) → ℕ → Option Key
erased first count look sector = overlaid first (first + count) None look sector
