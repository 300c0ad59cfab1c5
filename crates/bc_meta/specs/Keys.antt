-- What keys say of a sector.
use Rattle.std.specs.Prelude.{◌≡◌, ℕ, Bool, ◌&&◌, nat_le, nat_lt, List, [], ◌∷◌, Option, Some, None, if◌then◌else◌}
use Rattle.bc_key.specs.declared.key.Key.{Key}
use Rattle.bc_key.specs.declared.ptr.Ptr.{Ptr}
use Rattle.bc_key.specs.Key.{start_of, place_by, pointer_of}

-- where a sector's data lies
pub record Ref : Type 0 where
  pub dirty : Bool
  pub dev : ℕ
  pub place : ℕ
  pub generation : ℕ

-- the sector lies in the key's range
abbrev pub covers : Key → ℕ → Bool
covers key s = nat_le (start_of key) s && nat_lt s key.end

abbrev pub ref_by : Key → ℕ → Option Ptr → Option Ref
ref_by key s None = None
ref_by key s (Some ptr) = Some (record {
  dirty = key.dirty;
  dev = ptr.dev;
  place = place_by ptr (start_of key) s;
  generation = ptr.generation;
})

-- What the newest key says that has the sector; a key without pointers says as much as none. Each
-- list of keys here has the newest first.
abbrev pub last_ref : List Key → ℕ → Option Ref
last_ref [] s = None
last_ref (key ∷ keys) s = if covers key s then ref_by key s (pointer_of key) else last_ref keys s

-- both lists say the same of each sector
abbrev pub Alike : List Key → List Key → Type 0
Alike xs ys = (s : ℕ) → last_ref xs s ≡ last_ref ys s
