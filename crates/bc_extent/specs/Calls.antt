-- Calls of an extent map, one after another, and the look-ups that they give.
use Rattle.std.specs.Prelude.{◌≡◌, ℕ, List, [], ◌∷◌, ◌++◌, Option, Some, None, MatchOption, IsSomeAnd, nat_lt, if◌then◌else◌}
use Rattle.std.specs.Option.{option_or}
use Rattle.bc_key.specs.declared.key.Key.{Key}
use Rattle.bc_extent.specs.LastKey.{covers, last_key}
use Rattle.bc_extent.specs.Extents.{IsInOrder, IsPart, Shows, erased}

-- what a call changes: a key is the newest, or so many sectors from a first one on have none
pub data Change : Type 0 where
  inserted : Key → Change
  taken_out : ℕ → ℕ → Change

-- the list after the call, as its contract says
abbrev pub IsChanged : Change → List Key → List Key → Type 0
IsChanged (inserted key) old new = IsInOrder new × Shows (last_key (old ++ key ∷ [])) new
IsChanged (taken_out first count) old new = IsInOrder new × Shows (erased first count (last_key old)) new

-- the list after a call for each change
abbrev pub AreChanged : List Change → List Key → List Key → Type 0
AreChanged [] old new = new ≡ old
AreChanged (change ∷ changes) old new = (next : List Key) × IsChanged change old next × AreChanged changes next new

-- a look-up after a change
abbrev pub changed : Change → (ℕ → Option Key) → ℕ → Option Key
changed (inserted key) look sector = if covers key sector then Some key else look sector
changed (taken_out first count) look sector = erased first count look sector

-- a look-up after all of them
abbrev pub changed_by : List Change → (ℕ → Option Key) → ℕ → Option Key
changed_by [] look sector = look sector
changed_by (change ∷ changes) look sector = changed_by changes (changed change look) sector

-- the last key of a list, and what the look-up gives where the list has none
abbrev pub last_key_over : List Key → (ℕ → Option Key) → ℕ → Option Key
last_key_over keys look sector = option_or (last_key keys sector) (look sector)

-- the key where it has a pointer
abbrev pub with_pointer : Option Key → Option Key
with_pointer None = None
with_pointer (Some key) = if nat_lt 0 key.count then Some key else None

-- a look-up in which a key without pointers counts as none
abbrev pub live : (ℕ → Option Key) → ℕ → Option Key
live look sector = with_pointer (look sector)

-- the second look-up gives a part of each key that the first one gives, and none where that gives none
abbrev pub GivesParts : (ℕ → Option Key) → (ℕ → Option Key) → Type 0
GivesParts look other = (sector : ℕ) → MatchOption (look sector) (other sector ≡ None) (λ whole. IsSomeAnd (other sector) (IsPart whole))
