-- What lists of keys say of a sector. A key without pointers says that its data lies nowhere, which
-- is more than to say nothing.
use Rattle.std.specs.Prelude.{◌≡◌, ℕ, true, List, [], ◌∷◌, Option, Some, None, if◌then◌else◌}
use Rattle.bc_key.specs.declared.key.Key.{Key}
use Rattle.bc_key.specs.Key.{pointer_of}
use Rattle.bc_meta.specs.Keys.{Ref, covers, ref_by}

-- what the newest key says that has the sector, where one has it
abbrev pub last_said : List Key → ℕ → Option (Option Ref)
last_said [] s = None
last_said (key ∷ keys) s = if covers key s then Some (ref_by key s (pointer_of key)) else last_said keys s

-- where the sector's data lies, if anywhere
abbrev pub ref_said : Option (Option Ref) → Option Ref
ref_said None = None
ref_said (Some said) = said

-- the key has the sector
abbrev pub Speaks : Key → ℕ → Type 0
Speaks key s = covers key s ≡ true

-- one of the keys has it
abbrev pub AnySpeaks : List Key → ℕ → Type 0
AnySpeaks keys s = (said : Option Ref) × (last_said keys s ≡ Some said)

-- both lists have the same sectors, and say the same of each
abbrev pub SaysSame : List Key → List Key → Type 0
SaysSame xs ys = (s : ℕ) → last_said xs s ≡ last_said ys s
