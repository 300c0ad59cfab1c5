-- A whole record is read at a place, and values spell one: the same for records of each kind.
use Rattle.std.specs.Prelude.{◌≡◌, ℕ, ◌+◌, ◌≤◌, List, [], ◌∷◌, ◌++◌, length}
use Rattle.bc_model.specs.Sector.{Value, Image}
use Rattle.bc_record.specs.Sectors.{sector_bytes}
use Rattle.bc_record.specs.Kind.{Kind, sectors_of, IsFound}

-- a reader that looks no further than an end reads the record, which ends in front of it
abbrev pub IsWhole : {A : Type 0} → Kind A → Image → ℕ → ℕ → A → Type 0
IsWhole kind image end place e = IsFound kind image end place e × (place + sectors_of kind e ≤ end)

-- the bytes of values
abbrev pub bytes_of_values : List Value → List ℕ
bytes_of_values [] = []
bytes_of_values (v ∷ vs) = sector_bytes v ++ bytes_of_values vs

-- the values begin with the record, and are as many as it takes
abbrev pub Spell : {A : Type 0} → Kind A → List Value → A → Type 0
Spell kind values e = kind.Begins (bytes_of_values values) e × (sectors_of kind e ≡ length values)
