-- What a trace writes to a sector.
use Rattle.std.specs.Prelude.{◌≡◌, ◌≢◌, ℕ, zero, suc, ◌<◌, ◌≤◌, ◌^◌, List, [], ◌++◌, replicate}
use Rattle.std.specs.Int.{w64, to_le_bytes}
use Rattle.bc_model.specs.Sector.{Value}
use Rattle.bc_model.specs.declared.kinds.Kind.{Kind}
use Rattle.bc_model.specs.declared.kinds.Kind.TheVariants.{Pattern, Zero, Raw}

-- so many times the two words
abbrev pub words : ℕ → ℕ → ℕ → List ℕ
words stamp sector zero = []
words stamp sector (suc n) = to_le_bytes w64 stamp ++ (to_le_bytes w64 sector ++ words stamp sector n)

-- 64 words of 8 bytes, the lowest byte first: the even ones are the stamp, the odd ones the sector
unfoldable pub pattern : ℕ → ℕ → Value
pattern stamp sector = words stamp sector 32

unfoldable pub zeros : Value
zeros = replicate 512 0

-- what a sector with this value holds
abbrev pub IsKind : ℕ → Value → Kind → Type 0
IsKind sector value (Pattern stamp) = (1 ≤ stamp) × (value ≡ pattern stamp sector)
IsKind sector value Zero = value ≡ zeros
IsKind sector value Raw = (value ≢ zeros) × ((stamp : ℕ) → 1 ≤ stamp → stamp < 2 ^ 64 → value ≢ pattern stamp sector)
