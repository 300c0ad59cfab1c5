-- How many bytes a stream has.
use Rattle.std.specs.Prelude.{◌≡◌, ℕ, List, length, Option, IfSome}

-- where a stream's position and its bytes are known, it has so many
abbrev pub IsSizeOf : Option ℕ → Option (List ℕ) → ℕ → Type 0
IsSizeOf position bytes size = IfSome position (λ _. IfSome bytes (λ xs. size ≡ length xs))
