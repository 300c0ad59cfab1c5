-- The runs that are printed of the values of neighbouring sectors.
use Rattle.std.specs.Prelude.{◌≡◌, ℕ, suc, ◌/◌, ◌%◌, ◌<◌, ◌^◌, ◌==◌, Bool, true, false, List, [], ◌∷◌, ◌++◌, map, codes, if◌then◌else◌}
use Rattle.std.specs.List.{flat_map, join_with_byte}
use Rattle.std.specs.Char.{digit_char}
use Rattle.std.specs.Fmt.{decimal}
use Rattle.bc_model.specs.Sector.{Value}
use Rattle.bc_model.specs.Pattern.{IsKind}
use Rattle.bc_model.specs.declared.kinds.Kind.TheVariants.{Pattern, Zero as ZeroKind, Raw}
use Rattle.bc_script.specs.declared.seen.Seen.{Seen}
use Rattle.bc_script.specs.declared.seen.Seen.TheVariants.{Stamp, Zero, Other}

-- what is to be seen in the value of this sector
abbrev pub IsSeen : ℕ → Value → Seen → Type 0
IsSeen sector value (Stamp stamp) = IsKind sector value (Pattern stamp) × (stamp < 2 ^ 64)
IsSeen sector value Zero = IsKind sector value ZeroKind
IsSeen sector value (Other other) = IsKind sector value Raw × (other ≡ value)

-- the same of the values of neighbouring sectors, from this one on
abbrev pub AreSeen : ℕ → List Value → List Seen → Type 0
AreSeen first [] [] = Unit {0}
AreSeen first (v ∷ vs) (x ∷ xs) = IsSeen first v x × AreSeen (suc first) vs xs
AreSeen first [] (x ∷ xs) = ⊥
AreSeen first (v ∷ vs) [] = ⊥

-- neighbours of one stamp, or of zero, are one run; other sectors are never joined
abbrev pub is_joined : Seen → Seen → Bool
is_joined (Stamp stamp) (Stamp other) = stamp == other
is_joined (Stamp stamp) Zero = false
is_joined (Stamp stamp) (Other other) = false
is_joined Zero (Stamp stamp) = false
is_joined Zero Zero = true
is_joined Zero (Other other) = false
is_joined (Other value) (Stamp stamp) = false
is_joined (Other value) Zero = false
is_joined (Other value) (Other other) = false

-- so many neighbouring sectors
pub record Run : Type 0 where
  pub seen : Seen
  pub count : ℕ

-- a sector before the runs of those behind it
abbrev pub onto_runs : Seen → List Run → List Run
onto_runs x [] = record { seen = x; count = 1 } ∷ []
onto_runs x (run ∷ runs) = if is_joined x run.seen then record { seen = x; count = suc run.count } ∷ runs else record { seen = x; count = 1 } ∷ run ∷ runs

abbrev pub runs_of : List Seen → List Run
runs_of [] = []
runs_of (x ∷ xs) = onto_runs x (runs_of xs)

-- two lower-case hexadecimal digits for each byte
abbrev pub hex : List ℕ → List ℕ
hex bytes = flat_map (λ b. digit_char (b / 16) ∷ digit_char (b % 16) ∷ []) bytes

abbrev pub seen_text : Seen → ℕ → List ℕ
seen_text (Stamp stamp) count = decimal stamp ++ (codes "x" ++ decimal count)
seen_text Zero count = codes "zerox" ++ decimal count
seen_text (Other value) count = codes "raw:" ++ hex value

abbrev pub run_text : Run → List ℕ
run_text run = seen_text run.seen run.count

-- the runs of these sectors with a space between two of them
abbrev pub runs_text : List Seen → List ℕ
runs_text seen = join_with_byte 32 (map run_text (runs_of seen))
