-- What a sector holds, whole images, and runs of neighbouring sectors.
use Rattle.std.specs.Prelude.{◌≡◌, ℕ, zero, suc, ◌/◌, List, [], ◌∷◌, length, take, drop, Option, Some, None, if◌then◌else◌, ◌==◌}

-- what one sector holds: its 512 bytes
abbrev pub Value : Type 0
Value = List ℕ

-- what each sector of a device holds, by its number
abbrev pub Image : Type 0
Image = ℕ → Value

-- what a run of values that begins at sector `first` gives to sector s
abbrev pub at_run : ℕ → List Value → ℕ → Option Value
at_run first [] s = None
at_run first (v ∷ vs) s = if first == s then Some v else at_run (suc first) vs s

-- what a sector holds once a run went over it, which gives it this value or none
abbrev pub unless : Option Value → Value → Value
unless None old = old
unless (Some v) old = v

-- each value that the run gives to a sector has P there
abbrev pub Gives : ℕ → List Value → (ℕ → Value → Type 0) → Type 0
Gives first values P = (s : ℕ) (v : Value) → at_run first values s ≡ Some v → P s v

-- the values of n sectors that stand one behind the other in these bytes
abbrev pub sectors : ℕ → List ℕ → List Value
sectors zero bytes = []
sectors (suc n) bytes = take 512 bytes ∷ sectors n (drop 512 bytes)

-- the values of bytes that are whole sectors
abbrev pub values_of : List ℕ → List Value
values_of bytes = sectors (length bytes / 512) bytes
