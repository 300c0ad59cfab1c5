-- Written sectors in their order, and what a crash may leave of them.
use Rattle.std.specs.Prelude.{ℕ, suc, ◌+◌, ◌*◌, ◌≤◌, All, List, [], ◌∷◌, if◌then◌else◌, ◌==◌}
use Rattle.bc_model.specs.Sector.{Value}
use Rattle.bc_disk.specs.Bytes.{image_of}
use Rattle.bc_disk.specs.declared.log.Logged.{Logged}

-- the values of a run that begins at sector `at`, as written sectors
abbrev pub logged : ℕ → List Value → List Logged
logged at [] = []
logged at (v ∷ vs) = record { sector = at; value = v } ∷ logged (suc at) vs

-- the values written to this sector, in their order
abbrev pub values_at : ℕ → List Logged → List Value
values_at s [] = []
values_at s (w ∷ ws) = if w.sector == s then w.value ∷ values_at s ws else values_at s ws

-- what a crash may leave in this sector: its stable value, then the written ones
abbrev pub choices : List ℕ → List Logged → ℕ → List Value
choices stable log s = image_of stable s ∷ values_at s log

-- each of them lies whole within so many bytes
abbrev pub IsWithin : ℕ → List Logged → Type 0
IsWithin bytes log = All (λ w. 512 * w.sector + 512 ≤ bytes) log
