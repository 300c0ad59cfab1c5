-- A condition on what a run brings that is needed (`bc_ranges`): the machine alone lets in what no
-- sound pair has.
use Rattle.std.specs.Prelude.{◌≡◌, ℕ, ◌<◌, [], ◌∷◌, None}
use Rattle.bc_key.specs.declared.key.Key.{Key}
use Rattle.bc_leaves.specs.Keys.{last_said}
use Rattle.bc_leaves.specs.Parts.{Leaf, IsWithin}

-- A key without sectors says nothing of any sector, so that the machine lets it into each leaf, and
-- it lies in none that begins behind sector 0.
abbrev pub NeedsSectors : Type 0
NeedsSectors = (key : Key) × ((s : ℕ) → last_said (key ∷ []) s ≡ None)
    × ((x : Leaf) → 0 < x.first → IsWithin x key → ⊥)
