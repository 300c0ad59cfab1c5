-- Which sectors of the cache device are still to be placed.
use Rattle.std.specs.Prelude.{◌⊎◌, ℕ, ◌+◌, ◌*◌, ◌<◌, ◌≤◌, List, [], ◌∷◌, All}
use Rattle.bc_fill.specs.declared.fill.Open.{Open}
use Rattle.bc_fill.specs.declared.fill.Placed.{Placed}

-- the sector lies in an open bucket, at its next free one or behind it
abbrev pub IsFreeIn : ℕ → List Open → ℕ → Type 0
IsFreeIn size [] s = ⊥
IsFreeIn size (o ∷ fs) s = ((o.bucket * size + o.next ≤ s) × (s < o.bucket * size + size)) ⊎ IsFreeIn size fs s

-- the sector is one of the place
abbrev pub IsOf : Placed → ℕ → Type 0
IsOf p s = (p.ptr.offset ≤ s) × (s < p.ptr.offset + p.count)

-- no sector of these places is still to be placed
abbrev pub AreGone : ℕ → List Open → List Placed → Type 0
AreGone size fs ps = All (λ p. (s : ℕ) → IsOf p s → IsFreeIn size fs s → ⊥) ps

-- no sector is of both places
abbrev pub IsApart : Placed → Placed → Type 0
IsApart p q = (s : ℕ) → IsOf p s → IsOf q s → ⊥

-- no sector of the place is one of the bucket
abbrev pub IsOutside : ℕ → ℕ → Placed → Type 0
IsOutside size k p = (s : ℕ) → IsOf p s → k * size ≤ s → s < k * size + size → ⊥
