-- Keys of entries that a leaf gets back, cut to its range.
use Rattle.std.specs.Prelude.{◌≡◌, ◌⊎◌, ◌↔◌, ℕ, suc, ◌<◌, ◌≤◌, List, [], ◌∷◌, ◌++◌}
use Rattle.bc_key.specs.declared.key.Key.{Key}
use Rattle.bc_key.specs.Key.{pointer_of}
use Rattle.bc_meta.specs.Entries.{CountDown, Entry}
use Rattle.bc_meta.specs.Keys.{ref_by}
use Rattle.bc_leaves.specs.Keys.{Speaks}
use Rattle.bc_leaves.specs.Parts.{Pending}
use Rattle.bc_leaves_runs.specs.Reopen.{Replays}

-- a part has the key's sectors from a to b, and says of each what the key does
pub record IsCutTo (a b : ℕ) (whole part : Key) : Type 0 where
  pub sectors : (s : ℕ) → Speaks part s ↔ ((a ≤ s) × (s < b) × Speaks whole s)
  pub says : (s : ℕ) → Speaks part s → ref_by part s (pointer_of part)
      ≡ ref_by whole s (pointer_of whole)

-- of an entry's keys, newest first, those with such sectors, each cut to them and with the entry's
-- number
abbrev pub AreCut : ℕ → ℕ → ℕ → List Key → List Pending → Type 0
AreCut a b number [] pending = pending ≡ []
AreCut a b number (key ∷ keys) pending =
    (((s : ℕ) → a ≤ s → s < b → Speaks key s → ⊥) × AreCut a b number keys pending)
    ⊎ ((part : Pending) × (rest : List Pending) × (pending ≡ part ∷ rest)
    × (part.number ≡ number) × IsCutTo a b key part.key × AreCut a b number keys rest)

-- and of entries, the newest first
abbrev pub AreCutFrom : ℕ → ℕ → List Entry → List Pending → Type 0
AreCutFrom a b [] pending = pending ≡ []
AreCutFrom a b (e ∷ es) pending =
    (here rest : List Pending) × (pending ≡ here ++ rest) × AreCut a b e.number e.keys here
    × AreCutFrom a b es rest

-- so cut they are what a leaf may get back
abbrev pub LawCut : Type 0
LawCut = (all : List Entry) (a b : ℕ) (newest : Entry) (older : List Entry) (pending : List Pending)
    → CountDown all newest.last_seq (newest ∷ older) (suc newest.number)
    → AreCutFrom a b (newest ∷ older) pending → Replays a b newest older pending
