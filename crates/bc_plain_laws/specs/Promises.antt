-- What a run promises of the device that it leaves. Its entries are those of its events, oldest
-- first, and its data are the sectors from the offset on.
use Rattle.std.specs.Prelude.{◌≡◌, ◌⊎◌, ℕ, ◌+◌, ◌<◌, ◌≤◌, List, reverse}
use Rattle.bc_model.specs.Sector.{Image}
use Rattle.bc_model.specs.History.{now, IsLegal, Allowed}
use Rattle.bc_model.specs.declared.history.Entry.{Entry}
use Rattle.bc_disk.specs.Disk.{DiskFacts, IfTold}

-- where the device held this image as the run began: the history is legal, and whatever a crash
-- leaves now shows for each sector an allowed value
abbrev pub Survives : ℕ → Image → List Entry → DiskFacts → Type 0
Survives offset held entries after_ = IsLegal (λ s. held (offset + s)) (reverse entries)
    × ((left : Image) → after_.may_leave left → (s : ℕ)
    → Allowed (λ s. held (offset + s)) (reverse entries) s (left (offset + s)))

-- whatever a crash leaves now shows each sector's last write
abbrev pub LeavesLastWrites : ℕ → Image → List Entry → DiskFacts → Type 0
LeavesLastWrites offset held entries after_ = (left : Image) → after_.may_leave left → (s : ℕ)
    → left (offset + s) ≡ now (λ s. held (offset + s)) (reverse entries) s

-- the sector lies before the data, or behind them
abbrev pub IsOutside : ℕ → ℕ → ℕ → Type 0
IsOutside offset size t = (t < offset) ⊎ (offset + size ≤ t)

-- there the device is as it was, and a crash leaves it so
pub record IsUntouched (offset size : ℕ) (held : Image) (after_ : DiskFacts) : Type 0 where
  pub reads : IfTold after_.holds (λ new. (t : ℕ) → IsOutside offset size t → new t ≡ held t)
  pub leaves : (left : Image) → after_.may_leave left → (t : ℕ) → IsOutside offset size t
      → left t ≡ held t
