-- Where the data of sectors are, by a leaf.
use Rattle.std.specs.Prelude.{◌≡◌, ℕ, ◌+◌, ◌<◌, ◌≤◌, true, Some}
use Rattle.bc_meta.specs.Keys.{Ref}
use Rattle.bc_node.specs.Leaf.{Leaf}
use Rattle.bc_write_back.specs.bc_sight.Sight.{IsOnBacking, said_in}

-- the leaf's last key of the sector points somewhere, and is dirty: the data are in the cache alone
abbrev pub IsDirtyIn : Leaf → ℕ → Type 0
IsDirtyIn leaf s = (ref : Ref) × (said_in leaf s ≡ Some ref) × (ref.dirty ≡ true)

-- so it is with one of these sectors
pub record HasDirty (leaf : Leaf) (first count : ℕ) : Type 0 where
  pub sector : ℕ
  pub low : first ≤ sector
  pub high : sector < first + count
  pub dirty : IsDirtyIn leaf sector

-- or the backing device has what each of them shows
abbrev pub AreBacked : Leaf → (first count : ℕ) → Type 0
AreBacked leaf first count = (s : ℕ) → first ≤ s → s < first + count → IsOnBacking leaf s
