-- What the leaves of the index get of the journal's keys.
use Rattle.std.specs.Prelude.{◌≡◌, ◌⊎◌, ℕ, ◌<◌, max, min, List, [], ◌∷◌, ◌++◌, length, slice_index_or}
use Rattle.bc_extent.specs.Extents.{IsPart, IsRange}
use Rattle.bc_key.specs.Key.{IsExtent, start_of}
use Rattle.bc_key.specs.declared.key.Key.{Key}
use Rattle.bc_spine.specs.Leaves.{IsRow}
use Rattle.bc_spine.specs.declared.leaf.LeafRange.{LeafRange}
use Rattle.bc_pending.specs.declared.numbered.Numbered.{Numbered}

-- leaves whose ranges lie one behind the other, from sector 0 on
abbrev pub AreInRow : List LeafRange → Type 0
AreInRow leaves = (end : ℕ) × IsRow 0 leaves end

abbrev pub numbered : ℕ → Key → Numbered
numbered entry key = record { key = key; entry = entry }

-- some sector of the key lies in the leaf's range
abbrev pub HasSectors : LeafRange → Key → Type 0
HasSectors leaf key = IsExtent key × (max leaf.from (start_of key) < min leaf.end key.end)

-- the piece is the key as far as it lies in the leaf's range
pub record IsPiece (leaf : LeafRange) (whole piece : Numbered) : Type 0 where
  pub some : HasSectors leaf whole.key
  pub entry : piece.entry ≡ whole.entry
  pub cut : IsPart whole.key piece.key
  pub range : IsRange piece.key
  pub begins : start_of piece.key ≡ max leaf.from (start_of whole.key)
  pub ends : piece.key.end ≡ min leaf.end whole.key.end

-- the pieces of those keys that have sectors in the leaf's range, in the order of the keys
abbrev pub ArePieces : LeafRange → List Numbered → List Numbered → Type 0
ArePieces leaf [] pieces = pieces ≡ []
ArePieces leaf (key ∷ keys) pieces =
    (¬ (HasSectors leaf key.key) × ArePieces leaf keys pieces)
    ⊎ ((piece : Numbered) × (rest : List Numbered) × IsPiece leaf key piece × (pieces ≡ piece ∷ rest) × ArePieces leaf keys rest)

-- a list for each leaf, which has the pieces of the keys in its range
pub record ArePending (leaves : List LeafRange) (keys : List Numbered) (lists : List (List Numbered)) : Type 0 where
  pub each : length lists ≡ length leaves
  pub pieces : (i : ℕ) (d : LeafRange) → i < length leaves → ArePieces (slice_index_or leaves i d) keys (slice_index_or lists i [])

-- ---- one key more

-- the leaf's list has got the key's piece, if there is one
abbrev pub IsGiven : LeafRange → Numbered → List Numbered → List Numbered → Type 0
IsGiven leaf key old new =
    (¬ (HasSectors leaf key.key) × (new ≡ old)) ⊎ ((piece : Numbered) × IsPiece leaf key piece × (new ≡ old ++ piece ∷ []))

-- so has each leaf's
pub record AreGiven (leaves : List LeafRange) (key : Numbered) (old new : List (List Numbered)) : Type 0 where
  pub each : length new ≡ length old
  pub given : (i : ℕ) (d : LeafRange) → i < length leaves → IsGiven (slice_index_or leaves i d) key (slice_index_or old i []) (slice_index_or new i [])

-- whatever keys the lists had the pieces of, they have those of more keys behind them
abbrev pub GoOn : List LeafRange → List Numbered → List (List Numbered) → List (List Numbered) → Type 0
GoOn leaves more old new = (keys : List Numbered) → ArePending leaves keys old → ArePending leaves (keys ++ more) new
