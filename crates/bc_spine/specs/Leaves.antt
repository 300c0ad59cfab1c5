-- Leaves in the order of their ranges, which lie one behind the other.
use Rattle.std.specs.Prelude.{◌≡◌, ◌≢◌, ℕ, suc, ◌%◌, ◌<◌, ◌≤◌, List, [], ◌∷◌, ◌++◌, length, All, AllPairs, Contains}
use Rattle.bc_key.specs.declared.ptr.Ptr.{Ptr}
use Rattle.bc_model.specs.Pieces.{piece_sectors}
use Rattle.bc_spine.specs.declared.leaf.LeafRange.{LeafRange}

-- what a `Leaves` is seen as
pub record Leaves : Type 0 where
  pub leaves : List LeafRange
  -- the sector behind the last one
  pub end : ℕ
  -- how many more have room
  pub spare : ℕ

-- the sector lies in the leaf's range
abbrev pub Spans : LeafRange → ℕ → Type 0
Spans leaf sector = (leaf.from ≤ sector) × (sector < leaf.end)

-- each leaf begins where the one before it ends: the first one at sector a, and the last one
-- ends at b
abbrev pub IsRow : ℕ → List LeafRange → ℕ → Type 0
IsRow a [] b = a ≡ b
IsRow a (leaf ∷ leaves) b = (leaf.from ≡ a) × (a < leaf.end) × IsRow leaf.end leaves b

-- a leaf is cut off only at a multiple of 256 sectors
abbrev pub EndsAtCut : LeafRange → Type 0
EndsAtCut leaf = leaf.end % piece_sectors ≡ 0

abbrev pub HaveTwoNumbers : LeafRange → LeafRange → Type 0
HaveTwoNumbers a b = a.number ≢ b.number

-- the leaves of all sectors below an end, each of which has a number of its own
pub record AreLeaves (leaves : List LeafRange) (end : ℕ) : Type 0 where
  pub row : IsRow 0 leaves end
  pub cuts : All EndsAtCut leaves
  pub numbers : AllPairs HaveTwoNumbers leaves

-- the leaf of a sector
pub record IsLeafAt (leaves : List LeafRange) (sector : ℕ) (leaf : LeafRange) : Type 0 where
  pub held : Contains leaves leaf
  pub spans : Spans leaf sector

-- the number of that leaf
abbrev pub IsNumberAt : List LeafRange → ℕ → ℕ → Type 0
IsNumberAt leaves sector number =
    (leaf : LeafRange) × IsLeafAt leaves sector leaf × (leaf.number ≡ number)

-- their numbers count up from n on
abbrev pub AreCounted : ℕ → List LeafRange → Type 0
AreCounted n [] = Unit {0}
AreCounted n (leaf ∷ leaves) = (leaf.number ≡ n) × AreCounted (suc n) leaves

-- some leaves may take the place of others: they have the same sectors, end at multiples of 256,
-- and have numbers of their own
pub record CanReplace (leaves gone come : List LeafRange) : Type 0 where
  pub same_range : (a b : ℕ) → IsRow a gone b → IsRow a come b
  pub cuts : All EndsAtCut come
  pub numbers : AllPairs HaveTwoNumbers (leaves ++ come)

-- a leaf has come behind the others, and the numbers still count up
pub record IsPushed (old new : Leaves) (end : ℕ) (ptr : Ptr) : Type 0 where
  pub leaf : LeafRange
  pub leaves : new.leaves ≡ old.leaves ++ leaf ∷ []
  pub number : leaf.number ≡ length old.leaves
  pub ends : leaf.end ≡ end
  pub stands : leaf.ptr ≡ ptr
  pub behind : new.end ≡ end
  pub counted : AreCounted 0 new.leaves
