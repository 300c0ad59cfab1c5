-- The buckets into which the keys of new leaves point are touched: what that is to the core, which
-- sees by sectors where each one points.
use Rattle.std.specs.Prelude.{◌≡◌, ◌⊎◌, ℕ, Bool, true, false, ◌+◌, ◌-◌, ◌/◌, ◌<◌, ◌≤◌, ◌&&◌, ◌||◌, List, [], ◌∷◌, ◌++◌, length, nat_le, nat_lt, slice_index_or, Some}
use Rattle.bc_books.specs.Index.{latest}
use Rattle.bc_books.specs.Marks.{any, points_into}
use Rattle.bc_key.specs.Key.{Covers, place_by, pointer_of, start_of}
use Rattle.bc_key.specs.declared.key.Key.{Key}
use Rattle.bc_key.specs.declared.ptr.Ptr.{Ptr}
use Rattle.bc_looks.specs.Looks.{InCourse}
use Rattle.bc_looks.specs.bc_machine.Containers.{IsLeafFor}
use Rattle.bc_meta.specs.Facts.{In}
use Rattle.bc_node.specs.Leaf.{AreProperKeys, Leaf}
use Rattle.bc_places.specs.Stands.{IsCutInto}
use Rattle.bc_shares.specs.Shares.{books_of, leaf_share}

-- A sector of a key lies in this bucket of the device. A place before the core's first bucket
-- counts as one in it.
pub record IsPointedTo (size first : ℕ) (keys : List Key) (n : ℕ) : Type 0 where
  pub key : Key
  pub among : In key keys
  pub sector : ℕ
  pub covers : Covers key sector
  pub ptr : Ptr
  pub pointer : pointer_of key ≡ Some ptr
  pub bucket : place_by ptr (start_of key) sector / size - first + first ≡ n

-- just the buckets are touched that were, and those into which keys point
pub record AreTouchedBy (size first : ℕ) (keys : List Key) (old new : List Bool) : Type 0 where
  pub each : length new ≡ length old
  pub some : (n : ℕ) → n < length old → slice_index_or new n false ≡ true
      → (slice_index_or old n false ≡ true) ⊎ IsPointedTo size first keys n
  pub all : (n : ℕ) → n < length old
      → (slice_index_or old n false ≡ true) ⊎ IsPointedTo size first keys n
      → slice_index_or new n false ≡ true

-- the keys of these leaves
abbrev pub keys_in : List Leaf → List Key
keys_in [] = []
keys_in (leaf ∷ leaves) = leaf.keys ++ keys_in leaves

-- the sectors between two
abbrev pub lies_between : ℕ → ℕ → ℕ → Bool
lies_between low high s = nat_le low s && nat_lt s high

-- Leaves in memory that are of the tree, between two sectors.
pub record AreBetween (low high : ℕ) (leaves : List Leaf) : Type 0 where
  pub proper : (leaf : Leaf) → In leaf leaves → AreProperKeys leaf.from leaf.end leaf.keys
  pub from : (leaf : Leaf) → In leaf leaves → low ≤ leaf.from
  pub end : (leaf : Leaf) → In leaf leaves → leaf.end ≤ high
  pub each : (s : ℕ) → low ≤ s → s < high
      → (leaf : Leaf) × In leaf leaves × (leaf.from ≤ s) × (s < leaf.end)

abbrev pub LawTouched : Type 0
LawTouched = InCourse (λ o st. (size count low high : ℕ) (leaves : List Leaf)
    (old new : List Bool) → 0 < size → IsCutInto size count o.opening.machine
    → length old ≡ count → AreBetween low high leaves
    → ((leaf : Leaf) → In leaf leaves → (k : ℕ)
    × IsLeafFor o.opening.machine (leaf_share st.machine.whole.parts k) leaf)
    → AreTouchedBy size o.opening.machine.before (keys_in leaves) old new
    → (b : ℕ) → o.opening.machine.before + b < count
    → slice_index_or new (o.opening.machine.before + b) false
    ≡ (any o.opening.machine.flow.books.size (λ s. lies_between low high s
    && points_into o.opening.machine.flow.books.bucket b
    (latest (books_of st.machine).index s))
    || slice_index_or old (o.opening.machine.before + b) false))
