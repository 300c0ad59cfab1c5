-- The slots of a node cache.
use Rattle.std.specs.Prelude.{◌≡◌, ℕ, ◌<◌, ◌≤◌, ◌^◌, List, [], Bool, false, Option, Some, None, length, slice_get, slice_set}
use Rattle.bc_disk.specs.Device.{next_count}
use Rattle.bc_disk.specs.declared.geometry.Geometry.{Geometry}
use Rattle.bc_node.specs.Leaf.{Leaf}
use Rattle.bc_cache.specs.declared.slots.Cached.{Cached}

-- what a `NodeCache` is seen as
pub record NodeCache : Type 0 where
  pub geometry : Geometry
  pub slots : List (Option Cached)
  -- the number of the last use; they are counted from 1 on
  pub uses : ℕ

-- the slot has the leaf of this number
pub record HasLeaf (slots : List (Option Cached)) (slot number : ℕ) : Type 0 where
  pub cached : Cached
  pub there : slice_get slots slot ≡ Some (Some cached)
  pub number_is : cached.number ≡ number

-- no slot has it
abbrev pub Misses : List (Option Cached) → ℕ → Type 0
Misses slots number = (slot : ℕ) → ¬ (HasLeaf slots slot number)

-- this slot has it, and no other
pub record IsSlotOf (slots : List (Option Cached)) (number slot : ℕ) : Type 0 where
  pub has : HasLeaf slots slot number
  pub only : (other : ℕ) → HasLeaf slots other number → other ≡ slot

-- Another leaf may come into the slot: it is empty, or nobody holds its leaf, of which nothing is
-- pending, and no entry of the journal holds a key that is in no set.
abbrev pub CanGo : Option Cached → Type 0
CanGo None = Unit {0}
CanGo (Some cached) = (cached.held ≡ false) × (cached.leaf.pending ≡ [])
    × (cached.leaf.entries ≡ None)

-- no slot is such
abbrev pub NoneCanGo : List (Option Cached) → Type 0
NoneCanGo slots =
    (slot : ℕ) (kept : Option Cached) → slice_get slots slot ≡ Some kept → ¬ (CanGo kept)

-- the number of the slot's last use; an empty one was used before all others
abbrev pub last_use : Option Cached → ℕ
last_use None = 0
last_use (Some cached) = cached.used

-- Of the slots that another leaf may come into, it was used longest ago; the first one where several were. An empty one goes first.
pub record IsOldest (slots : List (Option Cached)) (slot : ℕ) : Type 0 where
  pub kept : Option Cached
  pub there : slice_get slots slot ≡ Some kept
  pub can_go : CanGo kept
  pub least : (i : ℕ) (other : Option Cached) → slice_get slots i ≡ Some other → CanGo other
      → last_use kept ≤ last_use other
  pub first : (i : ℕ) (other : Option Cached) → i < slot → slice_get slots i ≡ Some other → CanGo other
      → last_use kept < last_use other

-- a leaf that comes into a slot, which nobody holds
abbrev pub coming : ℕ → Leaf → ℕ → Cached
coming number leaf used = record { number = number; leaf = leaf; held = false; used = used }

-- what a cache keeps: a leaf is in one slot at most, and each use has a number from 1 on up to that of the last one
pub record IsCache (slots : List (Option Cached)) (uses : ℕ) : Type 0 where
  pub few : length slots < 2 ^ 32
  pub once : (i j : ℕ) (a b : Cached) → slice_get slots i ≡ Some (Some a)
      → slice_get slots j ≡ Some (Some b) → a.number ≡ b.number → i ≡ j
  pub used : (i : ℕ) (a : Cached) → slice_get slots i ≡ Some (Some a)
      → (0 < a.used) × (a.used ≤ uses)

-- the cache with something else in a slot
abbrev pub with_slot : NodeCache → ℕ → Option Cached → NodeCache
with_slot cache slot kept = record cache { slots = slice_set cache.slots slot kept }

-- the cache after one more use, which put this into a slot
abbrev pub used_with : NodeCache → ℕ → Option Cached → NodeCache
used_with cache slot kept =
    record cache { slots = slice_set cache.slots slot kept; uses = next_count cache.uses }

-- the slot's leaf has this number
abbrev pub HasNumber : Option Cached → ℕ → Type 0
HasNumber None number = ⊥
HasNumber (Some cached) number = cached.number ≡ number

-- the slot has some leaf
abbrev pub IsOccupied : List (Option Cached) → ℕ → Type 0
IsOccupied slots slot = (cached : Cached) × (slice_get slots slot ≡ Some (Some cached))

-- it has one, which somebody holds, or nobody
abbrev pub IsTakenBy : List (Option Cached) → ℕ → Bool → Type 0
IsTakenBy slots slot held =
    (cached : Cached) × (slice_get slots slot ≡ Some (Some cached)) × (cached.held ≡ held)
