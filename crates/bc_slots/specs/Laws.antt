-- What the parts come to, leaf by leaf.
use Rattle.std.specs.Prelude.{◌≡◌, ℕ, ◌+◌, ◌%◌, ◌<◌, ◌≤◌, List, [], true, All, Some, None, length, replicate, slice_get, slice_index_or}
use Rattle.bc_cache.specs.Slots.{IsSlotOf, NodeCache, NoneCanGo}
use Rattle.bc_cache.specs.declared.slots.Cached.{Cached}
use Rattle.bc_disk.specs.Disk.{DiskFacts}
use Rattle.bc_disk.specs.declared.geometry.Geometry.{Geometry}
use Rattle.bc_pending.specs.declared.numbered.Numbered.{Numbered}
use Rattle.bc_pending.specs.Pieces.{ArePending}
use Rattle.bc_spine.specs.declared.leaf.LeafRange.{LeafRange}
use Rattle.bc_slots.specs.Parts.{AreOfLeaves, IsOpened, IsLeafPart}
use Rattle.bc_slots.specs.Places.{has_keys, is_in, numbers_in}

-- one slot of the part has the leaf, and no other
pub record HasOne (g : Geometry) (leaves : List LeafRange) (pending : List (List Numbered))
    (d : DiskFacts) (number : ℕ) (cache : NodeCache) : Type 0 where
  pub slot : ℕ
  pub cached : Cached
  pub there : slice_get cache.slots slot ≡ Some (Some cached)
  pub opened : IsOpened g leaves pending d number cached
  pub only : IsSlotOf cache.slots number slot

-- each leaf of which the journal has keys is in one slot of its part
abbrev pub EachHasOne : DiskFacts → Type 0
EachHasOne d =
    (g : Geometry) (leaves : List LeafRange) (pending : List (List Numbered)) (count : ℕ)
    (part number : ℕ) (cache : NodeCache)
    → IsLeafPart g leaves pending count d part cache → number < length pending
    → has_keys (slice_index_or pending number []) ≡ true → number % count ≡ part
    → HasOne g leaves pending d number cache

-- and no slot has another leaf
abbrev pub NoOther : DiskFacts → Type 0
NoOther d =
    (g : Geometry) (leaves : List LeafRange) (pending : List (List Numbered)) (count : ℕ)
    (part slot : ℕ) (cached : Cached) (cache : NodeCache)
    → IsLeafPart g leaves pending count d part cache
    → slice_get cache.slots slot ≡ Some (Some cached)
    → (is_in pending count part cached.number ≡ true)
    × IsOpened g leaves pending d cached.number cached

-- the number of slots
abbrev pub FourMore : DiskFacts → Type 0
FourMore d =
    (g : Geometry) (leaves : List LeafRange) (pending : List (List Numbered)) (count : ℕ)
    (part : ℕ) (cache : NodeCache)
    → IsLeafPart g leaves pending count d part cache
    → length cache.slots ≡ length (numbers_in pending count part) + 4

-- those behind the leaves are empty, so that another leaf may come
abbrev pub LastFourEmpty : DiskFacts → Type 0
LastFourEmpty d =
    (g : Geometry) (leaves : List LeafRange) (pending : List (List Numbered)) (count : ℕ)
    (part slot : ℕ) (cache : NodeCache)
    → IsLeafPart g leaves pending count d part cache
    → length (numbers_in pending count part) ≤ slot → slot < length cache.slots
    → slice_get cache.slots slot ≡ Some None

abbrev pub SomeCanGo : DiskFacts → Type 0
SomeCanGo d =
    (g : Geometry) (leaves : List LeafRange) (pending : List (List Numbered)) (count : ℕ)
    (part : ℕ) (cache : NodeCache)
    → IsLeafPart g leaves pending count d part cache → ¬ (NoneCanGo cache.slots)

-- where the journal has no keys, each part has four empty slots
abbrev pub NoneOpened : DiskFacts → Type 0
NoneOpened d =
    (g : Geometry) (leaves : List LeafRange) (pending : List (List Numbered)) (count : ℕ)
    (part : ℕ) (cache : NodeCache)
    → IsLeafPart g leaves pending count d part cache → All (λ keys. keys ≡ []) pending
    → cache.slots ≡ replicate 4 None

-- the keys that leaves get of the journal lie in their ranges
abbrev pub PendingFit : Type 0
PendingFit =
    (leaves : List LeafRange) (keys : List Numbered) (lists : List (List Numbered))
    → ArePending leaves keys lists → AreOfLeaves leaves lists
