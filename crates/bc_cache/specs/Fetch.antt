-- How a leaf is fetched.
use Rattle.std.specs.Prelude.{◌≡◌, ℕ, Bool, List, Option, None, Some, slice_get}
use Rattle.bc_disk.specs.Device.{next_count}
use Rattle.bc_disk.specs.Disk.{DiskFacts, IsCounted}
use Rattle.bc_key.specs.declared.key.Key.{Key}
use Rattle.bc_node.specs.Leaf.{Leaf}
use Rattle.bc_node.specs.Loading.{IsHeldLeaf, IsNotLoaded, good}
use Rattle.bc_cache.specs.declared.error.FetchError.{FetchError}
use Rattle.bc_cache.specs.declared.error.FetchError.TheVariants.{Busy, Node}
use Rattle.bc_cache.specs.declared.slots.Cached.{Cached}
use Rattle.bc_cache.specs.Slots.{NodeCache, IsOldest, NoneCanGo, coming, used_with, with_slot}

-- the slot was used, and nothing else has changed
pub record IsUsed (slot : ℕ) (old new : NodeCache) : Type 0 where
  pub cached : Cached
  pub there : slice_get old.slots slot ≡ Some (Some cached)
  pub after : new ≡ used_with old slot (Some (record cached { used = next_count old.uses }))

-- The leaf that the key points to was read, in one good call, into the slot that was used longest ago; nothing else has changed.
pub record IsReadInto (slot number : ℕ) (key : Key) (from : ℕ) (old new : NodeCache) (before now
    : DiskFacts) : Type 0 where
  pub leaf : Leaf
  pub held : IsHeldLeaf old.geometry key from before leaf
  pub oldest : IsOldest old.slots slot
  pub after : new ≡ used_with old slot (Some (coming number leaf (next_count old.uses)))
  pub counted : IsCounted good before now

-- Why it wasn't read: no slot has a leaf that can go, or it can't be loaded.
abbrev pub IsNotRead : NodeCache → Key → ℕ → DiskFacts → DiskFacts → FetchError → Type 0
IsNotRead old key from before now Busy = NoneCanGo old.slots
IsNotRead old key from before now (Node e) =
    ((slot : ℕ) × IsOldest old.slots slot) × IsNotLoaded old.geometry key from before now e

-- this is the slot's leaf
abbrev pub IsLeafIn : List (Option Cached) → ℕ → Leaf → Type 0
IsLeafIn slots slot leaf =
    (cached : Cached) × (slice_get slots slot ≡ Some (Some cached)) × (cached.leaf ≡ leaf)

-- this leaf was taken out of the slot, and nothing else has changed
pub record IsTakenOut (slot : ℕ) (old new : NodeCache) (leaf : Leaf) : Type 0 where
  pub was : IsLeafIn old.slots slot leaf
  pub after : new ≡ with_slot old slot None
  pub empty : slice_get new.slots slot ≡ Some None

-- a hold of the slot's leaf has begun or ended, and nothing else has changed
pub record IsSetHeld (slot : ℕ) (held : Bool) (old new : NodeCache) : Type 0 where
  pub cached : Cached
  pub there : slice_get old.slots slot ≡ Some (Some cached)
  pub after : new ≡ with_slot old slot (Some (record cached { held = held }))
