-- While the parts are filled.
use Rattle.std.specs.Prelude.{◌≡◌, ℕ, ◌+◌, ◌<◌, List, [], ◌∷◌, Some, None, length, replicate, slice_index_or}
use Rattle.bc_cache.specs.Slots.{NodeCache, coming, used_with}
use Rattle.bc_disk.specs.Device.{next_count}
use Rattle.bc_disk.specs.Disk.{DiskFacts}
use Rattle.bc_disk.specs.declared.geometry.Geometry.{Geometry}
use Rattle.bc_node.specs.Leaf.{Leaf}
use Rattle.bc_pending.specs.declared.numbered.Numbered.{Numbered}
use Rattle.bc_reload.specs.Reload.{IsReloaded}
use Rattle.bc_spine.specs.declared.leaf.LeafRange.{LeafRange}
use Rattle.bc_slots.specs.Places.{numbers_in}

-- for each part how many of its leaves have keys
pub record AreCounts (pending : List (List Numbered)) (count : ℕ) (counts : List ℕ) : Type 0 where
  pub each : length counts ≡ count
  pub count_is : (p : ℕ) → p < count
      → slice_index_or counts p 0 ≡ length (numbers_in pending count p)

-- a part without leaves, with four slots more than this
pub record IsEmpty (g : Geometry) (n : ℕ) (cache : NodeCache) : Type 0 where
  pub geometry : cache.geometry ≡ g
  pub slots : cache.slots ≡ replicate (n + 4) None

pub record AreEmpty (g : Geometry) (counts : List ℕ) (parts : List NodeCache) : Type 0 where
  pub each : length parts ≡ length counts
  pub part : (p : ℕ) (cache : NodeCache) → p < length counts
      → IsEmpty g (slice_index_or counts p 0) (slice_index_or parts p cache)

-- so it is for each part's number of leaves that have keys
abbrev pub ArePrepared : Geometry → List (List Numbered) → List NodeCache → Type 0
ArePrepared g pending parts =
    (p : ℕ) (cache : NodeCache) → p < length parts
    → IsEmpty g (length (numbers_in pending (length parts) p)) (slice_index_or parts p cache)

-- the leaf was put into the next slot of its part, of which so many are filled
pub record HasCome (g : Geometry) (range : LeafRange) (keys : List Numbered) (d : DiskFacts)
    (old new : NodeCache) (filled filled' : ℕ) : Type 0 where
  pub leaf : Leaf
  pub is : IsReloaded g range keys d leaf
  pub after : new ≡ used_with old filled (Some (coming range.number leaf (next_count old.uses)))
  pub more : filled' ≡ filled + 1

-- a leaf without keys isn't read
abbrev pub TakesLeaf : Geometry → LeafRange → List Numbered → DiskFacts → NodeCache → NodeCache → ℕ → ℕ → Type 0
TakesLeaf g range [] d old new filled filled' = (new ≡ old) × (filled' ≡ filled)
TakesLeaf g range (key ∷ keys) d old new filled filled' =
    HasCome g range (key ∷ keys) d old new filled filled'

-- how many calls were made then: one more where the leaf was read
abbrev pub calls_with : List Numbered → ℕ → ℕ
calls_with [] calls = calls
calls_with (key ∷ keys) calls = next_count calls
