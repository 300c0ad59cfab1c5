-- The parts that hold the leaves of a pair, when it is opened.
use Rattle.std.specs.Prelude.{◌≡◌, ◌⊎◌, ℕ, ◌<◌, List, [], ◌∷◌, All, true, false, Option, Some, None, length, replicate, slice_get, slice_index_or}
use Rattle.bc_cache.specs.Slots.{NodeCache}
use Rattle.bc_cache.specs.declared.slots.Cached.{Cached}
use Rattle.bc_disk.specs.Disk.{DiskFacts, IfTold}
use Rattle.bc_disk.specs.declared.disk.Device.TheVariants as device
use Rattle.bc_disk.specs.declared.geometry.Geometry.{Geometry}
use Rattle.bc_image.specs.Sound.{IsNodeKey}
use Rattle.bc_key.specs.declared.key.Key.{Key}
use Rattle.bc_pending.specs.declared.numbered.Numbered.{Numbered}
use Rattle.bc_record.specs.Places.{bucket_at}
use Rattle.bc_reload.specs.Reload.{FitsRange, IsReloaded, NamesLeaf}
use Rattle.bc_replay.specs.declared.error.OpenError.{OpenError}
use Rattle.bc_replay.specs.declared.error.OpenError.TheVariants as errors
use Rattle.bc_spine.specs.declared.leaf.LeafRange.{LeafRange}
use Rattle.bc_walk.specs.Walk.{IsNodeFault}
use Rattle.bc_slots.specs.Places.{has_keys, numbers_in}

-- each leaf has a list of keys, which lie in its range
pub record AreOfLeaves (leaves : List LeafRange) (pending : List (List Numbered)) : Type 0 where
  pub each : length pending ≡ length leaves
  pub fit : (i : ℕ) (d : LeafRange) → i < length leaves
      → All (FitsRange (slice_index_or leaves i d)) (slice_index_or pending i [])

-- the leaf of a number, which nobody holds: as the device has it, and then its keys came
pub record IsOpened (g : Geometry) (leaves : List LeafRange) (pending : List (List Numbered))
    (d : DiskFacts) (number : ℕ) (cached : Cached) : Type 0 where
  pub number_is : cached.number ≡ number
  pub free : cached.held ≡ false
  pub range : LeafRange
  pub there : slice_get leaves number ≡ Some range
  pub leaf : IsReloaded g range (slice_index_or pending number []) d cached.leaf

-- the slots have the leaves of these numbers, one each and in this order, and then so many are empty
abbrev pub AreFilled : (ℕ → Cached → Type 0) → List ℕ → ℕ → List (Option Cached) → Type 0
AreFilled P [] rest slots = slots ≡ replicate rest None
AreFilled P (number ∷ numbers) rest [] = ⊥
AreFilled P (number ∷ numbers) rest (None ∷ slots) = ⊥
AreFilled P (number ∷ numbers) rest (Some cached ∷ slots) =
    P number cached × AreFilled P numbers rest slots

-- a part, of so many: its leaves of which the journal has keys, in their order, and four empty slots
pub record IsLeafPart (g : Geometry) (leaves : List LeafRange) (pending : List (List Numbered))
    (count : ℕ) (d : DiskFacts) (part : ℕ) (cache : NodeCache) : Type 0 where
  pub geometry : cache.geometry ≡ g
  pub slots : AreFilled (IsOpened g leaves pending d) (numbers_in pending count part) 4 cache.slots

-- so many parts
pub record AreParts (g : Geometry) (leaves : List LeafRange) (pending : List (List Numbered))
    (count : ℕ) (d : DiskFacts) (parts : List NodeCache) : Type 0 where
  pub each : length parts ≡ count
  pub part : (p : ℕ) (cache : NodeCache) → p < count
      → IsLeafPart g leaves pending count d p (slice_index_or parts p cache)

-- some key that names the leaf is one of a node
abbrev pub HasNodeKey : Geometry → LeafRange → Type 0
HasNodeKey g range = (key : Key) × NamesLeaf range key × IsNodeKey g key

-- why a leaf wasn't read: it stands where no node may, or has a fault, where the device tells it
abbrev pub IsLeafCause : Geometry → LeafRange → DiskFacts → OpenError → Type 0
IsLeafCause g range d (errors.Fault device.Cache) = Unit {0}
IsLeafCause g range d errors.Memory = Unit {0}
IsLeafCause g range d (errors.PointerRange word) = (word ≡ 0) × ¬ (HasNodeKey g range)
IsLeafCause g range d (errors.Node bucket why) =
    (bucket_at g range.ptr.offset ≡ bucket)
    × ((key : Key) × NamesLeaf range key
    × IfTold d.holds (λ image. IsNodeFault g image 0 range.from key why))
IsLeafCause g range d e = ⊥

-- this leaf, of which the journal has keys, wasn't read for this reason
pub record FailsAt (g : Geometry) (leaves : List LeafRange) (pending : List (List Numbered))
    (d : DiskFacts) (number : ℕ) (e : OpenError) : Type 0 where
  pub range : LeafRange
  pub there : slice_get leaves number ≡ Some range
  pub keys : has_keys (slice_index_or pending number []) ≡ true
  pub cause : IsLeafCause g range d e

-- why the parts aren't had: memory ran out, or some leaf wasn't read
abbrev pub IsPartsCause : Geometry → List LeafRange → List (List Numbered) → DiskFacts → OpenError → Type 0
IsPartsCause g leaves pending d e =
    (e ≡ errors.Memory) ⊎ ((number : ℕ) × FailsAt g leaves pending d number e)
