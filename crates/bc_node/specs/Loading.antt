-- A node's sets, read from a device.
use Rattle.std.specs.Prelude.{◌≡◌, ◌⊎◌, ℕ, List, Result, Ok, Err}
use Rattle.bc_disk.specs.Disk.{DiskFacts, IfTold, IsCounted}
use Rattle.bc_disk.specs.declared.disk.Failed.{Failed}
use Rattle.bc_disk.specs.declared.geometry.Geometry.{Geometry}
use Rattle.bc_image.specs.Tree.{AreSetsAt}
use Rattle.bc_key.specs.Key.{ptr_at}
use Rattle.bc_key.specs.Words.{ptr_word}
use Rattle.bc_key.specs.declared.key.Key.{Key}
use Rattle.bc_model.specs.Sector.{Image, values_of}
use Rattle.bc_record.specs.Sectors.{Has, bytes_in}
use Rattle.bc_set.specs.declared.set.Set.{Set}
use Rattle.bc_set.specs.declared.set.SetKind.{SetKind}
use Rattle.bc_set.specs.declared.set.SetKind.TheVariants.{Extents}
use Rattle.bc_set.specs.SetBytes.{IsRefused}
use Rattle.bc_node.specs.declared.error.NodeError.{NodeError}
use Rattle.bc_node.specs.declared.error.NodeError.TheVariants.{First, Ranges, Fault, Memory}
use Rattle.bc_node.specs.Sets.{AreSetsFrom, AreSetsOf}
use Rattle.bc_node.specs.Leaf.{Leaf, IsLeafOf, LieWithin}

-- what a device, where it tells what it holds, has as the sets of the node that begins at a sector
abbrev pub AreHeldSets : Geometry → ℕ → SetKind → ℕ → DiskFacts → List Set → Type 0
AreHeldSets g word kind at facts sets = IfTold facts.holds (λ image. AreSetsFrom g word kind at image sets)

-- what a call answers that was good, and one that failed
abbrev pub good : Result (Unit {0}) Failed
good = Ok tt

abbrev pub failed : Result (Unit {0}) Failed
failed = Err (record {})

-- Why the sets weren't read. A fault is that of the one read; without memory there was none, or a good one.
abbrev pub IsUnread : Geometry → ℕ → SetKind → ℕ → DiskFacts → DiskFacts → NodeError → Type 0
IsUnread g word kind at old new (First cause) =
    IfTold old.holds (λ image. IsRefused word g.set_magic kind (bytes_in image at g.node_sectors) cause) × IsCounted good old new
IsUnread g word kind at old new Ranges = ⊥
IsUnread g word kind at old new Fault = IsCounted failed old new
IsUnread g word kind at old new Memory = ((new.calls ≡ old.calls) × (new.faults ≡ old.faults)) ⊎ IsCounted good old new

-- what a device, where it tells what it holds, has as the sets of the leaf that a key points to
abbrev pub AreLeafSets : Geometry → Key → DiskFacts → List Set → Type 0
AreLeafSets g key facts sets = IfTold facts.holds (λ image. AreSetsAt g image 0 key sets)

-- the leaf that a key points to, of a range that begins at a sector
abbrev pub IsHeldLeaf : Geometry → Key → ℕ → DiskFacts → Leaf → Type 0
IsHeldLeaf g key from facts leaf = (sets : List Set) × AreLeafSets g key facts sets × IsLeafOf g key from sets leaf

-- Why that leaf wasn't read: its sets weren't, or some key of theirs lies outside the range.
abbrev pub IsNotLoaded : Geometry → Key → ℕ → DiskFacts → DiskFacts → NodeError → Type 0
IsNotLoaded g key from old new Ranges = ((sets : List Set) × AreLeafSets g key old sets × ¬ (LieWithin key from sets)) × IsCounted good old new
IsNotLoaded g key from old new e = IsUnread g (ptr_word (ptr_at key 0)) Extents (ptr_at key 0).offset old new e

-- ---- by its bytes

-- These are the bytes of the leaf that a key points to, of a range that begins at a sector: wherever
-- an image has them there, its sets are those of the leaf.
pub record IsDecoded (g : Geometry) (key : Key) (from : ℕ) (bytes : List ℕ) (leaf : Leaf) :
    Type 0 where
  pub sets : List Set
  pub stand : (image : Image) → Has image (ptr_at key 0).offset (values_of bytes)
      → AreSetsAt g image 0 key sets
  pub leaf_of : IsLeafOf g key from sets leaf

-- why bytes aren't those of such a leaf
abbrev pub IsNotDecoded : Geometry → Key → ℕ → List ℕ → NodeError → Type 0
IsNotDecoded g key from bytes (First cause) =
    IsRefused (ptr_word (ptr_at key 0)) g.set_magic Extents bytes cause
IsNotDecoded g key from bytes Ranges = (sets : List Set)
    × AreSetsOf g (ptr_word (ptr_at key 0)) Extents bytes sets × ¬ (LieWithin key from sets)
IsNotDecoded g key from bytes Fault = ⊥
IsNotDecoded g key from bytes Memory = Unit {0}
