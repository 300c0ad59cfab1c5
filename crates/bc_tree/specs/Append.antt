-- A further set of an inner node of the tree.
use Rattle.std.specs.Prelude.{◌≡◌, ℕ, ◌+◌, ◌≤◌, true, List, Some, Result, Ok, Err, OnErr, OnOk, slice_get, slice_set}
use Rattle.bc_disk.specs.Disk.{DiskFacts, IsCounted, IsFailedWrite, IsWritten}
use Rattle.bc_disk.specs.declared.disk.Failed.{Failed}
use Rattle.bc_disk.specs.declared.geometry.Geometry.{Geometry}
use Rattle.bc_inner.specs.Inner.{HasTaken, Inner}
use Rattle.bc_key.specs.Words.{ptr_word}
use Rattle.bc_key.specs.declared.key.Key.{Key}
use Rattle.bc_node.specs.Writing.{HasSet, put_values, set_of}
use Rattle.bc_set.specs.Records.{set_sectors}
use Rattle.bc_tree.specs.Needs.{has_room, words}
use Rattle.bc_tree.specs.Spine.{Spine}

-- a further set of these keys has room in the node, whose place is within the device
pub record CanAppend (g : Geometry) (sectors : ℕ) (node : Inner) (keys : List Key) : Type 0 where
  pub room : has_room g node (words keys) ≡ true
  pub within : node.ptr.offset + g.node_sectors ≤ sectors

-- what a write of it does
pub record IsSetWrite (g : Geometry) (node : Inner) (keys : List Key) (bytes : List ℕ)
    (old new : DiskFacts) (result : Result (Unit {0}) Failed) : Type 0 where
  pub has : HasSet g (ptr_word node.ptr) (set_of node.seq keys) bytes
  pub ok : OnOk result
      (IsWritten (node.ptr.offset + node.taken)
      (put_values g node.taken (set_of node.seq keys) bytes) old new)
  pub failed : OnErr result
      (IsFailedWrite (node.ptr.offset + node.taken)
      (put_values g node.taken (set_of node.seq keys) bytes) old new)
  pub counted : IsCounted result old new

-- the node has one set more, where it was written
abbrev pub HasMoreIf : {E : Type 0} → Result (Unit {0}) E → Geometry → List Key → Inner → Inner
    → Type 0
HasMoreIf (Ok _) g keys old new = HasTaken (old.taken + set_sectors g (set_of old.seq keys)) old new
HasMoreIf (Err _) g keys old new = new ≡ old

-- a node of the tree has one set more, where it was written, and nothing else has changed: the
-- root, or the one at a place below it
pub record HasRootMore {E : Type 0} (result : Result (Unit {0}) E) (keys : List Key)
    (old new : Spine) : Type 0 where
  pub only : new ≡ record old { root = new.root }
  pub more : HasMoreIf result old.geometry keys old.root new.root

pub record HasBelowMore {E : Type 0} (result : Result (Unit {0}) E) (place : ℕ) (keys : List Key)
    (old new : Spine) : Type 0 where
  pub node : Inner
  pub next : Inner
  pub there : slice_get old.below place ≡ Some node
  pub only : new ≡ record old { below = slice_set old.below place next }
  pub more : HasMoreIf result old.geometry keys node next
