-- A leaf that is read from a device, with keys of the journal.
use Rattle.std.specs.Prelude.{◌≡◌, ◌≤◌, List, Some}
use Rattle.bc_disk.specs.Disk.{DiskFacts}
use Rattle.bc_disk.specs.declared.geometry.Geometry.{Geometry}
use Rattle.bc_key.specs.Key.{IsExtent, pointer_of, start_of}
use Rattle.bc_key.specs.declared.key.Key.{Key}
use Rattle.bc_node.specs.Leaf.{Leaf}
use Rattle.bc_node.specs.Loading.{IsHeldLeaf, IsNotLoaded}
use Rattle.bc_node.specs.declared.error.NodeError.{NodeError}
use Rattle.bc_pending.specs.declared.numbered.Numbered.{Numbered}
use Rattle.bc_spine.specs.declared.leaf.LeafRange.{LeafRange}
use Rattle.bc_reload.specs.Added.{HasAdded}

-- the key lies within the range
abbrev pub FitsRange : LeafRange → Numbered → Type 0
FitsRange range n = IsExtent n.key × (range.from ≤ start_of n.key) × (n.key.end ≤ range.end)

-- the key names the leaf of the range
pub record NamesLeaf (range : LeafRange) (key : Key) : Type 0 where
  pub ends : key.end ≡ range.end
  pub points : pointer_of key ≡ Some range.ptr

-- the leaf is the one that the device has for the range, and then these keys came
pub record IsReloaded (g : Geometry) (range : LeafRange) (more : List Numbered) (facts : DiskFacts) (leaf : Leaf) : Type 0 where
  pub key : Key
  pub names : NamesLeaf range key
  pub read : Leaf
  pub held : IsHeldLeaf g key range.from facts read
  pub added : HasAdded more read leaf

-- why it wasn't read: the leaf wasn't, or memory ran out after that
abbrev pub IsNotReloaded : Geometry → LeafRange → DiskFacts → DiskFacts → NodeError → Type 0
IsNotReloaded g range old new e = (key : Key) × NamesLeaf range key × IsNotLoaded g key range.from old new e
