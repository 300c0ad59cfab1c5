-- Nodes, read from a device.
use Rattle.std.specs.Prelude.{◌≡◌, ℕ, ◌++◌, List, Result, Ok, Err}
use Rattle.bc_disk.specs.Device.{next_count}
use Rattle.bc_disk.specs.Disk.{DiskFacts, IfTold}
use Rattle.bc_disk.specs.declared.geometry.Geometry.{Geometry}
use Rattle.bc_image.specs.Children.{children_of}
use Rattle.bc_image.specs.Tree.{set_keys}
use Rattle.bc_key.specs.declared.key.Key.{Key}
use Rattle.bc_node.specs.declared.error.NodeError.{NodeError}
use Rattle.bc_node.specs.declared.error.NodeError.TheVariants as nodes
use Rattle.bc_set.specs.declared.set.Set.{Set}
use Rattle.bc_walk.specs.declared.error.WalkError.{WalkError}
use Rattle.bc_walk.specs.declared.error.WalkError.TheVariants as errors
use Rattle.bc_walk.specs.Walk.{IsNodeFault, IsWhole}

-- the fault of the node in a bucket for that of its walk
abbrev pub error_of : ℕ → NodeError → WalkError
error_of bucket nodes.Fault = errors.Fault
error_of bucket nodes.Memory = errors.Memory
error_of bucket why = errors.Node bucket why

-- why the node of a key in a bucket wasn't read, where the device tells what it holds
abbrev pub IsUnread : DiskFacts → Geometry → ℕ → ℕ → Key → ℕ → WalkError → Type 0
IsUnread d g level from key bucket (errors.Node at why) = IfTold d.holds (λ image. (at ≡ bucket) × IsNodeFault g image level from key why)
IsUnread d g level from key bucket errors.Fault = Unit {0}
IsUnread d g level from key bucket errors.Memory = Unit {0}

-- the count of faults rises by one where the device failed, and else it stays
abbrev pub RisesWith : {T : Type 0} → Result T WalkError → ℕ → ℕ → Type 0
RisesWith (Ok t) old new = new ≡ old
RisesWith (Err errors.Fault) old new = new ≡ next_count old
RisesWith (Err e) old new = new ≡ old

-- these are the children of the inner node of a key
abbrev pub AreChildren : DiskFacts → Geometry → ℕ → ℕ → Key → List Key → Type 0
AreChildren d g level from key children =
    IfTold d.holds (λ image. (sets : List Set) × IsWhole g image level from key sets × (children ≡ children_of (set_keys sets)))

-- the keys of the leaf of a key were taken
abbrev pub TakesLeaf : DiskFacts → Geometry → ℕ → Key → (List Key → Type 0) → (List Key → Type 0) → Type 0
TakesLeaf d g from key took takes =
    IfTold d.holds (λ image. (sets : List Set) × IsWhole g image 0 from key sets × ((keys : List Key) → took keys → takes (keys ++ set_keys sets)))
