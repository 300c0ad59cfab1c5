-- Inner nodes that are read from a device, from a key on down.
use Rattle.std.specs.Prelude.{◌≡◌, ◌≢◌, ◌⊎◌, ℕ, List, [], ◌∷◌}
use Rattle.bc_disk.specs.Disk.{DiskFacts, IfTold}
use Rattle.bc_disk.specs.declared.disk.Device.TheVariants as device
use Rattle.bc_disk.specs.declared.geometry.Geometry.{Geometry}
use Rattle.bc_image.specs.Sound.{IsNodeKey}
use Rattle.bc_inner.specs.Inner.{Inner}
use Rattle.bc_inner.specs.Loading.{IsHeldInner}
use Rattle.bc_key.specs.declared.key.Key.{Key}
use Rattle.bc_node.specs.declared.error.NodeError.{NodeError}
use Rattle.bc_node.specs.declared.error.NodeError.TheVariants as nodes
use Rattle.bc_replay.specs.declared.error.OpenError.{OpenError}
use Rattle.bc_replay.specs.declared.error.OpenError.TheVariants as errors
use Rattle.bc_walk.specs.Walk.{IsNodeFault}

-- why the inner node of a key wasn't read: no node's key is like this one, or the node has a fault
abbrev pub IsInnerCause : Geometry → ℕ → ℕ → Key → DiskFacts → OpenError → Type 0
IsInnerCause g level from key d (errors.Fault device.Cache) = Unit {0}
IsInnerCause g level from key d errors.Memory = Unit {0}
IsInnerCause g level from key d (errors.PointerRange word) = ¬ (IsNodeKey g key)
IsInnerCause g level from key d (errors.Node bucket why) =
    IfTold d.holds (λ image. IsNodeFault g image level from key why)
IsInnerCause g level from key d e = ⊥

-- the refusal of the node in a bucket as one of the pair
abbrev pub open_node : ℕ → NodeError → OpenError
open_node bucket nodes.Fault = errors.Fault device.Cache
open_node bucket nodes.Memory = errors.Memory
open_node bucket why = errors.Node bucket why

-- each key names the node of level 1 at its place, whose range begins where the one before ends
abbrev pub AreHeldBelow : Geometry → DiskFacts → ℕ → List Key → List Inner → Type 0
AreHeldBelow g d from [] [] = Unit {0}
AreHeldBelow g d from [] (node ∷ nodes) = ⊥
AreHeldBelow g d from (key ∷ keys) [] = ⊥
AreHeldBelow g d from (key ∷ keys) (node ∷ nodes) =
    IsHeldInner g key 1 from d node × AreHeldBelow g d key.end keys nodes

-- none where the leaves are the root's children, and else its children
abbrev pub AreUnder : Geometry → DiskFacts → Inner → List Inner → Type 0
AreUnder g d root nodes =
    ((root.level ≡ 1) × (nodes ≡ []))
    ⊎ ((root.level ≢ 1) × AreHeldBelow g d root.from root.children nodes)

-- one of the keys, and where its range begins
abbrev pub IsChildAt : ℕ → List Key → ℕ → Key → Type 0
IsChildAt from [] low key = ⊥
IsChildAt from (child ∷ children) low key =
    ((low ≡ from) × (key ≡ child)) ⊎ IsChildAt child.end children low key

-- why not all nodes of keys were read: memory ran out, or one wasn't
abbrev pub IsBelowCause : Geometry → ℕ → List Key → DiskFacts → OpenError → Type 0
IsBelowCause g from keys d e =
    (e ≡ errors.Memory)
    ⊎ ((low : ℕ) × (key : Key) × IsChildAt from keys low key × IsInnerCause g 1 low key d e)
