-- The tree of a pair that was read.
use Rattle.std.specs.Prelude.{◌≡◌, List, ◌∷◌}
use Rattle.bc_disk.specs.Disk.{DiskFacts, IfTold}
use Rattle.bc_disk.specs.declared.disk.Device.TheVariants as device
use Rattle.bc_disk.specs.declared.geometry.Geometry.{Geometry}
use Rattle.bc_image.specs.Pair.{Pair}
use Rattle.bc_image.specs.Tree.{Node}
use Rattle.bc_recover.specs.Read.{IsReadOf}
use Rattle.bc_replay.specs.declared.error.OpenError.{OpenError}
use Rattle.bc_replay.specs.declared.error.OpenError.TheVariants as errors
use Rattle.bc_replay.specs.declared.held.Survey.{Survey}
use Rattle.bc_spine.specs.Leaves.{AreCounted}
use Rattle.bc_tree.specs.Spine.{Spine}
use Rattle.bc_regrow.specs.Parts.{AreOfNodes, AreRangesOf, inner_nodes, leaf_nodes}

-- this holds of each pair that was read whose cache device this is, where it tells what it holds
abbrev pub OfRead : (s : Survey) → DiskFacts → ((p : Pair) → IsReadOf s p → Type 0) → Type 0
OfRead s d P = IfTold d.holds (λ image. (p : Pair) → (h : IsReadOf s p) → p.cache ≡ image → P p h)

-- The inner nodes are those of these nodes, in their order, and the leaves have the ranges of theirs,
-- in their order, and the numbers from 0 on.
pub record IsTreeOf (g : Geometry) (nodes : List Node) (tree : Spine) : Type 0 where
  pub geometry : tree.geometry ≡ g
  pub inner : AreOfNodes g (inner_nodes nodes) (tree.root ∷ tree.below)
  pub leaves : AreRangesOf (leaf_nodes nodes) tree.leaves
  pub counted : AreCounted 0 tree.leaves

-- why the tree isn't had: a fault, or want of memory, and nothing else where a pair is held that was
-- read
abbrev pub IsTreeCause : Survey → DiskFacts → OpenError → Type 0
IsTreeCause s d (errors.Fault device.Cache) = Unit {0}
IsTreeCause s d errors.Memory = Unit {0}
IsTreeCause s d e = OfRead s d (λ p h. ⊥)
