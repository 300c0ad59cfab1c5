-- What a walk that met all nodes has found: a tree.
use Rattle.std.specs.Prelude.{◌≡◌, ℕ, ◌^◌, List, [], ◌∷◌, All, AllPairs, map}
use Rattle.bc_disk.specs.declared.geometry.Geometry.{Geometry}
use Rattle.bc_model.specs.Sector.{Image}
use Rattle.bc_image.specs.Pointers.{PointsInto}
use Rattle.bc_image.specs.Sound.{KeepsRange, IsNodeKey}
use Rattle.bc_image.specs.Tree.{Node, IsWalk, tree_keys}
use Rattle.bc_key.specs.declared.key.Key.{Key}
use Rattle.bc_walk.specs.declared.visit.Visit.{Visit}
use Rattle.bc_walk.specs.declared.visit.Visit.TheVariants as visits
use Rattle.bc_walk.specs.Walk.{Found}

-- each visit met a node
abbrev pub AreMet : List Visit → Type 0
AreMet [] = Unit {0}
AreMet (visits.Met level from key ∷ seen) = AreMet seen
AreMet (visits.Barred key ∷ seen) = ⊥
AreMet (visits.Again key ∷ seen) = ⊥

abbrev pub visit_of : Node → Visit
visit_of n = visits.Met n.level n.from n.key

-- no bucket has both nodes
abbrev pub AreApart : Geometry → Node → Node → Type 0
AreApart g m n = (bucket : ℕ) → PointsInto g m.key bucket → PointsInto g n.key bucket → ⊥

-- what was found are the nodes of the tree and its keys; each node keeps its range, has its key, and no other's bucket
pub record IsTree (g : Geometry) (image : Image) (level : ℕ) (root : Key) (found : Found) : Type 0 where
  pub nodes : List Node
  pub walk : IsWalk g image level 0 root nodes
  pub visits : found.visits ≡ map visit_of nodes
  pub keys : found.keys ≡ tree_keys nodes
  pub end : root.end ≡ 2 ^ 40
  pub ranges : All KeepsRange nodes
  pub node_keys : All (λ n. IsNodeKey g n.key) nodes
  pub apart : AllPairs (AreApart g) nodes
