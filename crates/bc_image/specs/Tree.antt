-- The index of a cache device: a tree of nodes, of which each inner one has the keys of its children, and each leaf those of data. The
-- kernel's `btree.c` has it so.
use Rattle.std.specs.Prelude.{◌≡◌, ◌≢◌, ℕ, zero, suc, ◌+◌, List, [], ◌∷◌, ◌++◌, Some}
use Rattle.std.specs.List.{flat_map}
use Rattle.bc_disk.specs.declared.geometry.Geometry.{Geometry}
use Rattle.bc_model.specs.Sector.{Image}
use Rattle.bc_key.specs.declared.key.Key.{Key}
use Rattle.bc_key.specs.declared.ptr.Ptr.{Ptr}
use Rattle.bc_key.specs.Key.{pointer_of}
use Rattle.bc_key.specs.Words.{ptr_word}
use Rattle.bc_set.specs.declared.set.Set.{Set}
use Rattle.bc_set.specs.declared.set.SetKind.{SetKind}
use Rattle.bc_set.specs.declared.set.SetKind.TheVariants.{Extents, Children}
use Rattle.bc_set.specs.Records.{AreNodeSets}
use Rattle.bc_image.specs.Children.{children_of}

-- leaves have level 0
abbrev pub kind_at : ℕ → SetKind
kind_at zero = Extents
kind_at (suc level) = Children

-- the keys of sets, set after set
abbrev pub set_keys : List Set → List Key
set_keys sets = flat_map (λ s. s.keys) sets

-- the sets of the node of a level that a key points to, of which there is one at least
pub record AreSetsAt (g : Geometry) (image : Image) (level : ℕ) (key : Key) (sets : List Set) : Type 0 where
  pub ptr : Ptr
  pub points : pointer_of key ≡ Some ptr
  pub stand : AreNodeSets g (ptr_word ptr) (kind_at level) image (ptr.offset + g.node_sectors) ptr.offset sets
  pub some : sets ≢ []

-- a node that a walk meets: its level, the first sector of its range, the key that points to it and ends its range, and its sets
pub record Node : Type 0 where
  pub level : ℕ
  pub from : ℕ
  pub key : Key
  pub sets : List Set

abbrev pub node_of : ℕ → ℕ → Key → List Set → Node
node_of level from key sets = record { level = level; from = from; key = key; sets = sets }

-- walks from each child, each from the end of the one before on
abbrev pub AreWalks : (ℕ → Key → List Node → Type 0) → ℕ → List Key → List Node → Type 0
AreWalks walk from [] nodes = nodes ≡ []
AreWalks walk from (child ∷ children) nodes =
    (here rest : List Node) × walk from child here × AreWalks walk child.end children rest × (nodes ≡ here ++ rest)

-- the nodes that a walk meets from a key on, depth first: a node before its children, and these by their ends
abbrev pub IsWalk : Geometry → Image → ℕ → ℕ → Key → List Node → Type 0
IsWalk g image zero from key nodes = (sets : List Set) × AreSetsAt g image zero key sets × (nodes ≡ node_of zero from key sets ∷ [])
IsWalk g image (suc level) from key nodes =
    (sets : List Set) × (below : List Node) × AreSetsAt g image (suc level) key sets
    × AreWalks (IsWalk g image level) from (children_of (set_keys sets)) below × (nodes ≡ node_of (suc level) from key sets ∷ below)

-- the keys of data in a node
abbrev pub data_keys : ℕ → List Set → List Key
data_keys zero sets = set_keys sets
data_keys (suc level) sets = []

-- the keys of the tree: those of its leaves, leaf after leaf
abbrev pub tree_keys : List Node → List Key
tree_keys nodes = flat_map (λ n. data_keys n.level n.sets) nodes
