-- The inner nodes of the index, and its leaves.
use Rattle.std.specs.Prelude.{◌≡◌, ℕ, ◌+◌, ◌*◌, ◌%◌, ◌<◌, ◌≤◌, List, [], ◌∷◌, ◌++◌, length, take, slice_get, Some, All, Contains}
use Rattle.bc_disk.specs.declared.geometry.Geometry.{Geometry}
use Rattle.bc_inner.specs.Inner.{CoverRange, Inner, children_set}
use Rattle.bc_key.specs.Key.{ptr_at}
use Rattle.bc_key.specs.declared.key.Key.{Key}
use Rattle.bc_model.specs.Pieces.{piece_sectors}
use Rattle.bc_set.specs.SetBytes.{bytes_of}
use Rattle.bc_spine.specs.Leaves.{AreCounted, Leaves, Spans}
use Rattle.bc_spine.specs.declared.leaf.LeafRange.{LeafRange}
use Rattle.bc_tree.specs.Children.{HasPointer}
use Rattle.bc_tree.specs.declared.place.LeafPlace.{LeafPlace}

-- what a `Spine` is seen as
pub record Spine : Type 0 where
  pub geometry : Geometry
  pub root : Inner
  -- the nodes between the root and the leaves, in the order of their ranges; none where the leaves
  -- are the root's children
  pub below : List Inner
  -- in the order of their ranges
  pub leaves : List LeafRange
  -- how many more leaves have room
  pub spare : ℕ
  -- how many more nodes have room below the root
  pub room : ℕ

-- the ends rise from a sector on, by multiples of 256
abbrev pub Rise : ℕ → List Key → Type 0
Rise from [] = Unit {0}
Rise from (key ∷ keys) = (from < key.end) × (key.end % piece_sectors ≡ 0) × Rise key.end keys

-- the last of these ends; a sector where there is none
abbrev pub last_end : ℕ → List Key → ℕ
last_end from [] = from
last_end from (key ∷ keys) = last_end key.end keys

-- the nodes whose children are leaves
abbrev pub bottom : Inner → List Inner → List Inner
bottom root [] = root ∷ []
bottom root (node ∷ nodes) = node ∷ nodes

-- their children
abbrev pub children_in : List Inner → List Key
children_in [] = []
children_in (node ∷ nodes) = node.children ++ children_in nodes

-- the node may stand in a tree: its children can be found, and fit in one set
pub record IsProper (g : Geometry) (node : Inner) : Type 0 where
  pub live : All HasPointer node.children
  pub fits : bytes_of (children_set node) ≤ 512 * g.node_sectors

-- its children cover its range
abbrev pub Covers : Inner → Type 0
Covers node = CoverRange node.from node.end node.children

-- the keys name nodes of level 1, of which the first begins at a sector, and each other one where
-- the one before ends
abbrev pub NameNodes : ℕ → List Key → List Inner → Type 0
NameNodes from [] [] = Unit {0}
NameNodes from [] (node ∷ nodes) = ⊥
NameNodes from (key ∷ keys) [] = ⊥
NameNodes from (key ∷ keys) (node ∷ nodes) =
    (node.level ≡ 1) × (node.from ≡ from) × (node.end ≡ key.end) × (node.ptr ≡ ptr_at key 0)
    × NameNodes key.end keys nodes

-- the root has leaves below it, or these nodes, below which are leaves
abbrev pub IsRootOf : Inner → List Inner → Type 0
IsRootOf root [] = root.level ≡ 1
IsRootOf root (node ∷ nodes) =
    (root.level ≡ 2) × NameNodes root.from root.children (node ∷ nodes)

-- the inner nodes of a tree
pub record AreInner (g : Geometry) (root : Inner) (below : List Inner) : Type 0 where
  pub begins : root.from ≡ 0
  pub root_of : IsRootOf root below
  pub root_is_proper : IsProper g root
  pub proper : All (IsProper g) below

-- each key names the leaf at its place: it ends where the leaf does, and the leaf stands there
abbrev pub NameLeaves : List Key → List LeafRange → Type 0
NameLeaves [] [] = Unit {0}
NameLeaves [] (leaf ∷ leaves) = ⊥
NameLeaves (key ∷ keys) [] = ⊥
NameLeaves (key ∷ keys) (leaf ∷ leaves) =
    (leaf.end ≡ key.end) × (leaf.ptr ≡ ptr_at key 0) × NameLeaves keys leaves

-- the inner nodes of a tree and its leaves: these are the children of the nodes above them
pub record IsSpine (g : Geometry) (root : Inner) (below : List Inner) (leaves
    : List LeafRange) : Type 0 where
  pub inner : AreInner g root below
  pub names : NameLeaves (children_in (bottom root below)) leaves
  pub cover : Covers root × All Covers below

-- a tree with these inner nodes, whose leaves have the numbers from 0 on
pub record IsNewSpine (g : Geometry) (root : Inner) (below : List Inner) (spine
    : Spine) : Type 0 where
  pub geometry : spine.geometry ≡ g
  pub root_is : spine.root ≡ root
  pub below_are : spine.below ≡ below
  pub counted : AreCounted 0 spine.leaves

-- the node has the leaf of the sector as a child
pub record IsParentAt (spine : Spine) (sector : ℕ) (node : Inner) : Type 0 where
  pub held : Contains (bottom spine.root spine.below) node
  pub from : node.from ≤ sector
  pub end : sector < node.end

-- where the leaf of a sector stands among the leaves, and its key among the children of its parent
pub record IsPlaceAt (spine : Spine) (sector : ℕ) (place : LeafPlace) : Type 0 where
  pub parent : Inner
  pub node : slice_get (bottom spine.root spine.below) place.node ≡ Some parent
  pub from : parent.from ≤ sector
  pub end : sector < parent.end
  pub key : Key
  pub child : slice_get parent.children place.child ≡ Some key
  pub there : slice_get spine.leaves place.leaf ≡ Some place.range
  pub spans : Spans place.range sector
  pub ends : place.range.end ≡ key.end
  pub stands : place.range.ptr ≡ ptr_at key 0
  -- it begins where the child before it ends
  pub begins : place.range.from ≡ last_end parent.from (take place.child parent.children)
  pub multiples : (place.range.from % piece_sectors ≡ 0) × (place.range.end % piece_sectors ≡ 0)
  -- before it are the children of the nodes before its parent, and those before its key
  pub before : place.leaf
      ≡ length (children_in (take place.node (bottom spine.root spine.below))) + place.child

-- ---- while the leaves are counted

-- the first node begins at a sector, and each other one where the one before ends
abbrev pub AreInRow : ℕ → List Inner → Type 0
AreInRow from [] = Unit {0}
AreInRow from (node ∷ nodes) = (node.from ≡ from) × AreInRow node.end nodes

abbrev pub row_end : ℕ → List Inner → ℕ
row_end from [] = from
row_end from (node ∷ nodes) = row_end node.end nodes

-- leaves have come behind the others, as these keys name them
pub record HaveCome (keys : List Key) (old new : Leaves) : Type 0 where
  pub names : (before : List Key) → NameLeaves before old.leaves
      → NameLeaves (before ++ keys) new.leaves
  pub counted : AreCounted 0 new.leaves

-- the leaves below these nodes, by numbers from 0 on
pub record AreLeavesOf (root : Inner) (below : List Inner) (leaves : Leaves) : Type 0 where
  pub names : NameLeaves (children_in (bottom root below)) leaves.leaves
  pub counted : AreCounted 0 leaves.leaves
  pub end : leaves.end ≡ root.end
  pub cover : Covers root × All Covers below
