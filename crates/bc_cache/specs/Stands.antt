-- What a leaf in memory stands for.
use Rattle.std.specs.Prelude.{◌≡◌, ℕ, List, [], ◌++◌}
use Rattle.bc_disk.specs.declared.geometry.Geometry.{Geometry}
use Rattle.bc_image.specs.Tree.{AreSetsAt, set_keys}
use Rattle.bc_key.specs.Key.{ptr_at}
use Rattle.bc_key.specs.declared.key.Key.{Key}
use Rattle.bc_model.specs.Sector.{Image}
use Rattle.bc_node.specs.Leaf.{Leaf, AreAdded, AreLast, AreLastOfAll, ArePut, IsLeafOf, IsSameNode}
use Rattle.bc_set.specs.declared.set.Set.{Set}

-- the leaf is what an image has where the key points to, of a range that begins at a sector, followed by what is pending
pub record IsNodeOf (g : Geometry) (image : Image) (key : Key) (from : ℕ) (leaf : Leaf) : Type 0 where
  pub sets : List Set
  pub found : AreSetsAt g image 0 key sets
  pub begins : leaf.from ≡ from
  pub ends : leaf.end ≡ key.end
  pub stands : leaf.ptr ≡ ptr_at key 0
  -- the keys that were added
  pub more : List Key
  pub last : AreLast (set_keys sets ++ more) leaf.keys
  pub added : AreLastOfAll more leaf.pending

-- so is one that was loaded
abbrev pub LoadedStands : Type 0
LoadedStands =
    (g : Geometry) (image : Image) (key : Key) (from : ℕ) (sets : List Set) (leaf : Leaf)
    → AreSetsAt g image 0 key sets → IsLeafOf g key from sets leaf → IsNodeOf g image key from leaf

-- and one to which keys were added
abbrev pub AddedStands : Type 0
AddedStands =
    (g : Geometry) (image : Image) (key : Key) (from : ℕ) (old new : Leaf) (keys : List Key)
    → IsNodeOf g image key from old → IsSameNode old new → ArePut keys old.keys new.keys
    → AreAdded keys old.pending new.pending → IsNodeOf g image key from new

-- where nothing is pending, the keys are those of the sets that a reader finds
abbrev pub NothingIsLost : Type 0
NothingIsLost =
    (g : Geometry) (image : Image) (key : Key) (from : ℕ) (leaf : Leaf) (sets : List Set)
    → IsNodeOf g image key from leaf → leaf.pending ≡ [] → AreSetsAt g image 0 key sets
    → AreLast (set_keys sets) leaf.keys
