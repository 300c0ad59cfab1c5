-- A leaf in memory is a copy of what its device has, whatever was done to it.
use Rattle.std.specs.Prelude.{◌≡◌, ◌⊎◌, ℕ, ◌+◌, ◌*◌, ◌<◌, List, [], ◌∷◌, ◌++◌, false, Some, length}
use Rattle.bc_disk.specs.Disk.{Overwritten, Torn}
use Rattle.bc_disk.specs.declared.geometry.Geometry.{Geometry}
use Rattle.bc_image.specs.Tree.{AreSetsAt, set_keys}
use Rattle.bc_key.specs.Key.{pointer_of}
use Rattle.bc_key.specs.Words.{ptr_word}
use Rattle.bc_key.specs.declared.key.Key.{Key}
use Rattle.bc_key.specs.declared.ptr.Ptr.{Ptr}
use Rattle.bc_model.specs.Sector.{Image, values_of}
use Rattle.bc_node.specs.Leaf.{Leaf, AreAdded, AreLast, AreLastOfAll, ArePut, IsAppended, IsFull, IsLeafOf, IsNewLeaf, IsRewritten, IsSameNode, pending_set}
use Rattle.bc_node.specs.Sets.{HasSets, IsClear, NoneByChance}
use Rattle.bc_node.specs.Writing.{HasSet, put_values, set_of}
use Rattle.bc_record.specs.Sectors.{AgreeOn}
use Rattle.bc_set.specs.declared.set.Set.{Set}
use Rattle.bc_set.specs.declared.set.SetKind.TheVariants.{Extents}

-- what a device holds, a leaf in memory, and the key that names it in the node above
pub record Standing : Type 0 where
  pub image : Image
  pub key : Key
  pub leaf : Leaf

-- The leaf's sets stand where it does, if it has any. Behind them there are zeros, unless it was read.
abbrev pub AreItsSets : Geometry → Image → Leaf → List Set → Type 0
AreItsSets g image leaf [] = leaf.taken ≡ 0
AreItsSets g image leaf (s ∷ ss) =
    HasSets g (ptr_word leaf.ptr) Extents leaf.ptr.offset leaf.seq leaf.taken image (s ∷ ss)
    × (leaf.loaded ≡ false → IsClear g leaf.ptr.offset leaf.taken image)

-- the leaf, whose range begins at a sector, is what the device has where its key points to, followed by what was added since
pub record IsCopy (g : Geometry) (from : ℕ) (s : Standing) : Type 0 where
  pub begins : s.leaf.from ≡ from
  pub ends : s.leaf.end ≡ s.key.end
  pub points : pointer_of s.key ≡ Some s.leaf.ptr
  pub sets : List Set
  pub found : AreItsSets g s.image s.leaf sets
  pub more : List Key
  pub last : AreLast (set_keys sets ++ more) s.leaf.keys
  pub added : AreLastOfAll more s.leaf.pending

-- ---- what is done to it

-- it was read from the device, or made without keys
abbrev pub IsBegun : Geometry → ℕ → Standing → Type 0
IsBegun g from s =
    ((sets : List Set) × AreSetsAt g s.image 0 s.key sets × IsLeafOf g s.key from sets s.leaf)
    ⊎ ((0 < s.key.count) × IsNewLeaf s.key from s.leaf.seq s.leaf)

-- keys are added to it
pub record AreKeysAdded (old new : Standing) : Type 0 where
  pub image_is : new.image ≡ old.image
  pub key_is : new.key ≡ old.key
  pub keys : List Key
  pub node : IsSameNode old.leaf new.leaf
  pub put : ArePut keys old.leaf.keys new.leaf.keys
  pub added : AreAdded keys old.leaf.pending new.leaf.pending

-- the bytes of a whole node begin with the set of what is pending, and that is written behind its sets
pub record IsPendingWritten (g : Geometry) (leaf : Leaf) (bytes : List ℕ) (old new : Image) : Type 0 where
  pub whole : length bytes ≡ 512 * g.node_sectors
  pub set : HasSet g (ptr_word leaf.ptr) (pending_set leaf) bytes
  pub written : Overwritten (leaf.ptr.offset + leaf.taken) (put_values g leaf.taken (pending_set leaf) bytes) old new

-- what is pending is in one more set
pub record IsSetAppended (g : Geometry) (old new : Standing) : Type 0 where
  pub key_is : new.key ≡ old.key
  pub free : ¬ (IsFull g old.leaf)
  pub fresh : old.leaf.loaded ≡ false
  pub bytes : List ℕ
  pub written : IsPendingWritten g old.leaf bytes old.image new.image
  pub appended : IsAppended g old.leaf new.leaf

-- its last keys are the first set of a node at another place, which the new key names
pub record IsMovedTo (g : Geometry) (old new : Standing) : Type 0 where
  pub to : Ptr
  pub seq : ℕ
  pub points : pointer_of new.key ≡ Some to
  pub end : new.key.end ≡ old.key.end
  pub bytes : List ℕ
  pub whole : length bytes ≡ 512 * g.node_sectors
  pub set : HasSet g (ptr_word to) (set_of seq old.leaf.keys) bytes
  pub written : Overwritten to.offset (values_of bytes) old.image new.image
  pub rewritten : IsRewritten g to seq old.leaf new.leaf

-- other sectors of the device are written
pub record IsLeftAlone (g : Geometry) (old new : Standing) : Type 0 where
  pub key_is : new.key ≡ old.key
  pub leaf_is : new.leaf ≡ old.leaf
  pub same : AgreeOn old.image new.image old.leaf.ptr.offset (old.leaf.ptr.offset + g.node_sectors)

pub data IsStep (g : Geometry) (old new : Standing) : Type 0 where
  adds : AreKeysAdded old new → IsStep g old new
  appends : IsSetAppended g old new → IsStep g old new
  rewrites : IsMovedTo g old new → IsStep g old new
  leaves : IsLeftAlone g old new → IsStep g old new

-- one step after the other
abbrev pub AreSteps : Geometry → Standing → List Standing → Type 0
AreSteps g s [] = Unit {0}
AreSteps g s (next ∷ more) = IsStep g s next × AreSteps g next more

abbrev pub last_of : Standing → List Standing → Standing
last_of s [] = s
last_of s (next ∷ more) = last_of next more

-- ---- what holds of it

-- whatever was done to a leaf since it was read or made, it is a copy
abbrev pub StaysCopy : Type 0
StaysCopy =
    (g : Geometry) (from : ℕ) (begun : Standing) (steps : List Standing) → IsBegun g from begun
    → AreSteps g begun steps → IsCopy g from (last_of begun steps)

-- a copy has the last keys of the sets that a reader finds where its key points to, followed by what is pending
abbrev pub CopyIsRead : Type 0
CopyIsRead =
    (g : Geometry) (from : ℕ) (s : Standing) (sets : List Set) → IsCopy g from s → 0 < s.leaf.taken
    → AreSetsAt g s.image 0 s.key sets → AreLast (set_keys sets ++ s.leaf.pending) s.leaf.keys

-- one that has no set yet has those of what is pending
abbrev pub CopyIsPending : Type 0
CopyIsPending =
    (g : Geometry) (from : ℕ) (s : Standing) → IsCopy g from s → s.leaf.taken ≡ 0
    → AreLast s.leaf.pending s.leaf.keys

-- so has one that is read there and gets what is pending
abbrev pub ReadFollows : Type 0
ReadFollows =
    (g : Geometry) (from : ℕ) (s : Standing) (sets : List Set) (read again : Leaf)
    → IsLeafOf g s.key from sets read → ArePut s.leaf.pending read.keys again.keys
    → AreLast (set_keys sets ++ s.leaf.pending) again.keys

-- so it is where the write of a further set failed, and the reader finds that set or doesn't
abbrev pub TornIsRead : Type 0
TornIsRead =
    (g : Geometry) (from : ℕ) (s : Standing) (sets : List Set) (bytes : List ℕ) (image : Image)
    → (copy : IsCopy g from s) → 0 < s.leaf.taken
    → Torn (s.leaf.ptr.offset + s.leaf.taken) (put_values g s.leaf.taken (pending_set s.leaf) bytes) s.image image
    → NoneByChance g (ptr_word s.leaf.ptr) Extents s.leaf.ptr.offset copy.sets (pending_set s.leaf) image
    → AreSetsAt g image 0 s.key sets → AreLast (set_keys sets ++ s.leaf.pending) s.leaf.keys
