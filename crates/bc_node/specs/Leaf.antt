-- A leaf of the index: a node whose keys are those of data.
use Rattle.std.specs.Prelude.{◌≡◌, ℕ, ◌+◌, ◌<◌, ◌≤◌, List, [], ◌∷◌, ◌++◌, All, Bool, true, false, Option, Some, None}
use Rattle.bc_disk.specs.declared.geometry.Geometry.{Geometry}
use Rattle.bc_extent.specs.LastKey.{last_key}
use Rattle.bc_extent.specs.Extents.{IsInOrder, Shows}
use Rattle.bc_extent.specs.Calls.{live}
use Rattle.bc_image.specs.Sound.{KeepsRange, LiesWithin}
use Rattle.bc_image.specs.Tree.{node_of, set_keys}
use Rattle.bc_key.specs.Key.{ptr_at}
use Rattle.bc_key.specs.declared.key.Key.{Key}
use Rattle.bc_key.specs.declared.ptr.Ptr.{Ptr}
use Rattle.bc_node.specs.declared.pending.Entries.{Entries}
use Rattle.bc_node.specs.Sets.{HaveNumber, taken_by}
use Rattle.bc_node.specs.Writing.{set_of}
use Rattle.bc_set.specs.declared.set.Set.{Set}
use Rattle.bc_set.specs.Records.{set_sectors}

-- what a `Leaf` is seen as
pub record Leaf : Type 0 where
  -- its range goes from one sector up to another
  pub from : ℕ
  pub end : ℕ
  -- where it stands, and the number of its sets
  pub ptr : Ptr
  pub seq : ℕ
  -- how many sectors its sets take there, in whole blocks
  pub taken : ℕ
  -- its last keys
  pub keys : List Key
  -- how many more keys have room
  pub spare : ℕ
  -- the last ones of the keys that were added and are in no set yet
  pub pending : List Key
  -- the entries of the journal that hold the keys which were added since the last set
  pub entries : Option Entries
  -- whether it was read from a device, or a write of it failed, and it wasn't rewritten since
  pub loaded : Bool

-- keys in order that give each sector the last key of a list, where a key without pointers counts as none
pub record AreLast (list keys : List Key) : Type 0 where
  pub order : IsInOrder keys
  pub shown : Shows (live (last_key list)) keys

-- keys in order that give each sector the last key of a list, those without pointers included
pub record AreLastOfAll (list keys : List Key) : Type 0 where
  pub order : IsInOrder keys
  pub shown : Shows (last_key list) keys

-- more keys have come behind whichever list had the old keys as these
abbrev pub GoOn : (List Key → List Key → Type 0) → List Key → List Key → List Key → Type 0
GoOn Last more old new = (list : List Key) → Last list old → Last (list ++ more) new

abbrev pub ArePut : List Key → List Key → List Key → Type 0
ArePut more old new = GoOn AreLast more old new

abbrev pub AreAdded : List Key → List Key → List Key → Type 0
AreAdded more old new = GoOn AreLastOfAll more old new

-- with one entry more, which holds some keys
abbrev pub noted : Option Entries → ℕ → Entries
noted None entry = record { first = entry; last = entry }
noted (Some e) entry = record { first = e.first; last = entry }

-- with the entry that holds these keys, where there are any
abbrev pub noted_for : List Key → ℕ → Option Entries → Option Entries
noted_for [] entry entries = entries
noted_for (key ∷ keys) entry entries = Some (noted entries entry)

-- all but the keys stays
pub record IsSameNode (old new : Leaf) : Type 0 where
  pub from : new.from ≡ old.from
  pub end : new.end ≡ old.end
  pub ptr : new.ptr ≡ old.ptr
  pub seq : new.seq ≡ old.seq
  pub taken : new.taken ≡ old.taken
  pub loaded : new.loaded ≡ old.loaded

-- each of the keys lies in a range
abbrev pub AreWithin : ℕ → ℕ → List Key → Type 0
AreWithin from end keys = All (LiesWithin 0 from end) keys

-- keys in order, all of them in a range: so a set of them is one that the leaf of this range may have
pub record AreProperKeys (from end : ℕ) (keys : List Key) : Type 0 where
  pub order : IsInOrder keys
  pub within : AreWithin from end keys

-- what a leaf keeps: its last keys are those of some list of keys in its range, and so are the pending ones
pub record KeepsKeys (from end : ℕ) (keys pending : List Key) : Type 0 where
  pub list : List Key
  pub within : AreWithin from end list
  pub last : AreLast list keys
  pub more : List Key
  pub more_within : AreWithin from end more
  pub added : AreLastOfAll more pending

-- nothing was added that isn't in a set
pub record HasNothingPending (leaf : Leaf) : Type 0 where
  pub keys : leaf.pending ≡ []
  pub entries : leaf.entries ≡ None

-- ---- its sets

-- the set of what is pending, and that of its last keys alone
abbrev pub pending_set : Leaf → Set
pending_set leaf = set_of leaf.seq leaf.pending

abbrev pub whole_set : Leaf → Set
whole_set leaf = set_of leaf.seq leaf.keys

-- what is pending doesn't fit behind its sets
abbrev pub IsFull : Geometry → Leaf → Type 0
IsFull g leaf = g.node_sectors < leaf.taken + set_sectors g (pending_set leaf)

-- what was pending is in one more set
pub record IsAppended (g : Geometry) (old new : Leaf) : Type 0 where
  pub from : new.from ≡ old.from
  pub end : new.end ≡ old.end
  pub ptr : new.ptr ≡ old.ptr
  pub seq : new.seq ≡ old.seq
  pub loaded : new.loaded ≡ old.loaded
  pub keys : new.keys ≡ old.keys
  pub taken : new.taken ≡ old.taken + set_sectors g (pending_set old)
  pub pending : HasNothingPending new
  pub spare : old.spare ≤ new.spare

-- its last keys are in the first set of a node at another place
pub record IsRewritten (g : Geometry) (to : Ptr) (seq : ℕ) (old new : Leaf) : Type 0 where
  pub from : new.from ≡ old.from
  pub end : new.end ≡ old.end
  pub keys : new.keys ≡ old.keys
  pub ptr : new.ptr ≡ to
  pub number : new.seq ≡ seq
  pub taken : new.taken ≡ set_sectors g (set_of seq old.keys)
  pub pending : HasNothingPending new
  pub loaded : new.loaded ≡ false
  pub spare : old.spare ≤ new.spare

-- each key of the sets lies in the range of the leaf of this key, which begins at a sector
abbrev pub LieWithin : Key → ℕ → List Set → Type 0
LieWithin key from sets = KeepsRange (node_of 0 from key sets)

-- the leaf of this key, whose range begins at a sector, has these sets
pub record IsLeafOf (g : Geometry) (key : Key) (from : ℕ) (sets : List Set) (leaf : Leaf) : Type 0 where
  pub begins : leaf.from ≡ from
  pub ends : leaf.end ≡ key.end
  pub ptr : leaf.ptr ≡ ptr_at key 0
  pub seq : HaveNumber sets leaf.seq
  pub taken : leaf.taken ≡ taken_by g sets
  pub last : AreLast (set_keys sets) leaf.keys
  pub within : LieWithin key from sets
  pub pending : HasNothingPending leaf
  pub loaded : leaf.loaded ≡ true

-- a leaf of this key without sets and keys
pub record IsNewLeaf (key : Key) (from seq : ℕ) (leaf : Leaf) : Type 0 where
  pub begins : leaf.from ≡ from
  pub ends : leaf.end ≡ key.end
  pub ptr : leaf.ptr ≡ ptr_at key 0
  pub number : leaf.seq ≡ seq
  pub taken : leaf.taken ≡ 0
  pub keys : leaf.keys ≡ []
  pub pending : HasNothingPending leaf
  pub loaded : leaf.loaded ≡ false
