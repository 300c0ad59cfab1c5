-- An inner node of the index, as it is kept in memory: the keys of its children.
use Rattle.std.specs.Prelude.{◌≡◌, ℕ, ◌+◌, ◌%◌, ◌<◌, ◌≤◌, Bool, true, false, List, All, AllPairs, Any}
use Rattle.bc_disk.specs.declared.geometry.Geometry.{Geometry}
use Rattle.bc_image.specs.Children.{children_of}
use Rattle.bc_image.specs.Sound.{KeepsRange}
use Rattle.bc_image.specs.Tree.{node_of, set_keys}
use Rattle.bc_key.specs.Key.{ptr_at}
use Rattle.bc_key.specs.declared.key.Key.{Key}
use Rattle.bc_key.specs.declared.ptr.Ptr.{Ptr}
use Rattle.bc_model.specs.Pieces.{piece_sectors}
use Rattle.bc_node.specs.Sets.{HaveNumber, taken_by}
use Rattle.bc_node.specs.Writing.{set_of}
use Rattle.bc_set.specs.declared.set.Set.{Set}
use Rattle.bc_set.specs.Records.{set_sectors}

-- what an `Inner` is seen as
pub record Inner : Type 0 where
  -- 1 above leaves, and 2 above these nodes
  pub level : ℕ
  -- its range goes from one sector up to another
  pub from : ℕ
  pub end : ℕ
  -- where it stands, and the number of its sets
  pub ptr : Ptr
  pub seq : ℕ
  -- how many sectors its sets take there, in whole blocks
  pub taken : ℕ
  -- by their ends; the range of each begins where the one before ends
  pub children : List Key
  -- how many more children have room
  pub spare : ℕ
  -- whether it was read from a device
  pub loaded : Bool

-- children cover a range in order, each up to a multiple of 256 sectors
pub record CoverRange (from end : ℕ) (children : List Key) : Type 0 where
  pub order : AllPairs (λ a b. a.end < b.end) children
  pub within : All (λ c. (from < c.end) × (c.end ≤ end)) children
  pub multiples : All (λ c. c.end % piece_sectors ≡ 0) children
  pub reach : Any (λ c. c.end ≡ end) children

-- the set of its children alone
abbrev pub children_set : Inner → Set
children_set inner = set_of inner.seq inner.children

-- the set fits behind its others
abbrev pub FitsBehind : Geometry → Inner → Set → Type 0
FitsBehind g inner s = inner.taken + set_sectors g s ≤ g.node_sectors

-- nothing has changed but how many sectors its sets take
pub record HasTaken (taken : ℕ) (old new : Inner) : Type 0 where
  pub level : new.level ≡ old.level
  pub from : new.from ≡ old.from
  pub end : new.end ≡ old.end
  pub ptr : new.ptr ≡ old.ptr
  pub seq : new.seq ≡ old.seq
  pub taken_is : new.taken ≡ taken
  pub children : new.children ≡ old.children
  pub spare : new.spare ≡ old.spare
  pub loaded : new.loaded ≡ old.loaded

-- nothing has changed but its children and its room
pub record IsSameNode (old new : Inner) : Type 0 where
  pub level : new.level ≡ old.level
  pub from : new.from ≡ old.from
  pub end : new.end ≡ old.end
  pub ptr : new.ptr ≡ old.ptr
  pub seq : new.seq ≡ old.seq
  pub taken : new.taken ≡ old.taken
  pub loaded : new.loaded ≡ old.loaded

-- the inner node of this key and level, whose range begins at a sector, has these sets
pub record IsInnerOf (g : Geometry) (key : Key) (level from : ℕ) (sets : List Set) (inner : Inner) : Type 0 where
  pub level_is : inner.level ≡ level
  pub begins : inner.from ≡ from
  pub ends : inner.end ≡ key.end
  pub ptr : inner.ptr ≡ ptr_at key 0
  pub seq : HaveNumber sets inner.seq
  pub taken : inner.taken ≡ taken_by g sets
  pub short : inner.taken ≤ g.node_sectors
  pub children : inner.children ≡ children_of (set_keys sets)
  pub within : KeepsRange (node_of level from key sets)
  pub loaded : inner.loaded ≡ true

-- an inner node of this key with these children, and without sets
pub record IsNewInner (key : Key) (level from seq : ℕ) (children : List Key) (inner : Inner) : Type 0 where
  pub level_is : inner.level ≡ level
  pub begins : inner.from ≡ from
  pub ends : inner.end ≡ key.end
  pub ptr : inner.ptr ≡ ptr_at key 0
  pub number : inner.seq ≡ seq
  pub taken : inner.taken ≡ 0
  pub children_are : inner.children ≡ children
  pub loaded : inner.loaded ≡ false
