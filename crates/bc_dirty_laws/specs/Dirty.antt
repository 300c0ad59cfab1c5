-- Sectors whose data is in the cache alone, and what tells it.
use Rattle.std.specs.Prelude.{◌≡◌, ℕ, ◌<◌, ◌≤◌, Bool, true, false, Any, None, Some, slice_get}
use Rattle.bc_books.specs.Index.{Dirty, Pointer, latest}
use Rattle.bc_bucket.specs.declared.bucket.Mark.TheVariants as marks
use Rattle.bc_bucket.specs.Buckets.{Buckets}
use Rattle.bc_cache.specs.Slots.{NodeCache}
use Rattle.bc_cache.specs.declared.slots.Cached.{Cached}
use Rattle.bc_disk.specs.declared.disk.Device.{Device}
use Rattle.bc_events.specs.Run.{State}
use Rattle.bc_events.specs.declared.event.Deed.{Deed}
use Rattle.bc_events.specs.declared.event.Deed.TheVariants as deed
use Rattle.bc_events.specs.declared.event.Event.{Event}
use Rattle.bc_events.specs.declared.event.Failure.{Failure}
use Rattle.bc_events.specs.declared.event.Failure.TheVariants as failure
use Rattle.bc_leaves.specs.Keys.{last_said, ref_said}
use Rattle.bc_looks.specs.bc_machine.World.{AreBuckets, AreLeaves, FromEach, IsSpine, Origin, World, after}
use Rattle.bc_looks.specs.bc_machine.declared.part.BucketsPart.{BucketsPart}
use Rattle.bc_meta.specs.Keys.{Ref}
use Rattle.bc_node.specs.Leaf.{Leaf}
use Rattle.bc_shares.specs.Shares.{books_of}
use Rattle.bc_tree.specs.Spine.{Spine}

-- ---- the index

-- the sector's last key is dirty
pub record IsDirtyAt (st : State) (s : ℕ) : Type 0 where
  pub pointer : Pointer
  pub is : latest (books_of st.machine).index s ≡ Some pointer
  pub dirty : pointer.kind ≡ Dirty

-- so it is of some sector
abbrev pub IsSomeDirty : Origin → State → Type 0
IsSomeDirty o st = (s : ℕ) × IsDirtyAt st s

-- of none below this one
abbrev pub AreCleanBelow : ℕ → Origin → State → Type 0
AreCleanBelow end o st = (s : ℕ) → s < end → ¬ (IsDirtyAt st s)

-- of none from this one on
abbrev pub AreCleanFrom : ℕ → Origin → State → Type 0
AreCleanFrom first o st = (s : ℕ) → first ≤ s → ¬ (IsDirtyAt st s)

-- of none at all
abbrev pub IsNoneDirty : Origin → State → Type 0
IsNoneDirty o st = (s : ℕ) → ¬ (IsDirtyAt st s)

-- ---- a leaf in memory

-- the leaf has the sector, and its last key of that is dirty
pub record SaysDirty (leaf : Leaf) (s : ℕ) : Type 0 where
  pub from : leaf.from ≤ s
  pub end : s < leaf.end
  pub ref : Ref
  pub is : ref_said (last_said leaf.keys s) ≡ Some ref
  pub dirty : ref.dirty ≡ true

-- what a leaf says, the index has, and the other way
pub record TellsDirty (leaf : Leaf) (st : State) : Type 0 where
  pub dirty : (s : ℕ) → SaysDirty leaf s → IsDirtyAt st s
  pub all : (s : ℕ) → leaf.from ≤ s → s < leaf.end → IsDirtyAt st s → SaysDirty leaf s

abbrev pub LawLeaf : Type 0
LawLeaf = (x : World) (part : ℕ) (cache : NodeCache) (slot : ℕ) (cached : Cached)
    → AreLeaves part cache x → slice_get cache.slots slot ≡ Some (Some cached)
    → FromEach x (λ o st. TellsDirty cached.leaf st)

-- ---- the buckets in memory

-- one of the buckets is marked as one with dirty data
abbrev pub HasDirtyMark : Buckets → Type 0
HasDirtyMark buckets = Any (λ b. b.mark ≡ marks.Dirty) buckets.records

abbrev pub LawMarked : Type 0
LawMarked = (x : World) (p : BucketsPart) → AreBuckets p x → ¬ (HasDirtyMark p.buckets)
    → FromEach x IsNoneDirty

-- ---- where the tree ends, and the device

abbrev pub LawBeyond : Type 0
LawBeyond = (x : World) (sp : Spine) → IsSpine sp x → FromEach x (AreCleanFrom sp.root.end)

abbrev pub LawInside : Type 0
LawInside = (x : World) → FromEach x (AreCleanFrom x.opening.machine.flow.books.size)

-- ---- what leaves the keys as they are

-- a read or a barrier that failed
abbrev pub is_no_write : Failure → Bool
is_no_write (failure.Read device) = true
is_no_write (failure.Barrier device) = true
is_no_write x = false

-- a read of a node, a barrier of the backing device, or such a call that failed
abbrev pub leaves_keys : Deed → Bool
leaves_keys (deed.CacheRead at None values) = true
leaves_keys deed.BackingBarrier = true
leaves_keys (deed.DeviceFault x) = is_no_write x
leaves_keys d = false

-- From each opening the same sectors have dirty keys behind it.
pub record StaysDirty (x y : World) : Type 0 where
  pub some : FromEach x IsSomeDirty → FromEach y IsSomeDirty
  pub below : (n : ℕ) → FromEach x (AreCleanBelow n) → FromEach y (AreCleanBelow n)
  pub none : FromEach x IsNoneDirty → FromEach y IsNoneDirty

abbrev pub LawStays : Type 0
LawStays = (x : World) (e : Event) → leaves_keys e.deed ≡ true → StaysDirty x (after x e)
