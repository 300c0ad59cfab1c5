-- What a seat learns of dirty keys, and what it did for that.
use Rattle.std.specs.Prelude.{◌≡◌, ◌≢◌, ◌⊎◌, ℕ, ◌<◌, ◌≤◌, Bool, List, [], ◌∷◌, Option, Some, slice_get}
use Rattle.std.specs.Bool.{MatchBool}
use Rattle.bc_cache.specs.declared.slots.Cached.{Cached}
use Rattle.bc_dirty_laws.specs.Dirty.{AreCleanBelow, HasDirtyMark, IsDirtyAt, IsNoneDirty, IsSomeDirty, SaysDirty}
use Rattle.bc_disk.specs.Disk.{DiskFacts}
use Rattle.bc_events.specs.declared.event.Deed.{Deed}
use Rattle.bc_fetch.specs.Fetch.{HasStoppedAt, node_read}
use Rattle.bc_fetch.specs.bc_deed.Flushed.{HasDone}
use Rattle.bc_fetch.specs.bc_hand.Seats.{View, world}
use Rattle.bc_fetch.specs.bc_machine.World.{AreBuckets, FromEach, World}
use Rattle.bc_fetch.specs.bc_machine.declared.part.BucketsPart.{BucketsPart}
use Rattle.bc_fetch.specs.declared.error.LeafError.{LeafError}
use Rattle.bc_fetch.specs.declared.error.LeafError.TheVariants as errors
use Rattle.bc_node.specs.Leaf.{Leaf}
use Rattle.bc_dirty.specs.declared.leaf.SeenLeaf.{SeenLeaf}

-- ---- what is learnt

-- the buckets that the run has in memory, of which one is marked
abbrev pub HasMarked : World → Type 0
HasMarked x = (p : BucketsPart) × AreBuckets p x × HasDirtyMark p.buckets

-- the last key of one of the leaf's sectors is dirty
abbrev pub HasDirtySector : Leaf → Type 0
HasDirtySector leaf = (s : ℕ) × SaysDirty leaf s

-- the slot has a leaf of this number, of which that was seen
pub record IsSeenIn (slots : List (Option Cached)) (slot number : ℕ) (seen : SeenLeaf) : Type 0
  where
    pub cached : Cached
    pub there : slice_get slots slot ≡ Some (Some cached)
    pub number_is : cached.number ≡ number
    pub end : seen.end ≡ cached.leaf.end
    pub dirty : MatchBool seen.dirty (HasDirtySector cached.leaf) (¬ (HasDirtySector cached.leaf))

-- From each opening some sector has a dirty last key, or none of these has, up to the leaf's end.
abbrev pub TellsFrom : ℕ → SeenLeaf → World → Type 0
TellsFrom first seen x = MatchBool seen.dirty (FromEach x (λ o st. IsSomeDirty o st))
    (FromEach x (λ o st. (s : ℕ) → first ≤ s → s < seen.end → ¬ (IsDirtyAt st s)))

-- From each opening some sector has a dirty last key, or none has.
abbrev pub TellsDirt : Bool → World → Type 0
TellsDirt dirty x = MatchBool dirty (FromEach x IsSomeDirty) (FromEach x IsNoneDirty)

-- ---- what was done

-- each of them is a read of a node
abbrev pub AreNodeReads : List Deed → Type 0
AreNodeReads [] = Unit {0}
AreNodeReads (d ∷ ds) = ((at : ℕ) × (d ≡ node_read at)) × AreNodeReads ds

module _ {C B : Type 0} (cache_facts : C → DiskFacts) (backing_facts : B → DiskFacts) where
  -- The seat has all numbers of its run, so that nothing else goes on.
  pub record IsAlone (v : View cache_facts backing_facts) : Type 0 where
    pub first : v.first ≡ 0
    pub end : v.end ≡ 320

  -- it read some nodes, or none, and did nothing else
  pub record HasWalked (v w : View cache_facts backing_facts) : Type 0 where
    pub deeds : List Deed
    pub reads : AreNodeReads deeds
    pub done : HasDone cache_facts backing_facts deeds v w

  -- It read some nodes, and then had no leaf for a sector, below which no last key is dirty.
  pub record HasStoppedWalk (error : LeafError) (v w : View cache_facts backing_facts) : Type 0
    where
      pub at : View cache_facts backing_facts
      pub walked : HasWalked v at
      pub first : ℕ
      pub clean : FromEach (world cache_facts backing_facts at) (AreCleanBelow first)
      pub not_missing : error ≢ errors.Missing
      pub stopped : HasStoppedAt cache_facts backing_facts first 1 error at w

  -- It read nodes only where some bucket was marked, and it knows now whether a last key is dirty.
  pub record HasAsked (dirty : Bool) (v w : View cache_facts backing_facts) : Type 0 where
    pub walked : HasDone cache_facts backing_facts [] v w
        ⊎ (HasMarked (world cache_facts backing_facts v) × HasWalked v w)
    pub told : TellsDirt dirty (world cache_facts backing_facts w)

  -- The same where it came to no leaf.
  pub record HasStoppedAsking (error : LeafError) (v w : View cache_facts backing_facts) : Type 0
    where
      pub marked : HasMarked (world cache_facts backing_facts v)
      pub stopped : HasStoppedWalk error v w
