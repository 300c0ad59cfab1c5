-- What a step that fetches a leaf leaves, and why it refuses.
use Rattle.std.specs.Prelude.{◌≡◌, ◌≢◌, ◌⊎◌, ℕ, ◌+◌, ◌-◌, ◌*◌, ◌/◌, ◌%◌, ◌<◌, ◌≤◌, List, [], ◌∷◌, Contains, None, Some, is_some, length, slice_get}
use Rattle.bc_cache.specs.declared.slots.Cached.{Cached}
use Rattle.bc_cache.specs.Fetch.{IsUsed}
use Rattle.bc_cache.specs.Slots.{HasLeaf, IsOldest, Misses, NodeCache, NoneCanGo, coming, used_with, with_slot}
use Rattle.bc_disk.specs.Device.{Among, next_count}
use Rattle.bc_disk.specs.Disk.{DiskFacts}
use Rattle.bc_sight.specs.bc_deed.Flushed.{HasDone}
use Rattle.bc_disk.specs.declared.disk.Device.{Device}
use Rattle.bc_disk.specs.declared.disk.Device.TheVariants.{Cache}
use Rattle.bc_disk.specs.declared.geometry.Geometry.{Geometry}
use Rattle.bc_events.specs.Columns.{halt_of}
use Rattle.bc_events.specs.declared.event.Deed.{Deed}
use Rattle.bc_events.specs.declared.event.Deed.TheVariants as deed
use Rattle.bc_events.specs.declared.event.Failure.TheVariants as failure
use Rattle.bc_sight.specs.bc_hand.Seats.{Did, View, empty, kinds, world}
use Rattle.bc_sight.specs.bc_hand.declared.error.StepError.TheVariants as steps
use Rattle.bc_sight.specs.bc_hand.declared.hand.Hand.{Hand}
use Rattle.bc_sight.specs.bc_hand.declared.hand.LeafHand.{LeafHand}
use Rattle.bc_key.specs.declared.key.Key.{Key}
use Rattle.bc_sight.specs.bc_machine.declared.part.SpinePart.{SpinePart}
use Rattle.bc_sight.specs.bc_machine.World.{AreLeaves, IsCourseOf, IsOrigin, IsSpine, Origin, World, cache_among, replay}
use Rattle.bc_model.specs.Sector.{Image, Value, values_of}
use Rattle.bc_node.specs.Leaf.{Leaf}
use Rattle.bc_node.specs.Loading.{IsNotDecoded}
use Rattle.bc_node.specs.declared.error.NodeError.{NodeError}
use Rattle.bc_node.specs.declared.error.NodeError.TheVariants.{Memory}
use Rattle.bc_record.specs.Sectors.{Has}
use Rattle.bc_reload.specs.Reload.{NamesLeaf}
use Rattle.bc_spine.specs.Leaves.{Spans}
use Rattle.bc_spine.specs.declared.leaf.LeafRange.{LeafRange}
use Rattle.bc_sight.specs.Asked.{HasFailedRead}
use Rattle.bc_sight.specs.Sight.{HasLeaf as HasLeafOf}
use Rattle.bc_tree.specs.Spine.{IsSpine as IsTree, Spine}
use Rattle.bc_fetch.specs.declared.error.LeafError.{LeafError}
use Rattle.bc_fetch.specs.declared.error.LeafError.TheVariants as errors

-- ---- slots

-- the leaf came into this slot, whose own leaf could go
pub record IsPutInto (slot number : ℕ) (leaf : Leaf) (old new : NodeCache) : Type 0 where
  pub oldest : IsOldest old.slots slot
  pub after : new ≡ used_with (with_slot old slot None) slot
      (Some (coming number leaf (next_count old.uses)))
  pub has : HasLeaf new.slots slot number

-- Every other slot is as it was. Where no slot had the leaf, it came into the one that was used
-- longest ago of those whose leaf could go; an empty one goes first.
pub record HasTaken (slot number : ℕ) (old new : NodeCache) : Type 0 where
  pub others : (i : ℕ) → i ≢ slot → slice_get new.slots i ≡ slice_get old.slots i
  pub how : (HasLeaf old.slots slot number × IsUsed slot old new)
      ⊎ (Misses old.slots number × ((leaf : Leaf) × IsPutInto slot number leaf old new))

-- ---- what is in hand

-- the cache device alone may be another one
pub record IsSameButCache {C B : Type 0} (old new : Hand C B) : Type 0 where
  pub rest : new ≡ record old { cache = new.cache }
  pub kind : is_some new.cache ≡ is_some old.cache

-- and the leaves of the part in hand, which is the same part
pub record IsSameButLeaves {C B : Type 0} (old new : Hand C B) : Type 0 where
  pub rest : new ≡ record old { leaves = new.leaves; cache = new.cache }
  pub kinds_are : kinds new ≡ kinds old

-- the tree in hand has a leaf of this range
pub record IsInSpine {C B : Type 0} (h : Hand C B) (range : LeafRange) : Type 0 where
  pub part : SpinePart
  pub is : h.spine ≡ Some part
  pub range_in : Contains part.spine.leaves range

-- the part in hand is this one
pub record HasPart {C B : Type 0} (h : Hand C B) (part : ℕ) : Type 0 where
  pub hand : LeafHand
  pub is : h.leaves ≡ Some hand
  pub part_is : hand.part ≡ part

-- The part in hand, and nothing else, has in this slot the leaf of this number, which has all sectors
-- of a range.
pub record HasLeafFor {C B : Type 0} (h : Hand C B) (number first count : ℕ) : Type 0 where
  pub rest : h ≡ record (empty {C = C} {B = B}) { leaves = h.leaves }
  pub slot : ℕ
  pub cached : Cached
  pub has : HasLeafOf h number first count slot cached

-- of the part in hand
abbrev pub OfLeaves : {C B : Type 0} → Hand C B → (NodeCache → Type 0) → Type 0
OfLeaves h P = (l : LeafHand) × (h.leaves ≡ Some l) × P l.cache

-- of the part in hand before and now
abbrev pub OfBoth : {C B : Type 0} → Hand C B → Hand C B → (NodeCache → NodeCache → Type 0) → Type 0
OfBoth old new P = OfLeaves old (λ was. OfLeaves new (λ now. P was now))

-- ---- refusals

-- want of memory is the step's, and all else that of the node in a bucket
abbrev pub refusal : ℕ → NodeError → LeafError
refusal bucket Memory = errors.Step steps.Memory
refusal bucket why = errors.Node bucket why

-- A node from this sector on ends behind so many sectors of the device, or begins in none of its
-- buckets.
abbrev pub LiesOutside : Geometry → (at sectors : ℕ) → Type 0
LiesOutside g at sectors = (sectors < at + g.node_sectors) ⊎ (g.nbuckets ≤ at / g.bucket)

-- the tree ends by a sector, or its leaf of that one ends before another
abbrev pub EndsWithin : Spine → (first end : ℕ) → Type 0
EndsWithin spine first end = (spine.root.end ≤ first)
    ⊎ ((range : LeafRange) × Contains spine.leaves range × Spans range first × (range.end < end))

-- ---- reads

-- a read of the cache device from this sector on, of which nothing is learnt of data
abbrev pub node_read : ℕ → Deed
node_read at = deed.CacheRead at None []

-- These values stand from that sector on in an image that reads of the cache device may give, as the
-- run is from each opening.
abbrev pub MayStandIn : World → ℕ → List Value → Type 0
MayStandIn x at values = (o : Origin) → IsOrigin x o → IsCourseOf o x.log → (image : Image)
    × ((s : ℕ) → Among (image s) ((replay o x.log).machine.whole.flow.cache.reads s))
    × Has image at values

module _ {C B : Type 0} (cache_facts : C → DiskFacts) (backing_facts : B → DiskFacts) where
  abbrev pub MayStandAt : View cache_facts backing_facts → ℕ → List Value → Type 0
  MayStandAt v at values = MayStandIn (world cache_facts backing_facts v) at values

  -- the deed was done for a leaf that no slot had, and nothing where one had it
  abbrev pub HasFetched : Hand C B → LeafRange → View cache_facts backing_facts
      → View cache_facts backing_facts → Type 0
  HasFetched h range v w =
      (OfLeaves h (λ c. (slot : ℕ) × HasLeaf c.slots slot range.number)
      × Did cache_facts backing_facts None v w)
      ⊎ (OfLeaves h (λ c. Misses c.slots range.number)
      × Did cache_facts backing_facts (Some (node_read range.ptr.offset)) v w)

  -- the tree, as it stands for the run, has a leaf of this range
  pub record IsInTree (range : LeafRange) (v : View cache_facts backing_facts) : Type 0 where
    pub spine : Spine
    pub tree : IsSpine spine (world cache_facts backing_facts v)
    pub range_in : Contains spine.leaves range

  -- The device gave bytes that are no leaf of the range, for a leaf of the tree that begins in this
  -- bucket.
  pub record IsBadLeaf (c : NodeCache) (range : LeafRange) (bucket : ℕ) (e : NodeError)
      (v : View cache_facts backing_facts) : Type 0 where
    pub bucket_is : bucket ≡ range.ptr.offset / c.geometry.bucket
    pub key : Key
    pub names : NamesLeaf range key
    pub tree : IsInTree range v
    pub bytes : List ℕ
    pub whole : length bytes ≡ 512 * c.geometry.node_sectors
    pub stand : MayStandAt v range.ptr.offset (values_of bytes)
    pub cause : IsNotDecoded c.geometry key range.from bytes e
    pub not_memory : e ≢ Memory

  -- why the bytes that were read didn't become a leaf
  abbrev pub IsNoLeaf : Hand C B → LeafRange → LeafError → View cache_facts backing_facts → Type 0
  IsNoLeaf h range (errors.Step steps.Memory) v = Unit {0}
  IsNoLeaf h range (errors.Node bucket e) v = OfLeaves h (λ c. IsBadLeaf c range bucket e v)
  IsNoLeaf h range e v = ⊥

  -- Why a leaf that no slot has wasn't read into one.
  abbrev pub IsLeafStop : Hand C B → LeafRange → (sectors : ℕ) → LeafError
      → View cache_facts backing_facts → View cache_facts backing_facts → Type 0
  IsLeafStop h range sectors (errors.Step steps.Memory) v w =
      Did cache_facts backing_facts None v w
      ⊎ Did cache_facts backing_facts (Some (node_read range.ptr.offset)) v w
  IsLeafStop h range sectors (errors.Step e) v w = HasFailedRead cache_facts backing_facts e v w
  IsLeafStop h range sectors errors.Busy v w =
      OfLeaves h (λ c. NoneCanGo c.slots) × Did cache_facts backing_facts None v w
  IsLeafStop h range sectors errors.Outside v w =
      OfLeaves h (λ c. LiesOutside c.geometry range.ptr.offset sectors)
      × Did cache_facts backing_facts None v w
  IsLeafStop h range sectors errors.Missing v w = ⊥
  IsLeafStop h range sectors (errors.Node bucket e) v w =
      OfLeaves h (λ c. IsBadLeaf c range bucket e w)
      × Did cache_facts backing_facts (Some (node_read range.ptr.offset)) v w

  -- What a seat did on its way to a leaf that it has: nothing, or one read of a node.
  abbrev pub HasReadOne : View cache_facts backing_facts → View cache_facts backing_facts → Type 0
  HasReadOne v w = HasDone cache_facts backing_facts [] v w
      ⊎ ((at : ℕ) × HasDone cache_facts backing_facts (node_read at ∷ []) v w)

  -- A slot of this part was taken for the leaf, as the part stood for its share when it came into
  -- hand.
  pub record HasTakenIn (part number : ℕ) (h : Hand C B) (v : View cache_facts backing_facts) : Type 0
    where
      pub at : View cache_facts backing_facts
      pub way : HasDone cache_facts backing_facts [] v at
      pub was : NodeCache
      pub stood : AreLeaves (part - 6) was (world cache_facts backing_facts at)
      pub slot : ℕ
      pub taken : OfLeaves h (HasTaken slot number was)

  -- at some point of its way the seat was told of this device's halt, and it did nothing
  abbrev pub HasHalted : Device → View cache_facts backing_facts → View cache_facts backing_facts
      → Type 0
  HasHalted device v w = (u : View cache_facts backing_facts)
      × HasDone cache_facts backing_facts [] v u × (halt_of u.seen ≡ Some device)
      × HasDone cache_facts backing_facts [] u w

  -- a leaf of the tree and the leaf's part, which stood for the run so
  pub record HasHad (range : LeafRange) (leaves : NodeCache) (v : View cache_facts backing_facts)
      : Type 0 where
    pub spine : Spine
    pub tree : IsSpine spine (world cache_facts backing_facts v)
    pub range_in : Contains spine.leaves range
    pub stood : AreLeaves (range.number % (length v.run.start - 6)) leaves
        (world cache_facts backing_facts v)

  -- These deeds were done for such a leaf, after which this was so of it and its part.
  pub record HasComeTo (So : LeafRange → NodeCache → View cache_facts backing_facts → Type 0)
      (deeds : LeafRange → List Deed) (v w : View cache_facts backing_facts) : Type 0 where
    pub range : LeafRange
    pub leaves : NodeCache
    pub at : View cache_facts backing_facts
    pub way : HasDone cache_facts backing_facts [] v at
    pub had : HasHad range leaves at
    pub now : View cache_facts backing_facts
    pub did : HasDone cache_facts backing_facts (deeds range) at now
    pub so : So range leaves now
    pub then : HasDone cache_facts backing_facts [] now w

  -- the tree, as the seat had it, has no leaf with so many sectors from the first one on
  pub record HasShortTree (first count : ℕ) (v w : View cache_facts backing_facts) : Type 0 where
    pub at : View cache_facts backing_facts
    pub way : HasDone cache_facts backing_facts [] v at
    pub spine : Spine
    pub tree : IsSpine spine (world cache_facts backing_facts at)
    -- so each of its leaves ends at a multiple of 256 sectors
    pub shape : IsTree spine.geometry spine.root spine.below spine.leaves
    pub ends : EndsWithin spine first (first + count)
    pub then : HasDone cache_facts backing_facts [] at w

  -- it has one, and the leaf that a slot of the part has for that doesn't have them
  pub record HasShortLeaf (first count : ℕ) (v w : View cache_facts backing_facts) : Type 0 where
    pub range : LeafRange
    pub covers : (range.from ≤ first) × (first + count ≤ range.end)
    pub leaves : NodeCache
    pub at : View cache_facts backing_facts
    pub read : HasReadOne v at
    pub had : HasHad range leaves at
    pub slot : ℕ
    pub has : HasLeaf leaves.slots slot range.number
    pub short : ¬ ((has.cached.leaf.from ≤ first) × (first + count ≤ has.cached.leaf.end))
    pub then : HasDone cache_facts backing_facts [] at w

  -- each slot of the part has a leaf that can't go
  abbrev pub HasNoSlot : LeafRange → NodeCache → View cache_facts backing_facts → Type 0
  HasNoSlot range leaves v = NoneCanGo leaves.slots

  -- the leaf doesn't lie in a bucket of the device
  abbrev pub IsElsewhere : LeafRange → NodeCache → View cache_facts backing_facts → Type 0
  IsElsewhere range leaves v = LiesOutside leaves.geometry range.ptr.offset
      (cache_among cache_facts backing_facts v.run.start).sectors

  -- what it did by the refusal, where it hasn't one with so many sectors from the first one on, and
  -- why
  abbrev pub HasStoppedAt : (first count : ℕ) → LeafError → View cache_facts backing_facts
      → View cache_facts backing_facts → Type 0
  HasStoppedAt first count (errors.Step steps.Memory) v w = HasReadOne v w
  HasStoppedAt first count (errors.Step (steps.Fault device)) v w = (device ≡ Cache)
      × HasDone cache_facts backing_facts (deed.DeviceFault (failure.Read Cache) ∷ []) v w
  HasStoppedAt first count (errors.Step (steps.Halted device)) v w = HasHalted device v w
  HasStoppedAt first count errors.Busy v w = HasComeTo HasNoSlot (λ range. []) v w
  HasStoppedAt first count errors.Outside v w = HasComeTo IsElsewhere (λ range. []) v w
  HasStoppedAt first count errors.Missing v w =
      HasShortTree first count v w ⊎ HasShortLeaf first count v w
  HasStoppedAt first count (errors.Node bucket e) v w = HasComeTo
      (λ range leaves u. IsBadLeaf leaves range bucket e u) (λ range. node_read range.ptr.offset ∷ [])
      v w
