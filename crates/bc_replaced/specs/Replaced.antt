-- What a seat has done by which a leaf gave way to others, and where it came no further.
use Rattle.std.specs.Prelude.{◌≡◌, ◌⊎◌, ℕ, ◌+◌, ◌-◌, ◌^◌, ◌≤◌, List}
use Rattle.bc_disk.specs.Disk.{DiskFacts}
use Rattle.bc_new_nodes.specs.bc_held_all.All.{HaveHalted, HaveLetGo, HaveNone, HaveStoppedBy, HaveTaken, wants_of}
use Rattle.bc_new_nodes.specs.bc_hand.Seats.{View}
use Rattle.bc_new_nodes.specs.bc_hand.declared.error.StepError.{StepError}
use Rattle.bc_new_nodes.specs.bc_hand.declared.hand.Hand.{Hand}
use Rattle.bc_new_nodes.specs.bc_held.declared.held.HeldBucket.{HeldBucket}
use Rattle.bc_leaf_plan.specs.Leaf.{HasLeafToGo, HasRoomed, IsUnplanned, with_spine}
use Rattle.bc_replaced.specs.Made.{HasMade, HasNotMade}
use Rattle.bc_leaf_plan.specs.Way.{IsFullAbove, IsNeededBy, IsPlanBy, places}
use Rattle.bc_replaced.specs.declared.error.MakeError.{MakeError}
use Rattle.bc_leaf_plan.specs.declared.refused.Refused.{Refused}
use Rattle.bc_leaf_plan.specs.declared.refused.Refused.TheVariants as no
use Rattle.bc_replaced.specs.declared.error.ReplaceError.{ReplaceError}
use Rattle.bc_replaced.specs.declared.error.ReplaceError.TheVariants as error
use Rattle.bc_leaf_plan.specs.declared.way.Way.{Way}
use Rattle.bc_tree.specs.LastKeys.{HasKeysOf, KeepLastKeys, LeafKeys, keys_next}
use Rattle.bc_tree.specs.Same.{IsSameTree}
use Rattle.bc_tree.specs.Spine.{Spine}
use Rattle.bc_tree.specs.declared.needs.Needs.{Needs}
use Rattle.bc_tree.specs.declared.plan.Plan.{Plan}

module _ {C B : Type 0} (cache_facts : C → DiskFacts) (backing_facts : B → DiskFacts) where
  -- ---- buckets

  -- As many were taken as the leaf needs.
  pub record HasTakenFor (before : ℕ) {h : Hand C B} {parts slot : ℕ} {way : Way}
      (at : HasLeafToGo h parts way slot) (bs : List HeldBucket)
      (v w : View cache_facts backing_facts) : Type 0 where
    pub needs : Needs
    pub needed : IsNeededBy way at.spine.spine at.cached.leaf needs
    pub took : HaveTaken cache_facts backing_facts before (wants_of needs) bs v w

  -- ---- what is done with them

  -- They were let go, for this cause, or a device had halted the run before all of them were.
  abbrev pub IsGivenUp : (before : ℕ) → Refused → List HeldBucket → ReplaceError
      → View cache_facts backing_facts → View cache_facts backing_facts → Type 0
  IsGivenUp before why bs (error.Refused cause) v w =
      (cause ≡ why) × HaveLetGo cache_facts backing_facts before bs v w
  IsGivenUp before why bs (error.Before e) v w =
      HaveHalted cache_facts backing_facts before e bs v w
  IsGivenUp before why bs (error.Made e) v w = ⊥

  -- A plan was made for them, and the change was made.
  pub record HasReplacedIn (before : ℕ) {h : Hand C B} {parts slot : ℕ} {way : Way}
      (at : HasLeafToGo h parts way slot) (bs : List HeldBucket) (k : Hand C B)
      (v w : View cache_facts backing_facts) : Type 0 where
    pub plan : Plan
    pub planned : IsPlanBy way (parts - 6) at.spine.spine at.cached.leaf (places bs)
        at.spine.next_seq plan
    pub spine : Spine
    pub tree : IsSameTree at.spine.spine spine
    pub made : HasMade cache_facts backing_facts before (parts - 6)
        (with_spine h (record at.spine { spine = spine })) k bs plan v w
    -- whatever keys the other leaves have, each sector has in its leaf the last key that it had
    pub keeps : (keys : LeafKeys) → HasKeysOf at.spine.spine.leaves keys at.cached.leaf
        → KeepLastKeys at.spine.spine.leaves made.tree.now.spine.leaves keys (keys_next keys plan)

  -- It was begun, and came no further.
  pub record HasStoppedIn (sectors before : ℕ) {h : Hand C B} {parts slot : ℕ} {way : Way}
      (at : HasLeafToGo h parts way slot) (bs : List HeldBucket) (e : MakeError) (k : Hand C B)
      (v w : View cache_facts backing_facts) : Type 0 where
    pub plan : Plan
    pub planned : IsPlanBy way (parts - 6) at.spine.spine at.cached.leaf (places bs)
        at.spine.next_seq plan
    pub spine : Spine
    pub tree : IsSameTree at.spine.spine spine
    pub stopped : HasNotMade cache_facts backing_facts sectors parts before e
        (with_spine h (record at.spine { spine = spine })) k bs plan v w

  -- No plan was made, or there was no memory: the tree is as it was, at rest, and they were let go.
  -- `within` sectors are what is known of the device.
  pub record HasGivenUp (within before : ℕ) {h : Hand C B} {parts slot : ℕ} {way : Way}
      (at : HasLeafToGo h parts way slot) (bs : List HeldBucket) (why : Refused) (k : Hand C B)
      (v w : View cache_facts backing_facts) : Type 0 where
    pub roomed : HasRoomed h at.spine k
    pub why_not : IsUnplanned way (parts - 6) within at.spine at.cached.leaf bs why
    pub gone : HaveLetGo cache_facts backing_facts before bs v w

  -- or a device had halted the run before all were let go again
  pub record HasHaltedGoing (before : ℕ) {h : Hand C B} {parts slot : ℕ} {way : Way}
      (at : HasLeafToGo h parts way slot) (bs : List HeldBucket) (e : StepError) (k : Hand C B)
      (v w : View cache_facts backing_facts) : Type 0 where
    pub roomed : HasRoomed h at.spine k
    pub halted : HaveHalted cache_facts backing_facts before e bs v w

  -- of the device, which has `sectors`
  abbrev pub HasNotReplacedIn : (sectors within before : ℕ) → {h : Hand C B} → {parts slot : ℕ}
      → {way : Way} → HasLeafToGo h parts way slot → List HeldBucket → ReplaceError → Hand C B
      → View cache_facts backing_facts → View cache_facts backing_facts → Type 0
  HasNotReplacedIn sectors within before at bs (error.Refused why) k v w =
      HasGivenUp within before at bs why k v w
  HasNotReplacedIn sectors within before at bs (error.Before e) k v w =
      HasHaltedGoing before at bs e k v w
  HasNotReplacedIn sectors within before at bs (error.Made e) k v w =
      HasStoppedIn sectors before at bs e k v w

  -- ---- it is done

  -- Buckets were taken, a plan was made for them, and the change was made.
  pub record HasReplaced (parts before slot : ℕ) (way : Way) (h k : Hand C B)
      (v w : View cache_facts backing_facts) : Type 0 where
    pub at : HasLeafToGo h parts way slot
    pub buckets : List HeldBucket
    pub taken : View cache_facts backing_facts
    pub took : HasTakenFor before at buckets v taken
    pub done : HasReplacedIn before at buckets k taken w

  -- ---- it was given up

  -- buckets were taken, and they were let go again
  pub record HaveGoneBack (before : ℕ) {h : Hand C B} {parts slot : ℕ} {way : Way}
      (at : HasLeafToGo h parts way slot) (bs : List HeldBucket)
      (v w : View cache_facts backing_facts) : Type 0 where
    pub taken : View cache_facts backing_facts
    pub took : HasTakenFor before at bs v taken
    pub gone : HaveLetGo cache_facts backing_facts before bs taken w

  -- Why nothing of the tree was changed. Of numbers there have to be as many as of buckets.
  abbrev pub IsRefusal : (sectors before : ℕ) → {h : Hand C B} → {parts slot : ℕ} → {way : Way}
      → HasLeafToGo h parts way slot → Refused → View cache_facts backing_facts
      → View cache_facts backing_facts → Type 0
  IsRefusal sectors before {way = way} at no.Memory v w = (w ≡ v)
      ⊎ ((bs : List HeldBucket) × HaveGoneBack before at bs v w)
  IsRefusal sectors before {way = way} at (no.NoBucket none) v w = (n : Needs)
      × IsNeededBy way at.spine.spine at.cached.leaf n
      × HaveNone cache_facts backing_facts before (wants_of n) none v w
  IsRefusal sectors before {way = way} at no.Above v w =
      (w ≡ v) × IsFullAbove way at.spine.spine at.cached.leaf
  IsRefusal sectors before {way = way} at no.Number v w = (w ≡ v) × ((n : Needs)
      × IsNeededBy way at.spine.spine at.cached.leaf n
      × (2 ^ 64 ≤ at.spine.next_seq + (n.tree + n.moving)))
  IsRefusal sectors before {parts = parts} {way = way} at no.Large v w = (bs : List HeldBucket)
      × HaveGoneBack before at bs v w
      × IsUnplanned way (parts - 6) sectors at.spine at.cached.leaf bs no.Large
  IsRefusal sectors before {parts = parts} {way = way} at no.Outside v w = (bs : List HeldBucket)
      × HaveGoneBack before at bs v w
      × IsUnplanned way (parts - 6) sectors at.spine at.cached.leaf bs no.Outside
  IsRefusal sectors before {parts = parts} {way = way} at no.BySet v w = (bs : List HeldBucket)
      × HaveGoneBack before at bs v w
      × IsUnplanned way (parts - 6) sectors at.spine at.cached.leaf bs no.BySet

  -- the tree is as it was, at rest
  pub record HasRefused (sectors parts before slot : ℕ) (way : Way) (why : Refused) (h k : Hand C B)
      (v w : View cache_facts backing_facts) : Type 0 where
    pub at : HasLeafToGo h parts way slot
    pub roomed : HasRoomed h at.spine k
    pub why_not : IsRefusal sectors before at why v w

  -- A device had halted the run before all buckets were taken, or before all were let go again.
  pub record HasHaltedBefore (parts before slot : ℕ) (way : Way) (e : StepError) (h k : Hand C B)
      (v w : View cache_facts backing_facts) : Type 0 where
    pub at : HasLeafToGo h parts way slot
    pub roomed : HasRoomed h at.spine k
    pub buckets : List HeldBucket
    pub needs : Needs
    pub needed : IsNeededBy way at.spine.spine at.cached.leaf needs
    pub far : HaveStoppedBy cache_facts backing_facts before e (wants_of needs) buckets v w
        ⊎ ((taken : View cache_facts backing_facts)
        × HasTakenFor before at buckets v taken
        × HaveHalted cache_facts backing_facts before e buckets taken w)

  -- ---- it was begun, and came no further

  pub record HasStoppedMaking (sectors parts before slot : ℕ) (way : Way) (e : MakeError)
      (h k : Hand C B) (v w : View cache_facts backing_facts) : Type 0 where
    pub at : HasLeafToGo h parts way slot
    pub buckets : List HeldBucket
    pub taken : View cache_facts backing_facts
    pub took : HasTakenFor before at buckets v taken
    pub stopped : HasStoppedIn sectors before at buckets e k taken w

  -- `within` sectors are what is known of the device, of which it has `sectors`
  abbrev pub HasNotReplaced : (sectors within parts before slot : ℕ) → Way → ReplaceError
      → Hand C B → Hand C B → View cache_facts backing_facts → View cache_facts backing_facts
      → Type 0
  HasNotReplaced sectors within parts before slot way (error.Refused why) h k v w =
      HasRefused within parts before slot way why h k v w
  HasNotReplaced sectors within parts before slot way (error.Before e) h k v w =
      HasHaltedBefore parts before slot way e h k v w
  HasNotReplaced sectors within parts before slot way (error.Made e) h k v w =
      HasStoppedMaking sectors parts before slot way e h k v w
