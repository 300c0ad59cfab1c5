-- What a look finds before a write past the cache.
use Rattle.std.specs.Prelude.{◌≡◌, ◌⊎◌, ℕ, ◌+◌, ◌<◌, ◌≤◌, List, [], ◌∷◌, ◌++◌, None, Some}
use Rattle.bc_cache.specs.declared.slots.Cached.{Cached}
use Rattle.bc_flush.specs.bc_deed.Flushed.{HasDone}
use Rattle.bc_disk.specs.Disk.{DiskFacts}
use Rattle.bc_disk.specs.declared.disk.Device.{Device}
use Rattle.bc_events.specs.declared.event.Deed.{Deed}
use Rattle.bc_events.specs.declared.event.Deed.TheVariants as deed
use Rattle.bc_flush.specs.bc_fetch.Fetch.{HasHalted, HasStoppedAt}
use Rattle.bc_flush.specs.bc_fetch.declared.error.LeafError.{LeafError}
use Rattle.bc_flush.specs.bc_fetch.declared.error.LeafError.TheVariants as leaf
use Rattle.bc_flush.specs.Durable.{HaveComeIn}
use Rattle.bc_flush.specs.bc_hand.Seats.{View, Works, world}
use Rattle.bc_flush.specs.bc_hand.declared.error.StepError.{StepError}
use Rattle.bc_flush.specs.bc_hand.declared.error.StepError.TheVariants as step
use Rattle.bc_flush.specs.bc_hand.declared.hand.Hand.{Hand}
use Rattle.bc_flush.specs.bc_machine.World.{FromEach, Origin}
use Rattle.bc_flush.specs.bc_machine.declared.part.CorePart.{CorePart}
use Rattle.bc_meta.specs.Keys.{Ref}
use Rattle.bc_node.specs.Leaf.{Leaf}
use Rattle.bc_parts.specs.Seat.{PartsView}
use Rattle.bc_flush.specs.bc_reader.Look.{IsWay}
use Rattle.bc_flush.specs.bc_sight.Sight.{HasLeaf, OfClaim, said_in}
use Rattle.bc_around.specs.Bare.{AreBareUpTo}

-- the leaf's last key of the sector points somewhere
abbrev pub IsKeyed : Leaf → ℕ → Type 0
IsKeyed leaf s = (ref : Ref) × (said_in leaf s ≡ Some ref)

-- one of these sectors has such a key
pub record HasKey (leaf : Leaf) (first count : ℕ) : Type 0 where
  pub sector : ℕ
  pub low : first ≤ sector
  pub high : sector < first + count
  pub keyed : IsKeyed leaf sector

-- or none of them has one
abbrev pub AreFree : Leaf → (first count : ℕ) → Type 0
AreFree leaf first count = (s : ℕ) → first ≤ s → s < first + count → said_in leaf s ≡ None

-- the leaf of this number is in hand, by which no sector has a key
pub record HasFreeLeaf {C B : Type 0} (h : Hand C B) (number first count : ℕ) : Type 0 where
  pub slot : ℕ
  pub cached : Cached
  pub leaf : HasLeaf h number first count slot cached
  pub free : AreFree cached.leaf first count

-- or one has
pub record HasKeyedLeaf {C B : Type 0} (h : Hand C B) (number first count : ℕ) : Type 0 where
  pub slot : ℕ
  pub cached : Cached
  pub leaf : HasLeaf h number first count slot cached
  pub key : HasKey cached.leaf first count

module _ {C B : Type 0} (cache_facts : C → DiskFacts) (backing_facts : B → DiskFacts) where
  -- The seat looked its claim up in a leaf by which no sector has a key.
  pub record HasLookedFree (p : PartsView (CorePart C B)) (first count : ℕ)
      (v w : View cache_facts backing_facts) : Type 0 where
    pub number : ℕ
    pub way : List Deed
    pub is_way : IsWay way
    -- as it looked
    pub at : View cache_facts backing_facts
    pub hand : Hand C B
    pub works : Works cache_facts backing_facts p at hand
    pub leaf : HasFreeLeaf hand number first count
    pub done : HasDone cache_facts backing_facts (way ++ deed.Look number ∷ []) v at
    pub then : HasDone cache_facts backing_facts [] at w

  -- It had the leaf, by which one has a key, and didn't look.
  pub record HasFoundKey (p : PartsView (CorePart C B)) (first count : ℕ)
      (v w : View cache_facts backing_facts) : Type 0 where
    pub number : ℕ
    pub way : List Deed
    pub is_way : IsWay way
    -- as it had the leaf
    pub at : View cache_facts backing_facts
    pub hand : Hand C B
    pub works : Works cache_facts backing_facts p at hand
    pub leaf : HasKeyedLeaf hand number first count
    pub done : HasDone cache_facts backing_facts way v at
    pub then : HasDone cache_facts backing_facts [] at w

  -- a step came after this device's halt, and did nothing
  pub record IsHaltedAs (e : StepError) (v w : View cache_facts backing_facts) : Type 0 where
    pub device : Device
    pub is : e ≡ step.Halted device
    pub halted : HasHalted cache_facts backing_facts device v w

  -- It had a leaf by which none has a key, and was told of a halt before its look.
  pub record HasHaltedThere (p : PartsView (CorePart C B)) (first count : ℕ) (e : LeafError)
      (v w : View cache_facts backing_facts) : Type 0 where
    pub cause : StepError
    pub is : e ≡ leaf.Step cause
    pub number : ℕ
    pub way : List Deed
    pub is_way : IsWay way
    pub at : View cache_facts backing_facts
    pub hand : Hand C B
    pub works : Works cache_facts backing_facts p at hand
    pub leaf : HasFreeLeaf hand number first count
    pub done : HasDone cache_facts backing_facts way v at
    pub halt : IsHaltedAs cause at w

  -- why the claim wasn't looked up: its leaf wasn't had, or a halt came
  abbrev pub NotLooked : PartsView (CorePart C B) → (first count : ℕ) → LeafError
      → View cache_facts backing_facts → View cache_facts backing_facts → Type 0
  NotLooked p first count e v w = HasStoppedAt cache_facts backing_facts first count e v w
      ⊎ HasHaltedThere p first count e v w

  -- What the seat knows of its claim from such a look on: no sector had a key by so many insertions
  -- at the latest.
  pub record SeesNone (first count : ℕ) (v : View cache_facts backing_facts) : Type 0 where
    pub number : Origin → ℕ
    pub bare : OfClaim cache_facts backing_facts v
        (λ o c. AreBareUpTo (number o) first count c)
    pub come : FromEach (world cache_facts backing_facts v) (HaveComeIn number)
