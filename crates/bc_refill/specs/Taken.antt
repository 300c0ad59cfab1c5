-- The buckets of a chain, taken one behind the other, and let go again where one is missing.
use Rattle.std.specs.Prelude.{◌≡◌, ℕ, ◌<◌, ◌≤◌, List, [], ◌∷◌, ◌++◌, length, map, reverse, slice_get, None, Some}
use Rattle.bc_alloc.specs.declared.purpose.Purpose.TheVariants as list
use Rattle.bc_disk.specs.Disk.{DiskFacts}
use Rattle.bc_disk.specs.declared.geometry.Geometry.{Geometry}
use Rattle.bc_new_chain.specs.bc_held.Held.{AreOther, IsHeldFor}
use Rattle.bc_new_chain.specs.bc_held.Next.{HasNoneFor, none_for}
use Rattle.bc_new_chain.specs.bc_held.Taken.{KeepsHeld, LetGo, Took}
use Rattle.bc_new_chain.specs.bc_held.declared.held.HeldBucket.{HeldBucket}
use Rattle.bc_new_chain.specs.bc_held.declared.held.Want.TheVariants as want
use Rattle.bc_new_chain.specs.Beside.{IsBeside}
use Rattle.bc_new_chain.specs.bc_deed.Asked.{IsHalted}
use Rattle.bc_new_chain.specs.bc_deed.Flushed.{HasDone}
use Rattle.bc_new_chain.specs.bc_hand.Seats.{Did, View, world}
use Rattle.bc_new_chain.specs.bc_hand.declared.error.StepError.{StepError}
use Rattle.bc_new_chain.specs.bc_machine.World.{FromEach, World}
use Rattle.bc_new_chain.specs.bc_machine.declared.part.BucketsPart.{BucketsPart}
use Rattle.bc_new_chain.specs.bc_place.Written.{KeepsPlaces}
use Rattle.bc_refill.specs.declared.answer.Refilled.{Refilled}
use Rattle.bc_refill.specs.declared.answer.Refilled.TheVariants as answer

abbrev pub numbers_of : List HeldBucket → List ℕ
numbers_of bs = map (λ b. b.bucket) bs

-- one of the device's buckets, behind those that the core doesn't count
pub record IsWithin (g : Geometry) (n : ℕ) : Type 0 where
  pub low : g.first_bucket ≤ n
  pub high : n < g.nbuckets

abbrev pub IsForSet : Geometry → HeldBucket → Type 0
IsForSet g b = IsWithin g b.bucket

-- there is no sound pair from which the run could be one
abbrev pub IsUnsound : World → Type 0
IsUnsound x = FromEach x (λ o st. ⊥)

-- why the buckets are let go again
abbrev pub IsNoChain : Refilled → BucketsPart → World → Type 0
IsNoChain (answer.NoBucket none) p x = (none ≡ none_for want.Chain) × HasNoneFor want.Chain p
IsNoChain answer.Unsound p x = IsUnsound x
IsNoChain a p x = ⊥

module _ {C B : Type 0} (cache_facts : C → DiskFacts) (backing_facts : B → DiskFacts) where
  -- ---- steps, one behind the other

  -- These were taken from the buckets in hand, in this order.
  abbrev pub HaveTaken : ℕ → List HeldBucket → BucketsPart → BucketsPart
      → View cache_facts backing_facts → View cache_facts backing_facts → Type 0
  HaveTaken before [] p q v w = (q ≡ p) × (w ≡ v)
  HaveTaken before (b ∷ bs) p q v w = (m : BucketsPart) × (u : View cache_facts backing_facts)
      × Took cache_facts backing_facts before want.Chain b p m v u × HaveTaken before bs m q u w

  -- These were let go, in this order.
  abbrev pub HaveLetGo : ℕ → List HeldBucket → BucketsPart → BucketsPart
      → View cache_facts backing_facts → View cache_facts backing_facts → Type 0
  HaveLetGo before [] p q v w = (q ≡ p) × (w ≡ v)
  HaveLetGo before (b ∷ bs) p q v w = (m : BucketsPart) × (u : View cache_facts backing_facts)
      × LetGo cache_facts backing_facts before b p m v u × HaveLetGo before bs m q u w

  -- ---- how it ends

  -- A device had halted the run before the rest of them went; and then nothing was done.
  pub record HasStoppedGoing (before : ℕ) (e : StepError) (taken : List HeldBucket)
      (p q : BucketsPart) (v w : View cache_facts backing_facts) : Type 0 where
    pub gone : List HeldBucket
    pub rest : List HeldBucket
    pub are : reverse taken ≡ gone ++ rest
    pub last : View cache_facts backing_facts
    pub went : HaveLetGo before gone p q v last
    pub did : Did cache_facts backing_facts None last w
    pub halted : IsHalted e w.seen

  -- Some were taken, no more than a chain has; but the chain can't be.
  pub record HasNoChain (before most : ℕ) (a : Refilled) (taken : List HeldBucket)
      (p q : BucketsPart) (v w : View cache_facts backing_facts) : Type 0 where
    pub few : length taken ≤ most
    pub had : View cache_facts backing_facts
    pub took : HaveTaken before taken p q v had
    pub waited : HasDone cache_facts backing_facts [] had w
    pub why : IsNoChain a q (world cache_facts backing_facts w)

  -- So all of them were let go again, the last one first; and nothing else was done.
  pub record HasGivenBack (before most : ℕ) (a : Refilled) (p q : BucketsPart)
      (v w : View cache_facts backing_facts) : Type 0 where
    pub taken : List HeldBucket
    pub left : BucketsPart
    pub then_ : View cache_facts backing_facts
    pub none : HasNoChain before most a taken p left v then_
    pub gone : HaveLetGo before (reverse taken) left q then_ w

  -- A device had halted the run before the next one was taken. What the seat has then nobody needs
  -- in this run.
  pub record HasStoppedTaking (before most : ℕ) (e : StepError) (p q : BucketsPart)
      (v w : View cache_facts backing_facts) : Type 0 where
    pub taken : List HeldBucket
    pub few : length taken ≤ most
    pub had : View cache_facts backing_facts
    pub took : HaveTaken before taken p q v had
    pub did : Did cache_facts backing_facts None had w
    pub halted : IsHalted e w.seen

  -- Or before all of those went that were to be let go again.
  pub record HasStoppedBack (before most : ℕ) (e : StepError) (p q : BucketsPart)
      (v w : View cache_facts backing_facts) : Type 0 where
    pub why : Refilled
    pub taken : List HeldBucket
    pub left : BucketsPart
    pub then_ : View cache_facts backing_facts
    pub none : HasNoChain before most why taken p left v then_
    pub stopped : HasStoppedGoing before e taken left q then_ w

  -- ---- what the seat has then

  -- They are the seat's, and each is another one.
  pub record AreMine (bs : List HeldBucket) (v : View cache_facts backing_facts) : Type 0 where
    pub purpose : (k : ℕ) (b : HeldBucket) → slice_get bs k ≡ Some b → b.purpose ≡ list.Priorities
    pub held : (k : ℕ) (b : HeldBucket) → slice_get bs k ≡ Some b
        → FromEach (world cache_facts backing_facts v) (IsHeldFor v.first b)
    pub apart : (j k : ℕ) (a b : HeldBucket) → j < k → slice_get bs j ≡ Some a
        → slice_get bs k ≡ Some b → FromEach (world cache_facts backing_facts v) (AreOther a b)

  -- they are none that the seat held before
  abbrev pub AreNew : List HeldBucket → View cache_facts backing_facts
      → View cache_facts backing_facts → Type 0
  AreNew bs v w = (a : HeldBucket)
      → FromEach (world cache_facts backing_facts v) (IsHeldFor v.first a)
      → FromEach (world cache_facts backing_facts w) (IsBeside (numbers_of bs) a)

  -- So the seat has them, and what it knew before it knows still.
  pub record HasMine (bs : List HeldBucket) (v w : View cache_facts backing_facts) : Type 0 where
    pub mine : AreMine bs w
    pub new : AreNew bs v w
    pub places : KeepsPlaces cache_facts backing_facts v w
    pub held : KeepsHeld cache_facts backing_facts v w
