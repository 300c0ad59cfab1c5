-- What a step did that takes a bucket, and one that lets it go.
use Rattle.std.specs.Prelude.{◌≡◌, ℕ, ◌-◌, Bool, Option, Some, None, Result, Ok, Err}
use Rattle.bc_alloc.specs.declared.purpose.NoBucket.{NoBucket}
use Rattle.bc_disk.specs.Disk.{DiskFacts}
use Rattle.bc_events.specs.declared.event.Deed.{Deed}
use Rattle.bc_events.specs.declared.event.Deed.TheVariants as deed
use Rattle.bc_events.specs.declared.event.UnpinKind.TheVariants as unpin
use Rattle.bc_held.specs.Held.{AreOther, IsHeldFor, IsVacantIn}
use Rattle.bc_held.specs.Next.{HasNoneFor, LetsGo, TakesBucket, none_for, takes_back}
use Rattle.bc_held.specs.declared.held.HeldBucket.{HeldBucket}
use Rattle.bc_held.specs.declared.held.Want.{Want}
use Rattle.bc_parts.specs.Seat.{Holds}
use Rattle.bc_place.specs.bc_hand.Seats.{Did, View, by, world}
use Rattle.bc_place.specs.bc_hand.declared.hand.Hand.{Hand}
use Rattle.bc_place.specs.bc_machine.Containers.{SameRest}
use Rattle.bc_place.specs.bc_machine.World.{AreBuckets, FromEach, World, after}
use Rattle.bc_place.specs.bc_machine.declared.part.BucketsPart.{BucketsPart}

-- the containers count the buckets before the core's too
abbrev pub take_by : ℕ → HeldBucket → Deed
take_by before b = deed.Take b.purpose (b.bucket - before)

abbrev pub let_go_by : ℕ → HeldBucket → Bool → Deed
let_go_by before b back = deed.Unpin (unpin.Hold (b.bucket - before) back)

-- ---- of a hand

-- The buckets, where they were in hand, are there still, and those that come out are tied so to those
-- that went in.
abbrev pub TiesBuckets : {C B : Type 0} → (old new : Hand C B)
    → (BucketsPart → BucketsPart → Type 0) → Type 0
TiesBuckets old new tie = (p : BucketsPart) → old.buckets ≡ Some p
    → (q : BucketsPart) × (new.buckets ≡ Some q) × tie p q

module _ {C B : Type 0} (cache_facts : C → DiskFacts) (backing_facts : B → DiskFacts) where
  -- ---- of the part in hand

  -- The seat took this bucket, for what it wanted it; and the buckets of which it is the first one
  -- stood for the state in which it was taken.
  pub record Took (before : ℕ) (x : Want) (b : HeldBucket) (old new : BucketsPart)
      (v w : View cache_facts backing_facts) : Type 0 where
    pub takes : TakesBucket x b old new
    pub did : Did cache_facts backing_facts (Some (take_by before b)) v w
    pub state : World
    pub behind : world cache_facts backing_facts w ≡ after state (by v.first (take_by before b))
    pub stood : AreBuckets old state

  -- There was none, and nothing was done.
  pub record TookNone (x : Want) (none : NoBucket) (old new : BucketsPart)
      (v w : View cache_facts backing_facts) : Type 0 where
    pub none_is : none ≡ none_for x
    pub empty : HasNoneFor x old
    pub same : new ≡ old
    pub did : Did cache_facts backing_facts None v w
    pub stood : AreBuckets old (world cache_facts backing_facts w)

  abbrev pub TookOr : ℕ → Want → Result HeldBucket NoBucket → BucketsPart → BucketsPart
      → View cache_facts backing_facts → View cache_facts backing_facts → Type 0
  TookOr before x (Ok b) old new v w = Took before x b old new v w
  TookOr before x (Err none) old new v w = TookNone x none old new v w

  -- The seat let it go, which was its own from each opening; and the buckets stood for the state in
  -- which it was let go. The deed says whether its list takes it back. Of the part's chain and round
  -- nothing changed, whatever the opening.
  pub record LetGo (before : ℕ) (b : HeldBucket) (old new : BucketsPart)
      (v w : View cache_facts backing_facts) : Type 0 where
    pub goes : FromEach (world cache_facts backing_facts w) (λ o st. LetsGo b old new)
    pub did : Did cache_facts backing_facts
        (Some (let_go_by before b (takes_back b.purpose old.reserves))) v w
    pub state : World
    pub behind : world cache_facts backing_facts w
        ≡ after state (by v.first (let_go_by before b (takes_back b.purpose old.reserves)))
    pub stood : AreBuckets old state
    pub rest : SameRest old new

  -- ---- of whichever buckets the step had

  -- They are in the seat's hand, or in their slot among the parts.
  pub record HasTakenOr (before : ℕ) (x : Want) (r : Result HeldBucket NoBucket)
      (v w : View cache_facts backing_facts) : Type 0 where
    pub old : BucketsPart
    pub new : BucketsPart
    pub took : TookOr before x r old new v w

  pub record HasLetGo (before : ℕ) (b : HeldBucket) (v w : View cache_facts backing_facts) :
      Type 0 where
    pub old : BucketsPart
    pub new : BucketsPart
    pub went : LetGo before b old new v w

  -- ---- what the seat knows still

  -- of each bucket that it holds, but for this one where there is one
  abbrev pub IsOther : Option HeldBucket → HeldBucket → View cache_facts backing_facts → Type 0
  IsOther None b v = Unit {0}
  IsOther (Some a) b v = FromEach (world cache_facts backing_facts v) (AreOther a b)

  -- and, with the tree in hand, that no node lies in it
  pub record KeepsHeldBut (but : Option HeldBucket) (v w : View cache_facts backing_facts) :
      Type 0 where
    pub held : (b : HeldBucket) → IsOther but b v
        → FromEach (world cache_facts backing_facts v) (IsHeldFor v.first b)
        → FromEach (world cache_facts backing_facts w) (IsHeldFor w.first b)
    pub vacant : Holds v.parts 0 → (b : HeldBucket)
        → FromEach (world cache_facts backing_facts v) (IsVacantIn b)
        → FromEach (world cache_facts backing_facts w) (IsVacantIn b)
    pub other : (a b : HeldBucket) → FromEach (world cache_facts backing_facts v) (AreOther a b)
        → FromEach (world cache_facts backing_facts w) (AreOther a b)

  abbrev pub KeepsHeld : View cache_facts backing_facts → View cache_facts backing_facts → Type 0
  KeepsHeld = KeepsHeldBut None

  -- it is none that the seat held before
  abbrev pub IsNewBucket : HeldBucket → View cache_facts backing_facts
      → View cache_facts backing_facts → Type 0
  IsNewBucket b v w = (a : HeldBucket)
      → FromEach (world cache_facts backing_facts v) (IsHeldFor v.first a)
      → FromEach (world cache_facts backing_facts w) (AreOther b a)
