-- The buckets of a change of the tree, taken one behind the other.
use Rattle.std.specs.Prelude.{◌≡◌, ◌⊎◌, ℕ, List, [], ◌∷◌, ◌++◌, replicate, Contains, None, Result, Ok, Err}
use Rattle.bc_alloc.specs.declared.purpose.NoBucket.{NoBucket}
use Rattle.bc_disk.specs.Disk.{DiskFacts}
use Rattle.bc_held.specs.Held.{AreOther, IsHeldFor, IsVacantIn}
use Rattle.bc_held.specs.Taken.{HasLetGo, HasTakenOr}
use Rattle.bc_held.specs.bc_deed.Asked.{IsHalted}
use Rattle.bc_held.specs.bc_hand.Seats.{Did, View, world}
use Rattle.bc_held.specs.bc_hand.declared.error.StepError.{StepError}
use Rattle.bc_held.specs.bc_machine.World.{FromEach}
use Rattle.bc_held.specs.declared.held.HeldBucket.{HeldBucket}
use Rattle.bc_held.specs.declared.held.Want.{Want}
use Rattle.bc_held.specs.declared.held.Want.TheVariants as want
use Rattle.bc_parts.specs.Seat.{Holds}
use Rattle.bc_tree.specs.declared.needs.Needs.{Needs}

-- what a change needs: first the buckets of nodes that come beside others, then those of nodes that
-- are written anew
abbrev pub wants_of : Needs → List Want
wants_of n = replicate n.tree want.Node ++ replicate n.moving want.Rewrite

module _ {C B : Type 0} (cache_facts : C → DiskFacts) (backing_facts : B → DiskFacts) where
  -- ---- steps, one behind the other

  -- For each of these a bucket was taken, in this order.
  abbrev pub HaveTaken : ℕ → List Want → List HeldBucket → View cache_facts backing_facts
      → View cache_facts backing_facts → Type 0
  HaveTaken before [] [] v w = w ≡ v
  HaveTaken before [] (b ∷ bs) v w = ⊥
  HaveTaken before (x ∷ xs) [] v w = ⊥
  HaveTaken before (x ∷ xs) (b ∷ bs) v w = (u : View cache_facts backing_facts)
      × HasTakenOr cache_facts backing_facts before x (Ok b) v u × HaveTaken before xs bs u w

  -- These were let go, in this order.
  abbrev pub HaveLetGo : ℕ → List HeldBucket → View cache_facts backing_facts
      → View cache_facts backing_facts → Type 0
  HaveLetGo before [] v w = w ≡ v
  HaveLetGo before (b ∷ bs) v w = (u : View cache_facts backing_facts)
      × HasLetGo cache_facts backing_facts before b v u × HaveLetGo before bs u w

  -- A halt came before the rest of them went, and then nothing was done.
  pub record HaveHalted (before : ℕ) (e : StepError) (bs : List HeldBucket)
      (v w : View cache_facts backing_facts) : Type 0 where
    pub gone : List HeldBucket
    pub rest : List HeldBucket
    pub are : bs ≡ gone ++ rest
    pub between : View cache_facts backing_facts
    pub went : HaveLetGo before gone v between
    pub did : Did cache_facts backing_facts None between w
    pub halted : IsHalted e w.seen

  -- For one of them there was none, behind those that were taken.
  pub record HasRefused (before : ℕ) (xs : List Want) (bs : List HeldBucket) (none : NoBucket)
      (v w : View cache_facts backing_facts) : Type 0 where
    pub these : List Want
    pub this : Want
    pub more : List Want
    pub are : xs ≡ these ++ this ∷ more
    pub had : View cache_facts backing_facts
    pub took : HaveTaken before these bs v had
    pub why : HasTakenOr cache_facts backing_facts before this (Err none) had w

  -- So those were let go again.
  pub record HaveNone (before : ℕ) (xs : List Want) (none : NoBucket)
      (v w : View cache_facts backing_facts) : Type 0 where
    pub taken : List HeldBucket
    pub refused : View cache_facts backing_facts
    pub why : HasRefused before xs taken none v refused
    pub gone : HaveLetGo before taken refused w

  -- A halt came before the next one was taken.
  pub record HaveStopped (before : ℕ) (e : StepError) (xs : List Want) (bs : List HeldBucket)
      (v w : View cache_facts backing_facts) : Type 0 where
    pub these : List Want
    pub more : List Want
    pub are : xs ≡ these ++ more
    pub had : View cache_facts backing_facts
    pub took : HaveTaken before these bs v had
    pub did : Did cache_facts backing_facts None had w
    pub halted : IsHalted e w.seen

  -- Or there was none for one of them, and a halt came before all of the others went.
  pub record HaveStoppedGoing (before : ℕ) (e : StepError) (xs : List Want) (bs : List HeldBucket)
      (v w : View cache_facts backing_facts) : Type 0 where
    pub none : NoBucket
    pub refused : View cache_facts backing_facts
    pub why : HasRefused before xs bs none v refused
    pub halted : HaveHalted before e bs refused w

  -- ---- what the seat has then

  -- it is none of these
  abbrev pub IsApartFrom : HeldBucket → List HeldBucket → View cache_facts backing_facts → Type 0
  IsApartFrom a bs v = (b : HeldBucket) → Contains bs b
      → FromEach (world cache_facts backing_facts v) (AreOther b a)

  -- no two are the same
  abbrev pub AreApart : List HeldBucket → View cache_facts backing_facts → Type 0
  AreApart [] v = Unit {0}
  AreApart (b ∷ bs) v = IsApartFrom b bs v × AreApart bs v

  -- They are the seat's, no node lies in them, and each is another one.
  pub record AreHeld (bs : List HeldBucket) (v : View cache_facts backing_facts) : Type 0 where
    pub held : (b : HeldBucket) → Contains bs b
        → FromEach (world cache_facts backing_facts v) (IsHeldFor v.first b)
    pub vacant : (b : HeldBucket) → Contains bs b
        → FromEach (world cache_facts backing_facts v) (IsVacantIn b)
    pub apart : AreApart bs v

  -- What the seat knew of the other buckets that it holds, it knows still.
  pub record KeepsHeldApart (bs : List HeldBucket) (v w : View cache_facts backing_facts) :
      Type 0 where
    pub held : (a : HeldBucket) → IsApartFrom a bs v
        → FromEach (world cache_facts backing_facts v) (IsHeldFor v.first a)
        → FromEach (world cache_facts backing_facts w) (IsHeldFor w.first a)
    pub vacant : Holds v.parts 0 → (a : HeldBucket)
        → FromEach (world cache_facts backing_facts v) (IsVacantIn a)
        → FromEach (world cache_facts backing_facts w) (IsVacantIn a)
    pub other : (a b : HeldBucket) → FromEach (world cache_facts backing_facts v) (AreOther a b)
        → FromEach (world cache_facts backing_facts w) (AreOther a b)

  -- ---- answers

  abbrev pub HaveTakenOr : ℕ → List Want → Result (Unit {0}) NoBucket → List HeldBucket
      → View cache_facts backing_facts → View cache_facts backing_facts → Type 0
  HaveTakenOr before xs (Ok done) bs v w = HaveTaken before xs bs v w
  HaveTakenOr before xs (Err none) bs v w = (bs ≡ []) × HaveNone before xs none v w

  -- a halt, behind which nothing is let go: these were taken, of which some may have been let go
  abbrev pub HaveStoppedBy : ℕ → StepError → List Want → List HeldBucket
      → View cache_facts backing_facts → View cache_facts backing_facts → Type 0
  HaveStoppedBy before e xs bs v w =
      HaveStopped before e xs bs v w ⊎ HaveStoppedGoing before e xs bs v w
