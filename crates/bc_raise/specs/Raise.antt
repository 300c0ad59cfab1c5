-- Buckets that nothing needs get new generations: what their seat did.
use Rattle.std.specs.Prelude.{◌≡◌, ℕ, ◌-◌, ◌<◌, List, length, map, take, Some}
use Rattle.bc_disk.specs.Disk.{DiskFacts}
use Rattle.bc_events.specs.declared.event.Deed.{Deed}
use Rattle.bc_events.specs.declared.event.Deed.TheVariants as deed
use Rattle.bc_held.specs.bc_deed.Flushed.{HasDone}
use Rattle.bc_held.specs.bc_hand.Seats.{View}
use Rattle.bc_held.specs.bc_hand.declared.hand.Hand.{Hand}
use Rattle.bc_held.specs.bc_machine.declared.part.BucketsPart.{BucketsPart}
use Rattle.bc_renew.specs.Raised.{HasRaised}

-- the containers count the buckets before the core's too
abbrev pub raise_of : ℕ → ℕ → Deed
raise_of before n = deed.Raise (n - before)

abbrev pub raises : ℕ → List ℕ → List Deed
raises before ns = map (raise_of before) ns

-- The part in hand has become one in which these buckets are raised.
abbrev pub HasRaisedIn : {C B : Type 0} → Hand C B → List ℕ → Hand C B → Type 0
HasRaisedIn h ns g = (p q : BucketsPart) × (h.buckets ≡ Some p)
    × (g ≡ record h { buckets = Some q }) × HasRaised p ns q

module _ {C B : Type 0} (cache_facts : C → DiskFacts) (backing_facts : B → DiskFacts) where
  -- The first ones of these were raised, by the seat's own deeds and no others, and not all.
  pub record HasRaisedSome (before : ℕ) (h : Hand C B) (ns : List ℕ) (g : Hand C B)
      (v w : View cache_facts backing_facts) : Type 0 where
    pub count : ℕ
    pub less : count < length ns
    pub part : HasRaisedIn h (take count ns) g
    pub done : HasDone cache_facts backing_facts (raises before (take count ns)) v w
