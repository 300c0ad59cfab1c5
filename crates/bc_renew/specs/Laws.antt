-- When the core allows it that a bucket is raised, or that buckets are made ready, and what the
-- buckets in hand stand for then.
use Rattle.std.specs.Prelude.{◌≡◌, ℕ, ◌-◌, [], ◌∷◌, take, Vec, false}
use Rattle.std.specs.declared.alloc.Global.{Global}
use Rattle.bc_alloc.specs.Reserves.{returned_all}
use Rattle.bc_alloc.specs.Victims.{IsCandidate}
use Rattle.bc_events.specs.Run as core
use Rattle.bc_events.specs.declared.event.Deed.TheVariants as deed
use Rattle.bc_events.specs.declared.event.Event.{Event}
use Rattle.bc_events.specs.declared.event.Listing.{Listing}
use Rattle.bc_machine.specs.Containers.{AreBucketsOf}
use Rattle.bc_machine.specs.World.{IsCourseOf, IsOrigin, Origin, World, replay}
use Rattle.bc_machine.specs.declared.part.BucketsPart.{BucketsPart}
use Rattle.bc_shares.specs.Shares.{books_of}
use Rattle.bc_renew.specs.Goes.{given_back, listings}
use Rattle.bc_renew.specs.Raised.{HasRaised}
use Rattle.bc_renew.specs.Ready.{CanGo, HasMadeReady, MayReady}

-- A seat has these buckets in hand, in a state of a run.
pub record HasBuckets (x : World) (o : Origin) (p : BucketsPart) : Type 0 where
  pub origin : IsOrigin x o
  pub course : IsCourseOf o x.log
  pub stand : AreBucketsOf o.opening.machine (books_of (replay o x.log).machine) p

-- Then the event may be, unless a device halted the run, and behind it these are in hand.
pub record Allows (x : World) (o : Origin) (e : Event) (q : BucketsPart → Type 0) : Type 0 where
  pub may : core.IsSeat e.seat → (replay o x.log).machine.whole.flow.halted ≡ false
      → core.IsEnabled o.opening (replay o x.log) e
  pub stands : (r : BucketsPart) → q r → AreBucketsOf o.opening.machine
      (books_of (core.after o.opening (replay o x.log) e).machine) r

abbrev pub raise_by : (i before n : ℕ) → Event
raise_by i before n = record { seat = i; deed = deed.Raise (n - before) }

-- A bucket may be raised that the containers would give up: that the core counts it, whether a place
-- of it is pinned, and which mark it has, they know.
abbrev pub LawRaise : Type 0
LawRaise = (x : World) (o : Origin) (p : BucketsPart) (i n : ℕ) → HasBuckets x o p
    → IsCandidate p.reserves p.buckets n
    → Allows x o (raise_by i o.opening.machine.before n) (HasRaised p (n ∷ []))

-- The chain in hand may go, and the next one with it.
abbrev pub LawGo : Type 0
LawGo = (x : World) (o : Origin) (p : BucketsPart) (i named : ℕ) (new : Vec ℕ Global)
    → HasBuckets x o p
    → MayReady i (take named p.reserves.raised) new.items o (replay o x.log)
    → CanGo p new.items

abbrev pub ready_by : ℕ → Vec ℕ Global → Vec Listing Global → Event
ready_by i back listed = record { seat = i; deed = deed.Ready back listed }

-- What an entry with a new chain allows may be made ready, where the event says just which buckets
-- of the chain in hand go back, and to which list each named one goes.
abbrev pub LawReady : Type 0
LawReady = (x : World) (o : Origin) (p : BucketsPart) (i named : ℕ) (new : Vec ℕ Global)
    (back : Vec ℕ Global) (listed : Vec Listing Global) → HasBuckets x o p
    → MayReady i (take named p.reserves.raised) new.items o (replay o x.log)
    → back.items ≡ given_back o.opening.machine.before p.chain.items p.reserves.lists
    → listed.items ≡ listings o.opening.machine.before (take named p.reserves.raised)
    (returned_all p.chain.items p.reserves.lists)
    → Allows x o (ready_by i back listed) (HasMadeReady p named new)
