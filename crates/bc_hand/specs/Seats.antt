-- What a seat of the core knows, and what it has done.
use Rattle.std.specs.Prelude.{◌≡◌, ℕ, ◌-◌, ◌<◌, ◌≤◌, Bool, true, false, List, [], ◌∷◌, length, Option, Some, None, is_some, IfSome, Result, Ok, Err}
use Rattle.bc_disk.specs.Disk.{DiskFacts}
use Rattle.bc_disk.specs.declared.disk.Device.{Device}
use Rattle.bc_parts.specs.declared.machine.Machine.{Ghosts}
use Rattle.bc_parts.specs.Seat.{SeatView, PartsView, Holds}
use Rattle.bc_seats.specs.Seats.{state_seen, own_events, IsSeat, Since, Waited, Committed}
use Rattle.bc_events.specs.Columns.{halt_of, verdict_of, outlasts_halt}
use Rattle.bc_events.specs.declared.event.Deed.{Deed}
use Rattle.bc_events.specs.declared.event.Event.{Event}
use Rattle.bc_book.specs.declared.book.Book.{Book}
use Rattle.bc_machine.specs.declared.machine.Core.{Core}
use Rattle.bc_machine.specs.declared.part.CorePart.{CorePart}
use Rattle.bc_machine.specs.World.{World, Origin, IsSeenFrom, data_of, is_plain, is_told, are_plain, opening, after, IsView, InEach, CanFollow, IsEnabled, changes, StandsAs, IsSpinePart, AreLeaves, IsFlight, AreBuckets, IsJournal, IsCache, IsBacking}
use Rattle.bc_machine.specs.Note.{Note, note_of, note_by, IsFirmer}
use Rattle.bc_machine.specs.Bare.{IsBareRun}
use Rattle.bc_hand.specs.declared.hand.Hand.{Hand}
use Rattle.bc_hand.specs.declared.hand.LeafHand.{LeafHand}
use Rattle.bc_hand.specs.declared.error.StepError.{StepError}
use Rattle.bc_hand.specs.declared.error.StepError.TheVariants as error

-- a deed of this seat
abbrev pub by : ℕ → Deed → Event
by i d = record { seat = i; deed = d }

-- ---- what is in hand

-- the one that was taken last comes first
abbrev pub with_part : {A : Type 0} → ℕ → Option A → List ℕ → List ℕ
with_part k None ks = ks
with_part k (Some p) ks = k ∷ ks

-- a part with leaves has its own number
abbrev pub with_leaves : Option LeafHand → List ℕ → List ℕ
with_leaves None ks = ks
with_leaves (Some l) ks = l.part ∷ ks

abbrev pub numbers : {C B : Type 0} → Hand C B → List ℕ
numbers h = with_part 5 h.backing (with_part 4 h.cache (with_part 3 h.journal
    (with_part 2 h.buckets (with_part 1 h.flight (with_leaves h.leaves (with_part 0 h.spine []))))))

-- nothing in hand
abbrev pub empty : {C B : Type 0} → Hand C B
empty = record {
  spine = None;
  leaves = None;
  flight = None;
  buckets = None;
  journal = None;
  cache = None;
  backing = None;
}

-- None of the parts is in hand that are taken after the spine, after leaves, after the claims, and so
-- on.
pub record HasNoneBehindSpine {C B : Type 0} (h : Hand C B) : Type 0 where
  pub leaves : h.leaves ≡ None
  pub flight : h.flight ≡ None
  pub buckets : h.buckets ≡ None
  pub journal : h.journal ≡ None
  pub cache : h.cache ≡ None
  pub backing : h.backing ≡ None

pub record HasNoneBehindLeaves {C B : Type 0} (h : Hand C B) : Type 0 where
  pub flight : h.flight ≡ None
  pub buckets : h.buckets ≡ None
  pub journal : h.journal ≡ None
  pub cache : h.cache ≡ None
  pub backing : h.backing ≡ None

pub record HasNoneBehindFlight {C B : Type 0} (h : Hand C B) : Type 0 where
  pub buckets : h.buckets ≡ None
  pub journal : h.journal ≡ None
  pub cache : h.cache ≡ None
  pub backing : h.backing ≡ None

pub record HasNoneBehindBuckets {C B : Type 0} (h : Hand C B) : Type 0 where
  pub journal : h.journal ≡ None
  pub cache : h.cache ≡ None
  pub backing : h.backing ≡ None

pub record HasNoneBehindJournal {C B : Type 0} (h : Hand C B) : Type 0 where
  pub cache : h.cache ≡ None
  pub backing : h.backing ≡ None

pub record HasNoneBehindCache {C B : Type 0} (h : Hand C B) : Type 0 where
  pub backing : h.backing ≡ None

-- which parts are in hand
pub record Kinds : Type 0 where
  pub spine : Bool
  pub leaves : Option ℕ
  pub flight : Bool
  pub buckets : Bool
  pub journal : Bool
  pub cache : Bool
  pub backing : Bool

abbrev pub part_of : Option LeafHand → Option ℕ
part_of None = None
part_of (Some l) = Some l.part

abbrev pub kinds : {C B : Type 0} → Hand C B → Kinds
kinds h = record {
  spine = is_some h.spine;
  leaves = part_of h.leaves;
  flight = is_some h.flight;
  buckets = is_some h.buckets;
  journal = is_some h.journal;
  cache = is_some h.cache;
  backing = is_some h.backing;
}

module _ {C B : Type 0} (cache_facts : C → DiskFacts) (backing_facts : B → DiskFacts) where
  -- the machine of the core, over these devices
  abbrev pub core : Ghosts (Core C B) (CorePart C B) Event Book Device
  core = record {
    State = World;
    opening = opening cache_facts backing_facts;
    after = after;
    enabled = IsEnabled;
    stands = λ k p x. StandsAs cache_facts backing_facts k p x;
    changes = changes;
    number = λ e. e.seat;
    events = λ b. b.events;
    room = λ b. b.room;
    verdict = verdict_of;
    stop = halt_of;
  }

  abbrev pub View : Type 0
  View = SeatView (CorePart C B) Event Device

  -- the state that the seat has seen, and what it noted
  abbrev pub world : View → World
  world v = state_seen core v

  -- what its own events make it note
  abbrev pub note : View → Note
  note v = note_by (are_plain cache_facts backing_facts v.run.start) (own_events core v)

  -- a seat of a run; unless it was told of a halt, it may make a device call
  pub record IsCoreSeat (v : View) : Type 0 where
    pub seat : IsSeat core v
    pub numbers : v.end ≤ 320
    pub parts : 5 < length v.run.start
    pub fresh : v.heard ≡ None → InEach (world v) (λ y. (data_of y).late v.first ≡ false)
    pub bare : IsBareRun (world v)

  -- What the seat knows of a state x in which its deed may be committed, seen as y: as events alone
  -- make it, or as it is from an opening of the core, as a run with a cache always is.
  pub record AtDeed (v : View) (d : Deed) (x y : World) : Type 0 where
    pub since : Since core v x
    pub view : IsView x y
    pub from : is_plain x ≡ false → (o : Origin) × IsSeenFrom o x y
    pub note : IsFirmer (note v) (note_of y v.first)
    pub line : y.now.line v.first ≡ (world v).now.line v.first
    pub late : v.heard ≡ None → (data_of y).late v.first ≡ false
    pub running : outlasts_halt d ≡ false → (data_of y).halted ≡ false
    pub size : y.opening.machine.flow.books.size ≡ (world v).opening.machine.flow.books.size
    pub worker : y.opening.worker v.first ≡ (world v).opening.worker v.first
    pub plain : y.opening.machine.flow.plain ≡ are_plain cache_facts backing_facts v.run.start
    pub bare : IsBareRun y
    pub stand : (k : ℕ) (p : CorePart C B) → Holds v.parts k
        → StandsAs cache_facts backing_facts k p (world v) → StandsAs cache_facts backing_facts k p x

  -- the deed may be done then
  abbrev pub MayDo : View → Deed → Type 0
  MayDo v d = (x y : World) → AtDeed v d x y → is_told y ≡ true → CanFollow y (by v.first d)

  -- what a step did: it committed the deed, or only waited
  abbrev pub did : Option Deed → View → View → Type 0
  did None v w = Waited core v w
  did (Some d) v w = Committed core v (by v.first d) w

  pub record Did (o : Option Deed) (v w : View) : Type 0 where
    pub is : did o v w
    pub seat : IsCoreSeat w

  -- ---- parts in hand

  -- each part in hand stands for its share of the state
  pub record StandIn (h : Hand C B) (x : World) : Type 0 where
    pub spine : IfSome h.spine (λ p. IsSpinePart p x)
    pub leaves : IfSome h.leaves (λ l. (6 ≤ l.part) × AreLeaves (l.part - 6) l.cache x)
    pub flight : IfSome h.flight (λ f. IsFlight f x)
    pub buckets : IfSome h.buckets (λ p. AreBuckets p x)
    pub journal : IfSome h.journal (λ j. IsJournal j x)
    pub cache : IfSome h.cache (λ c. IsCache cache_facts backing_facts c x)
    pub backing : IfSome h.backing (λ b. IsBacking cache_facts backing_facts b x)

  -- a seat of this run with just these parts in hand, which stand for the state that it has seen
  pub record Works (p : PartsView (CorePart C B)) (v : View) (h : Hand C B) : Type 0 where
    pub run : v.run ≡ p.run
    pub seat : IsCoreSeat v
    pub parts : v.parts ≡ numbers h
    pub stand : StandIn h (world v)
