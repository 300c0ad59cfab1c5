-- What the parts of a run stand for: the core's state, with what it rests on and what a device is
-- beside it. And which parts an event changes.
--
-- What a cache device means at the opening, its own records say, and a run can't tell from its parts
-- alone whether they are sound. So the state here says only what the events make: claims, notes,
-- what devices hold. What the parts in memory stand for is said of each opening of the core that
-- they stand for as the run begins (`Origin`): where the pair was sound there is one.
use Rattle.std.specs.Prelude.{◌≡◌, ◌≢◌, ◌⊎◌, ℕ, suc, ◌+◌, ◌-◌, ◌%◌, ◌^◌, ◌<◌, ◌≤◌, Bool, true, false, ◌==◌, ◌&&◌, ◌||◌, not, nat_lt, List, [], ◌∷◌, length, Option, Some, None, IfSome, if◌then◌else◌}
use Rattle.bc_model.specs.Sector.{Image}
use Rattle.bc_model.specs.Pattern.{zeros}
use Rattle.bc_disk.specs.Device.{Content, DeviceModel, next_count, quiet, written, failed, settled}
use Rattle.bc_disk.specs.Disk.{DiskFacts, StandsFor}
use Rattle.bc_disk.specs.declared.disk.Device.{Device}
use Rattle.bc_disk.specs.declared.disk.Device.TheVariants.{Cache, Backing}
use Rattle.bc_disk.specs.declared.geometry.Geometry.{Geometry}
use Rattle.bc_facts.specs.Layout.{IsLayoutOf}
use Rattle.bc_facts.specs.Torn.{NoTornRecord}
use Rattle.bc_flight.specs.Flight.{InFlight, claim_of, claim_at}
use Rattle.bc_flight.specs.declared.candidate.Candidate.{Candidate}
use Rattle.bc_flight.specs.declared.claim.Claim.{Claim}
use Rattle.bc_flight.specs.declared.claim.Share.{Share}
use Rattle.bc_flight.specs.declared.claim.Share.TheVariants.{Shared, Exclusive}
use Rattle.bc_key.specs.Key.{start_of, pointer_of}
use Rattle.bc_key.specs.declared.ptr.Ptr.{Ptr}
use Rattle.bc_books.specs.Books as book
use Rattle.bc_data.specs.Seats as seats
use Rattle.bc_data.specs.Data as flow
use Rattle.bc_leaves.specs.Parts as parts
use Rattle.bc_leaves.specs.After.{has}
use Rattle.bc_known.specs.Laws.{IsSound}
use Rattle.bc_tree.specs.Spine.{Spine}
use Rattle.bc_journal.specs.Journal.{Journal}
use Rattle.bc_cache.specs.Slots.{NodeCache}
use Rattle.bc_events.specs.Run as core
use Rattle.bc_events.specs.Run.{Opening, State, seat_count, start}
use Rattle.bc_events.specs.Columns.{Call, call_by}
use Rattle.bc_events.specs.declared.event.Change.{Change}
use Rattle.bc_events.specs.declared.event.NewRoot.{NewRoot}
use Rattle.bc_events.specs.declared.event.Written.{Written}
use Rattle.bc_events.specs.declared.event.Written.TheVariants as written
use Rattle.bc_events.specs.declared.event.Failure.{Failure}
use Rattle.bc_events.specs.declared.event.Failure.TheVariants as failure
use Rattle.bc_events.specs.declared.event.UnpinKind.TheVariants as unpin
use Rattle.bc_events.specs.declared.event.Deed.{Deed}
use Rattle.bc_events.specs.declared.event.Deed.TheVariants as deed
use Rattle.bc_events.specs.declared.event.Event.{Event}
use Rattle.bc_needs.specs.Needs.{NeedsFrom}
use Rattle.bc_shares.specs.Shares.{books_of, journal_share}
use Rattle.bc_shares.specs.Touched.{touches_journal, touches_buckets, touches_spine, NamesChange}
use Rattle.bc_machine.specs.Plain.{bare_opening, no_parts}
use Rattle.bc_machine.specs.Containers.{IsInTree, IsSpineOf, IsSpinePartOf, AreBucketsOf, IsJournalOf, AreLeavesOf}
use Rattle.bc_machine.specs.declared.part.BackingPart.{BackingPart}
use Rattle.bc_machine.specs.declared.part.BucketsPart.{BucketsPart}
use Rattle.bc_machine.specs.declared.part.SpinePart.{SpinePart}
use Rattle.bc_machine.specs.declared.part.CorePart.{CorePart}
use Rattle.bc_machine.specs.declared.part.CorePart.TheVariants as part

-- ---- devices

-- what a device is beside its content
pub record Side : Type 0 where
  pub sectors : ℕ
  -- whether it tells what it holds
  pub told : Bool
  pub calls : ℕ
  pub faults : ℕ

abbrev pub model : Side → Content → DeviceModel
model x content = record {
  sectors = x.sectors;
  content = if x.told then Some content else None;
  calls = x.calls;
  faults = x.faults;
}

-- the content of data that begin at a sector of the device, before which this lies
abbrev pub behind : ℕ → Image → Content → Content
behind offset ahead c = record {
  reads = λ t. if nat_lt t offset then ahead t ∷ [] else c.reads (t - offset);
  leaves = λ t. if nat_lt t offset then ahead t ∷ [] else c.leaves (t - offset);
}

abbrev pub same_device : Device → Device → Bool
same_device Cache Cache = true
same_device Backing Backing = true
same_device a b = false

abbrev pub counted : Bool → Side → Side
counted failed x = record x {
  calls = next_count x.calls;
  faults = if failed then next_count x.faults else x.faults;
}

abbrev pub called : Device → Option Call → Side → Side
called device None x = x
called device (Some call) x = if same_device call.device device then counted call.failed x else x

-- what a call leaves of what a cache device held
abbrev pub held_after_failure : Content → Failure → Content
held_after_failure c (failure.CacheWrite at what values) = failed at values c
held_after_failure c x = c

abbrev pub held_after : Content → Deed → Content
held_after c (deed.CacheWrite at what values) = written at values c
held_after c deed.CacheBarrier = settled c
held_after c (deed.DeviceFault x) = held_after_failure c x
held_after c d = c

-- ---- the state

-- the parts in memory of a run with a cache, of which one over the backing device alone has none
pub record Begun : Type 0 where
  pub spine : Option SpinePart
  pub buckets : Option BucketsPart
  pub journal : Option Journal
  pub leaves : List NodeCache
  -- how many parts have leaves
  pub leaf_parts : ℕ

pub record World : Type 0 where
  pub opening : Opening
  pub now : State
  -- where the data of the backing device begin, and what lies before them
  pub offset : ℕ
  pub ahead : Image
  pub cache : Side
  pub backing : Side
  -- what the cache device holds, by the calls that were made
  pub held : Content
  -- the parts in memory with which the run began, and its events, the last one first
  pub begun : Begun
  pub log : List Event

-- both devices tell what they hold
abbrev pub is_told : World → Bool
is_told x = x.cache.told && x.backing.told

abbrev pub after : World → Event → World
after x e = record {
  opening = x.opening;
  now = core.after x.opening x.now e;
  offset = x.offset;
  ahead = x.ahead;
  cache = called Cache (call_by e.deed) x.cache;
  backing = called Backing (call_by e.deed) x.backing;
  held = held_after x.held e.deed;
  begun = x.begun;
  log = e ∷ x.log;
}

-- what seats do with data
abbrev pub data_of : World → flow.State
data_of x = x.now.machine.whole.flow

-- the run uses the backing device alone
abbrev pub is_plain : World → Bool
is_plain x = x.opening.machine.flow.plain

-- ---- openings of the core

-- An opening of the core: what it stands on, the parts that it gives, and the seq of the next node.
pub record Origin : Type 0 where
  pub opening : Opening
  pub parts : parts.State
  pub next_seq : ℕ

-- the state that these events leave from there, the last of which comes first
abbrev pub replay : Origin → List Event → State
replay o [] = start o.opening o.parts o.next_seq
replay o (e ∷ es) = core.after o.opening (replay o es) e

-- how many candidates these events noted
abbrev pub notes_candidate : Deed → Bool
notes_candidate (deed.Candidate candidate first count at) = true
notes_candidate d = false

abbrev pub candidates_noted : List Event → ℕ
candidates_noted [] = 0
candidates_noted (e ∷ es) =
    if notes_candidate e.deed then suc (candidates_noted es) else candidates_noted es

-- Candidates have the numbers from 0 on, in their order, so that none has the number of one before.
abbrev pub IsNumbered : List Event → Deed → Type 0
IsNumbered es (deed.Candidate candidate first count at) = candidate ≡ candidates_noted es
IsNumbered es d = Unit {0}

-- The buckets of what comes are among these, and no leaf that comes has a key but those of its sets.
pub record MakesNodes (st : parts.State) (buckets : List ℕ) : Type 0 where
  pub leaves : (k : ℕ) → (st.leaves k).role ≡ parts.Coming → has buckets (st.leaves k).bucket ≡ true
  pub inner_nodes : (x : ℕ) → (st.inner_nodes x).role ≡ parts.Coming
      → has buckets (st.inner_nodes x).bucket ≡ true
  pub bare : (k : ℕ) → (st.leaves k).role ≡ parts.Coming → (st.leaves k).pending ≡ []

-- An install names the leaves that leave and come, and makes the buckets of all that comes nodes: so
-- whoever writes a set of a node of the tree knows that nobody holds its bucket. What comes has
-- nothing pending, so that no part with leaves has to have it.
abbrev pub EndsItsChange : parts.State → Deed → Type 0
EndsItsChange st (deed.Install change come gone) =
    NamesChange st change × MakesNodes st come.items
EndsItsChange st d = Unit {0}

-- An event follows behind these in the core; one that ends a change of the tree does so for all of
-- it, and one that notes a candidate gives it the next number.
pub record Follows (w : Opening) (st : State) (es : List Event) (e : Event) : Type 0 where
  pub enabled : core.IsEnabled w st e
  pub names : EndsItsChange st.machine.whole.parts e.deed
  pub number : IsNumbered es e.deed

-- The premise on torn records, of one state: whatever the cache device may leave, no record that is
-- read there as a whole one is so by chance.
abbrev pub IsUntorn : Origin → State → Type 0
IsUntorn o st = (g : Geometry) → IsLayoutOf g o.opening.machine.layout
    → NoTornRecord g o.opening.machine.store.image st.machine.whole.store.places

-- Each of them follows behind those before it, and no torn record matched by chance on the way.
abbrev pub IsCourseOf : Origin → List Event → Type 0
IsCourseOf o [] = IsUntorn o (replay o [])
IsCourseOf o (e ∷ es) =
    Follows o.opening (replay o es) es e × IsUntorn o (replay o (e ∷ es)) × IsCourseOf o es

-- the state of a run as it is from that opening
abbrev pub seen_from : Origin → World → World
seen_from o x = record x { opening = o.opening; now = replay o x.log }

-- leaf parts, from the one of this number on, of so many
abbrev pub AreLeafParts : Opening → parts.State → (count part : ℕ) → List NodeCache → Type 0
AreLeafParts w st count part [] = Unit {0}
AreLeafParts w st count part (c ∷ cs) =
    AreLeavesOf w.machine st count part c × AreLeafParts w st count (suc part) cs

-- Each node that a run finds was read from the device: so it is none that the run wrote. And where
-- the tree has no sectors, no leaf that it can get has their keys.
pub record IsReadTree (o : Origin) : Type 0 where
  pub leaves : (k : ℕ) → (o.parts.leaves k).role ≢ parts.NoNode → (o.parts.leaves k).loaded ≡ true
  pub inner_nodes : (x : ℕ) → (o.parts.inner_nodes x).role ≢ parts.NoNode
      → (o.parts.inner_nodes x).loaded ≡ true
  pub beyond : (s : ℕ) → o.parts.end ≤ s → 2 ^ 32 ≤ o.opening.machine.flow.books.leaf s

-- the parts in memory stand for the opening's
pub record HasBegun (b : Begun) (o : Origin) : Type 0 where
  pub read : IsReadTree o
  pub spine : IfSome b.spine
      (IsSpinePartOf o.opening.machine (start o.opening o.parts o.next_seq).machine)
  pub buckets : IfSome b.buckets
      (AreBucketsOf o.opening.machine (book.opened o.opening.machine.flow.books))
  pub journal : IfSome b.journal (IsJournalOf o.opening.machine
      (journal_share (start o.opening o.parts o.next_seq).machine))
  pub needs : IfSome b.journal
      (λ j. NeedsFrom j.needed (start o.opening o.parts o.next_seq))
  pub leaves : AreLeafParts o.opening o.parts b.leaf_parts 0 b.leaves

-- the keys of each sector are in the leaf of the tree that has it
abbrev pub AreInSlots : Opening → parts.State → Type 0
AreInSlots w st = (k s : ℕ) → IsInTree (st.leaves k).role → parts.InRange (st.leaves k) s
    → w.machine.flow.books.leaf s ≡ k

-- A sound opening of both devices as they were when the run began, with these parts in memory.
pub record IsOrigin (x : World) (o : Origin) : Type 0 where
  pub with_cache : is_plain x ≡ false
  pub told : is_told x ≡ true
  pub cached : o.opening.machine.flow.plain ≡ false
  pub size : o.opening.machine.flow.books.size ≡ x.opening.machine.flow.books.size
  pub worker : (i : ℕ) → o.opening.worker i ≡ x.opening.worker i
  pub cache : (s : ℕ) → o.opening.machine.flow.cache s ≡ x.opening.machine.flow.cache s
  pub backing : (s : ℕ) → o.opening.machine.flow.backing s ≡ x.opening.machine.flow.backing s
  pub sound : IsSound o.opening.machine o.parts
  pub slots : AreInSlots o.opening o.parts
  -- buckets lie in the order of their numbers
  pub order : (s t : ℕ) → s ≤ t → o.opening.machine.flow.books.bucket s
      ≤ o.opening.machine.flow.books.bucket t
  -- and what lies behind a bucket is in a later one, also behind the last one of the device
  pub ends : 0 < o.opening.machine.layout.bucket_sectors → (q t : ℕ)
      → o.opening.machine.layout.first q + o.opening.machine.layout.bucket_sectors ≤ t
      → q < o.opening.machine.flow.books.bucket t
  -- no change of the tree is under way as a run begins
  pub calm : o.parts.change ≡ parts.NoChange
  pub begun : HasBegun x.begun o

-- The state of a run is seen as its events alone make it, and as it is from each such opening from
-- which the run so far is one.
pub record IsSeenFrom (o : Origin) (x y : World) : Type 0 where
  pub is : y ≡ seen_from o x
  pub origin : IsOrigin x o
  pub course : IsCourseOf o x.log

abbrev pub IsView : World → World → Type 0
IsView x y = (y ≡ x) ⊎ ((o : Origin) × IsSeenFrom o x y)

abbrev pub InEach : World → (World → Type 0) → Type 0
InEach x P = (y : World) → IsView x y → P y

abbrev pub CanFollow : World → Event → Type 0
CanFollow x e = Follows x.opening x.now x.log e

-- The event may happen: in a run over the backing device alone as its state is, and else from each
-- opening of the core from which the run so far is one. Of what a device that tells nothing holds,
-- the core says nothing.
pub record IsEnabled (x : World) (e : Event) : Type 0 where
  pub seat : core.IsSeat e.seat
  pub allowed : is_told x ≡ true → is_plain x ≡ true → CanFollow x e
  pub follows : (o : Origin) → IsOrigin x o → IsCourseOf o x.log → CanFollow (seen_from o x) e

-- ---- which parts an event changes

abbrev pub is_call_of : Device → Option Call → Bool
is_call_of device None = false
is_call_of device (Some call) = same_device call.device device

abbrev pub touches_flight : Deed → Bool
touches_flight (deed.Claim first count how) = true
touches_flight deed.Release = true
touches_flight (deed.Candidate candidate first count at) = true
touches_flight (deed.Settle leaf candidate keys) = true
touches_flight (deed.Unpin (unpin.Dead candidate)) = true
touches_flight d = false

-- one of these leaves lies in the part of this number, of so many
abbrev pub lies_in : (count part leaf : ℕ) → Bool
lies_in count part leaf = leaf % count == part

abbrev pub any_in : (count part : ℕ) → List ℕ → Bool
any_in count part [] = false
any_in count part (k ∷ ks) = lies_in count part k || any_in count part ks

-- A part has the leaves of the tree: so it stands for what it did whatever comes, until that is read.
abbrev pub change_in : (count part : ℕ) → Change → Bool
change_in count part c = any_in count part c.gone.items

abbrev pub write_in : (count part : ℕ) → Written → Bool
write_in count part (written.Set leaf) = lies_in count part leaf
write_in count part (written.Parent inner change) = change_in count part change
write_in count part what = false

abbrev pub root_in : (count part : ℕ) → Option NewRoot → Bool
root_in count part None = false
root_in count part (Some x) = change_in count part x.change

abbrev pub fault_in : (count part : ℕ) → Failure → Bool
fault_in count part (failure.CacheWrite at what values) = write_in count part what
fault_in count part x = false

-- the deed touches a leaf of that part
abbrev pub touches_leaves : (count part : ℕ) → Deed → Bool
touches_leaves count part (deed.InsertWrite leaf keys of first values) = lies_in count part leaf
touches_leaves count part (deed.Insert leaf keys form) = lies_in count part leaf
touches_leaves count part (deed.Settle leaf candidate keys) = lies_in count part leaf
touches_leaves count part (deed.CacheWrite at what values) = write_in count part what
touches_leaves count part (deed.Seal last_seq bucket rest new_root chain) =
    root_in count part new_root
touches_leaves count part (deed.Install change come gone) = change_in count part change
touches_leaves count part (deed.DeviceFault x) = fault_in count part x
touches_leaves count part d = false

-- Of so many parts, 0 is the spine, 1 the claims and candidates, 2 the buckets, 3 the journal, 4 the
-- cache device and 5 the backing device; then come the leaves.
abbrev pub changes : ℕ → Event → ℕ → Bool
changes n e k = if k == 0 then touches_spine e.deed
    else (if k == 1 then touches_flight e.deed
    else (if k == 2 then touches_buckets e.deed
    else (if k == 3 then touches_journal e.deed
    else (if k == 4 then is_call_of Cache (call_by e.deed)
    else (if k == 5 then is_call_of Backing (call_by e.deed)
    else touches_leaves (n - 6) (k - 6) e.deed)))))

-- ---- how a run begins

-- a device as it is, and what it holds
abbrev pub is_some_image : Option Image → Bool
is_some_image None = false
is_some_image (Some image) = true

abbrev pub image_of : Option Image → Image
image_of None = λ s. zeros
image_of (Some image) = image

abbrev pub side_of : DiskFacts → Side
side_of d = record {
  sectors = d.sectors;
  told = is_some_image d.holds;
  calls = d.calls;
  faults = d.faults;
}

-- a run that has no such device
abbrev pub no_device : DiskFacts
no_device = record {
  sectors = 0;
  holds = Some (λ s. zeros);
  may_leave = λ image. Unit {0};
  calls = 0;
  faults = 0;
}

-- the backing device, where its data begin, and how many sectors they are
pub record Data : Type 1 where
  pub device : DiskFacts
  pub offset : ℕ
  pub size : ℕ

abbrev pub opened : Bool → DiskFacts → Data → Begun → World
opened plain cache d begun = let w = bare_opening plain d.size (image_of cache.holds)
    (λ s. image_of d.device.holds (d.offset + s)) in record {
      opening = w;
      now = start w no_parts 0;
      offset = d.offset;
      ahead = image_of d.device.holds;
      cache = side_of cache;
      backing = side_of d.device;
      held = quiet (image_of cache.holds);
      begun = begun;
      log = [];
    }

-- ---- parts

abbrev pub share_of : Bool → Share
share_of true = Exclusive
share_of false = Shared

-- a candidate of the core, but for whether it is firm
pub record Kept : Type 0 where
  pub first : ℕ
  pub count : ℕ
  pub place : ℕ
  pub stands : Bool
  pub alive : Bool

abbrev pub kept_of : seats.Candidate → Kept
kept_of x = record {
  first = x.first;
  count = x.count;
  place = x.place;
  stands = x.stands;
  alive = x.alive;
}

-- the claim of a seat as the part has it
abbrev pub claim_in : ℕ → seats.Claim → Option Claim
claim_in n c = if c.count == 0 then None else Some (claim_at n c.first c.count (share_of c.exclusive))

-- A candidate is one of the core's that stands, of the key's range and place. It was killed where it
-- isn't alive any more.
pub record IsCandidateOf (x : Kept) (c : Candidate) : Type 0 where
  pub stands : x.stands ≡ true
  pub alive : x.alive ≡ not c.killed
  pub first : x.first ≡ start_of c.key
  pub count : x.count ≡ c.key.size
  pub some : 0 < c.key.size
  pub inside : c.key.size ≤ c.key.end
  pub place : (ptr : Ptr) × (pointer_of c.key ≡ Some ptr) × (ptr.offset ≡ x.place)

abbrev pub EachIsOf : (ℕ → Kept) → List Candidate → Type 0
EachIsOf kept [] = Unit {0}
EachIsOf kept (c ∷ cs) = IsCandidateOf (kept c.number) c × EachIsOf kept cs

-- one of these has this number
abbrev pub IsAmong : ℕ → List Candidate → Type 0
IsAmong n [] = ⊥
IsAmong n (c ∷ cs) = (c.number ≡ n) ⊎ IsAmong n cs

pub record AreCandidatesOf (cs : List Candidate) (kept : ℕ → Kept) : Type 0 where
  pub each : EachIsOf kept cs
  pub all : (n : ℕ) → (kept n).stands ≡ true → IsAmong n cs

-- The claims and the candidates are the core's. Which candidates a barrier of the backing device
-- made firm the part doesn't say: it isn't asked for at a barrier.
pub record IsFlightOf (f : InFlight) (x : World) : Type 0 where
  pub seats : f.seats ≡ seat_count
  pub claims : (n : ℕ) → claim_of n f.claims ≡ claim_in n ((data_of x).seats n).claim
  pub candidates : AreCandidatesOf f.candidates (λ n. kept_of ((data_of x).candidates n))
  pub next : f.next ≡ candidates_noted x.log

abbrev pub IsFlight : InFlight → World → Type 0
IsFlight f x = InEach x (IsFlightOf f)

-- ---- parts in memory

-- A part in memory stands for its share of the core's state, whatever sound opening the run goes on
-- from, as long as no torn record matched by chance.
abbrev pub FromEach : World → (Origin → State → Type 0) → Type 0
FromEach x P = (o : Origin) → IsOrigin x o → IsCourseOf o x.log → P o (replay o x.log)

-- the tree in memory
abbrev pub IsSpine : Spine → World → Type 0
IsSpine sp x = FromEach x (λ o st. IsSpineOf o.opening.machine st.machine.whole.parts sp)

-- with the number of the next new node, and whether it is at rest
abbrev pub IsSpinePart : SpinePart → World → Type 0
IsSpinePart p x = FromEach x (λ o st. IsSpinePartOf o.opening.machine st.machine p)

abbrev pub AreBuckets : BucketsPart → World → Type 0
AreBuckets p x = FromEach x (λ o st. AreBucketsOf o.opening.machine (books_of st.machine) p)

-- It needs each entry that a leaf waits for a key of.
pub record IsJournal (j : Journal) (x : World) : Type 0 where
  pub stands : FromEach x
      (λ o st. IsJournalOf o.opening.machine (journal_share st.machine) j)
  pub needs : FromEach x (λ o st. NeedsFrom j.needed st)

abbrev pub AreLeaves : ℕ → NodeCache → World → Type 0
AreLeaves part c x = FromEach x
    (λ o st. AreLeavesOf o.opening.machine st.machine.whole.parts x.begun.leaf_parts part c)

module _ {C B : Type 0} (cache_facts : C → DiskFacts) (backing_facts : B → DiskFacts) where
  pub record IsCache (c : C) (x : World) : Type 0 where
    pub stands : StandsFor (cache_facts c) (model x.cache x.held)

  -- the backing device, of whose sectors the data are a part
  pub record IsBackingOf (b : BackingPart B) (x : World) : Type 0 where
    pub stands : StandsFor (backing_facts b.disk)
        (model x.backing (behind x.offset x.ahead (data_of x).backing))
    pub offset : b.offset ≡ x.offset
    pub size : b.size ≡ x.opening.machine.flow.books.size
    pub inside : b.offset + b.size ≤ x.backing.sectors

  abbrev pub IsBacking : BackingPart B → World → Type 0
  IsBacking b x = InEach x (IsBackingOf b)

  -- a run over the backing device alone has claims and that device
  pub record IsAbsent (k : ℕ) (x : World) : Type 0 where
    pub not_flight : k ≢ 1
    pub not_backing : k ≢ 5
    pub plain : is_plain x ≡ true

  abbrev pub StandsAs : ℕ → CorePart C B → World → Type 0
  StandsAs k part.Absent x = IsAbsent k x
  StandsAs k (part.Spine p) x = (k ≡ 0) × IsSpinePart p x
  StandsAs k (part.Flight f) x = (k ≡ 1) × IsFlight f x
  StandsAs k (part.Buckets p) x = (k ≡ 2) × AreBuckets p x
  StandsAs k (part.Journal j) x = (k ≡ 3) × IsJournal j x
  StandsAs k (part.Cache c) x = (k ≡ 4) × IsCache c x
  StandsAs k (part.Backing b) x = (k ≡ 5) × IsBacking b x
  StandsAs k (part.Leaves c) x = (6 ≤ k) × AreLeaves (k - 6) c x

  abbrev pub cache_among : List (CorePart C B) → DiskFacts
  cache_among [] = no_device
  cache_among (part.Cache c ∷ ps) = cache_facts c
  cache_among (p ∷ ps) = cache_among ps

  -- there is no cache device among them
  abbrev pub are_plain : List (CorePart C B) → Bool
  are_plain [] = true
  are_plain (part.Cache c ∷ ps) = false
  are_plain (p ∷ ps) = are_plain ps

  abbrev pub data_among : List (CorePart C B) → Data
  data_among [] = record { device = no_device; offset = 0; size = 0 }
  data_among (part.Backing b ∷ ps) =
      record { device = backing_facts b.disk; offset = b.offset; size = b.size }
  data_among (p ∷ ps) = data_among ps

  abbrev pub spine_among : List (CorePart C B) → Option SpinePart
  spine_among [] = None
  spine_among (part.Spine p ∷ ps) = Some p
  spine_among (p ∷ ps) = spine_among ps

  abbrev pub buckets_among : List (CorePart C B) → Option BucketsPart
  buckets_among [] = None
  buckets_among (part.Buckets b ∷ ps) = Some b
  buckets_among (p ∷ ps) = buckets_among ps

  abbrev pub journal_among : List (CorePart C B) → Option Journal
  journal_among [] = None
  journal_among (part.Journal j ∷ ps) = Some j
  journal_among (p ∷ ps) = journal_among ps

  abbrev pub leaves_among : List (CorePart C B) → List NodeCache
  leaves_among [] = []
  leaves_among (part.Leaves c ∷ ps) = c ∷ leaves_among ps
  leaves_among (p ∷ ps) = leaves_among ps

  abbrev pub begun_with : List (CorePart C B) → Begun
  begun_with ps = record {
    spine = spine_among ps;
    buckets = buckets_among ps;
    journal = journal_among ps;
    leaves = leaves_among ps;
    leaf_parts = length ps - 6;
  }

  abbrev pub opening : List (CorePart C B) → World
  opening ps = opened (are_plain ps) (cache_among ps) (data_among ps) (begun_with ps)
