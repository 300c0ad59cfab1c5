-- What is in hand for a candidate's key, and behind it.
use Rattle.std.proofs.Common.{◌≡◌, ℕ, ◌+◌, ◌-◌, ◌%◌, ◌≤◌, true, Option, Some, None, sym, ap, ◌∙◌, subst, arith}
use Rattle.std.specs.Prelude.{IfNone, IfSome, Result, is_some, slice_get}
use Rattle.std.specs.declared.alloc.AllocError.{AllocError}
use Rattle.std.proofs.lemmas.Option.{slice_get_within}
use Rattle.bc_cache.proofs.Changed.{set_same}
use Rattle.bc_cache.specs.Slots.{HasLeaf as SlotHas, IsSlotOf, Misses, NodeCache}
use Rattle.bc_cache.specs.declared.slots.Cached.{Cached}
use Rattle.bc_disk.specs.Disk.{DiskFacts}
use Rattle.bc_fetch.specs.Fetch.{HasLeafFor, HasPart}
use Rattle.bc_flight.specs.Flight.{InFlight}
use Rattle.bc_journal.specs.Journal.{Journal}
use Rattle.bc_key.specs.declared.key.Key.{Key}
use Rattle.bc_parts.specs.Seat.{PartsView}
use Rattle.bc_room.specs.Room.{HasReserved}
use Rattle.bc_settle.specs.Settle.{CanSettleIn, HasPutSettled, HasSettledOr}
use Rattle.bc_settle.specs.bc_hand.Seats.{Works, empty, kinds, part_of, world}
use Rattle.bc_settle.specs.bc_hand.declared.hand.Hand.{Hand}
use Rattle.bc_settle.specs.bc_hand.declared.hand.LeafHand.{LeafHand}
use Rattle.bc_settle.specs.bc_machine.World.{AreBuckets, AreLeaves, IsFlight, IsJournal}
use Rattle.bc_settle.specs.bc_machine.declared.part.BucketsPart.{BucketsPart}
use Rattle.bc_settle.specs.bc_machine.declared.part.CorePart.{CorePart}
use Rattle.bc_settle.specs.declared.outcome.Outcome.{Outcome}
use Rattle.bc_settle.specs.declared.outcome.Outcome.TheVariants as outcome
use Rattle.bc_settle.proofs.of_bc_insert.Putting.{one_cached, one_some}
use Rattle.bc_settle.proofs.of_bc_insert.of_bc_hand.Knowing.{View}
use Rattle.bc_settled.specs.Room.{HasFour, HaveStood, IsReady, all_four}

pub if_some : {A : Type 0} (P Q : A → Type 0) (o : Option A) → ((a : A) → P a → Q a) → IfSome o P
    → IfSome o Q
if_some P Q None f h = tt
if_some P Q (Some a) f h = f a h

pub if_none : {A : Type 0} (P Q : Type 0) (o : Option A) → (P → Q) → IfNone o P → IfNone o Q
if_none P Q None f h = f h
if_none P Q (Some a) f h = tt

-- ---- the leaf that was found

module _ {C B : Type 0} (h : Hand C B) (number : ℕ) (leaves : LeafHand)
    (is : h.leaves ≡ Some leaves) (parts first count : ℕ)
    (four : HasFour h parts number first count)
  where
    in_slot : slice_get leaves.cache.slots four.slot ≡ Some (Some four.cached)
    in_slot = subst (λ (l : LeafHand). slice_get l.cache.slots four.slot
        ≡ Some (Some four.cached))
        (one_some h.leaves four.leaf.hand leaves four.leaf.is is) four.leaf.at

    has_it : SlotHas leaves.cache.slots four.slot number
    has_it = record { cached = four.cached; there = in_slot; number_is = four.leaf.number_is }

    pub is_there : Misses leaves.cache.slots number → ⊥
    is_there misses = misses four.slot has_it

    module _ (found : ℕ) (of : IsSlotOf leaves.cache.slots number found) where
      pub same_slot : IsSlotOf four.leaf.hand.cache.slots number four.slot
      same_slot = subst (λ (l : LeafHand). IsSlotOf l.cache.slots number four.slot)
          (one_some h.leaves leaves four.leaf.hand is four.leaf.is)
          (subst (λ s. IsSlotOf leaves.cache.slots number s) (sym (of.only four.slot has_it)) of)

      pub same_cached : (kept : Option Cached) (cached : Cached)
          → slice_get leaves.cache.slots found ≡ Some kept → kept ≡ Some cached
          → four.cached ≡ cached
      same_cached kept cached at is_some = one_cached (slice_get leaves.cache.slots found)
          four.cached
          cached (subst (λ s. slice_get leaves.cache.slots s ≡ Some (Some four.cached))
          (of.only four.slot has_it) in_slot) (at ∙ ap (λ (o : Option Cached). Some o) is_some)

      pub not_empty : (kept : Option Cached) → slice_get leaves.cache.slots found ≡ Some kept
          → kept ≡ None → ⊥
      not_empty kept at none = both (at ∙ ap (λ (o : Option Cached). Some o) none)
        where
          here : slice_get leaves.cache.slots found ≡ Some (Some four.cached)
          here = subst (λ s. slice_get leaves.cache.slots s ≡ Some (Some four.cached))
              (of.only four.slot has_it) in_slot

          both : slice_get leaves.cache.slots found ≡ Some None → ⊥
          both e = let same : Some None ≡ Some (Some four.cached) = sym e ∙ here in absurd (cc)

-- ---- before the key comes

module _ {C B : Type 0} (h : Hand C B) (parts number first count : ℕ)
    (four : HasFour h parts number first count) where
  -- a leaf is there for a reservation
  pub has_leaf : (leaves : LeafHand) × (slot : ℕ) × (h.leaves ≡ Some leaves)
      × SlotHas leaves.cache.slots slot number
  has_leaf = (
    four.leaf.hand,
    four.slot,
    four.leaf.is,
    record { cached = four.cached; there = four.leaf.at; number_is = four.leaf.number_is },
  )

  module _ (only : IsSlotOf four.leaf.hand.cache.slots number four.slot) (new : Hand C B)
      (more : ℕ) (result : Result (Unit {0}) AllocError) (r : HasReserved number more result h new)
    where
      abbrev slots_same : four.leaf.hand ≡ r.leaves
      slots_same = one_some h.leaves four.leaf.hand r.leaves four.leaf.is r.was

      -- the slot that was reserved is the leaf's
      slot_is : r.slot ≡ four.slot
      slot_is = only.only r.slot (record {
        cached = r.reserved.cached;
        there = subst (λ (l : LeafHand). slice_get l.cache.slots r.slot
            ≡ Some (Some r.reserved.cached))
            (sym slots_same) r.reserved.there;
        number_is = r.its;
      })

      cached_is : r.reserved.cached ≡ four.cached
      cached_is = one_cached (slice_get four.leaf.hand.cache.slots four.slot) r.reserved.cached
          four.cached
          (subst (λ s. slice_get four.leaf.hand.cache.slots s
          ≡ Some (Some r.reserved.cached)) slot_is
          (subst (λ (l : LeafHand). slice_get l.cache.slots r.slot ≡ Some (Some r.reserved.cached))
          (sym slots_same) r.reserved.there)) four.leaf.at

      abbrev roomier : Cached
      roomier = record r.reserved.cached { leaf = r.reserved.leaf }

      there : slice_get r.cache.slots r.slot ≡ Some (Some roomier)
      there = ap (λ (c : NodeCache). slice_get c.slots r.slot) r.reserved.is
          ∙ set_same r.leaves.cache.slots r.slot (Some roomier)
          (slice_get_within r.leaves.cache.slots r.slot (Some r.reserved.cached) r.reserved.there)

      can_in : IsReady four.cached four.journal → CanSettleIn new parts r.slot number roomier
      can_in ready = record {
        leaves = record r.leaves { cache = r.cache };
        is = ap (λ (x : Hand C B). x.leaves) r.is;
        its_part = ap (λ (l : LeafHand). l.part) (sym slots_same) ∙ four.its_part;
        there = there;
        number_is = r.its;
        free = ap (λ (c : Cached). c.held) cached_is ∙ ready.free;
        flight = four.flight;
        is_flight = ap (λ (x : Hand C B). x.flight) r.is ∙ four.is_flight;
        journal = four.journal;
        is_journal = ap (λ (x : Hand C B). x.journal) r.is ∙ four.is_journal;
        room = ready.room;
        numbered = ready.numbered;
        buckets = four.buckets;
        are_buckets = ap (λ (x : Hand C B). x.buckets) r.is ∙ four.are_buckets;
      }

      pub can_settle : IsReady four.cached four.journal
          → (slot : ℕ) × (cached : Cached) × CanSettleIn new parts slot number cached
      can_settle ready = (r.slot, roomier, can_in ready)

-- ---- which parts are in hand

module _ {C B : Type 0} where
  -- a hand with leaves alone, and then with these four
  pub four_kinds : (a b : Hand C B) (l : LeafHand) (f : InFlight) (k : BucketsPart) (j : Journal)
      → a.leaves ≡ Some l → b ≡ record (empty {C = C} {B = B}) {
        leaves = a.leaves;
        flight = Some f;
        buckets = Some k;
        journal = Some j;
      } → kinds b ≡ all_four l.part
  four_kinds a b l f k j is then = ap (λ (h : Hand C B). kinds h) then
      ∙ ap (λ (o : Option LeafHand). record (all_four 0) { leaves = part_of o }) is

  pub reserved_kinds : (number more : ℕ) (result : Result (Unit {0}) AllocError)
      (old new : Hand C B)
      → HasReserved number more result old new → kinds new ≡ kinds old
  reserved_kinds number more result old new r = ap (λ (h : Hand C B). kinds h) r.is
      ∙ ap (λ (o : Option LeafHand). record (kinds old) { leaves = part_of o }) (sym r.was)

  -- a key came in, and the same parts are in hand
  pub put_kinds : (before : ℕ) (old new : Hand C B) (slot : ℕ) (cached : Cached) (key : Key)
      (f : InFlight) (part : BucketsPart) (at count : ℕ) → old.flight ≡ Some f
      → old.buckets ≡ Some part
      → HasPutSettled before old new slot cached key f part at count → kinds new ≡ kinds old
  put_kinds before old new slot cached key f part at count is_flight are_buckets done =
      ap (λ (h : Hand C B). kinds h) done.is
      ∙ ap (λ (h : Hand C B). record (kinds h) { flight = true; buckets = true }) done.put.is
      ∙ ap (λ (o : Option LeafHand).
      record (kinds old) { leaves = part_of o; flight = true; journal = true; buckets = true })
      (sym done.put.was)
      ∙ ap (λ (o : Option Journal).
      record (kinds old) { flight = true; journal = is_some o; buckets = true })
      (sym done.put.was_journal)
      ∙ ap (λ (o : Option InFlight).
      record (kinds old) { flight = is_some o; buckets = true }) (sym is_flight)
      ∙ ap (λ (o : Option BucketsPart). record (kinds old) { buckets = is_some o })
      (sym are_buckets)

  -- whatever came of the step
  module _ (cache_facts : C → DiskFacts) (backing_facts : B → DiskFacts)
      (before parts leaf slot : ℕ) (cached : Cached) (old new : Hand C B)
      (can : CanSettleIn old parts slot leaf cached) (v w : View cache_facts backing_facts) where
    pub tried_kinds : (what : Outcome)
        → HasSettledOr cache_facts backing_facts what before leaf slot cached can.flight can.buckets
        old new v w → kinds new ≡ kinds old
    tried_kinds outcome.NoneDue done = ap (λ (h : Hand C B). kinds h) done.same
    tried_kinds (outcome.Settled n) done = put_kinds before old new slot cached done.key can.flight
        can.buckets _ _ can.is_flight can.are_buckets done.put
    tried_kinds (outcome.Left n why) done = ap (λ (h : Hand C B). kinds h) done.same

    pub tried_left : (what : Outcome) → HasSettledOr cache_facts backing_facts what before leaf slot
        cached can.flight can.buckets old new v w → v.promises ≤ w.promises + 1
    tried_left outcome.NoneDue done = let is = done.waited.is.promises in omega (arith, is)
    tried_left (outcome.Settled n) done = let is = done.did.is.promises in omega (arith, is)
    tried_left (outcome.Left n why) done = let is = done.waited.is.promises in omega (arith, is)

-- ---- a leaf that was had, and then the other three

pub has_four : {C B : Type 0} (a b : Hand C B) (parts number first count : ℕ)
    → HasLeafFor a number first count → HasPart a (6 + number % (parts - 6))
    → b.leaves ≡ a.leaves → (f : InFlight) × (b.flight ≡ Some f)
    → (k : BucketsPart) × (b.buckets ≡ Some k) → (j : Journal) × (b.journal ≡ Some j)
    → HasFour b parts number first count
has_four a b parts number first count has part same flight buckets journal = record {
  slot = has.slot;
  cached = has.cached;
  leaf = record {
    hand = has.has.hand;
    is = same ∙ has.has.is;
    at = has.has.at;
    number_is = has.has.number_is;
    from = has.has.from;
    end = has.has.end;
  };
  its_part = ap (λ (l : LeafHand). l.part)
      (one_some a.leaves has.has.hand part.hand has.has.is part.is) ∙ part.part_is;
  flight = flight.0;
  is_flight = flight.1;
  buckets = buckets.0;
  are_buckets = buckets.1;
  journal = journal.0;
  is_journal = journal.1;
}

-- ---- what is in hand stands for the state

module _ {C B : Type 0} (cache_facts : C → DiskFacts) (backing_facts : B → DiskFacts)
    (p : PartsView (CorePart C B)) (v : View cache_facts backing_facts) (h : Hand C B)
    (works : Works cache_facts backing_facts p v h) where
  pub leaves_stood : (l : LeafHand) → h.leaves ≡ Some l
      → AreLeaves (l.part - 6) l.cache (world cache_facts backing_facts v)
  leaves_stood l is = (subst (λ (o : Option LeafHand). IfSome o (λ l. (6 ≤ l.part)
      × AreLeaves (l.part - 6) l.cache (world cache_facts backing_facts v))) is
      works.stand.leaves).1

  pub flight_stood : (f : InFlight) → h.flight ≡ Some f
      → IsFlight f (world cache_facts backing_facts v)
  flight_stood f is = subst (λ (o : Option InFlight). IfSome o
      (λ f. IsFlight f (world cache_facts backing_facts v))) is works.stand.flight

  pub buckets_stood : (k : BucketsPart) → h.buckets ≡ Some k
      → AreBuckets k (world cache_facts backing_facts v)
  buckets_stood k is = subst (λ (o : Option BucketsPart). IfSome o
      (λ k. AreBuckets k (world cache_facts backing_facts v))) is works.stand.buckets

  pub journal_stood : (j : Journal) → h.journal ≡ Some j
      → IsJournal j (world cache_facts backing_facts v)
  journal_stood j is = subst (λ (o : Option Journal). IfSome o
      (λ j. IsJournal j (world cache_facts backing_facts v))) is works.stand.journal

  abbrev pub stood_for : (parts number first count : ℕ) → HasFour h parts number first count
      → HaveStood cache_facts backing_facts number v
  stood_for parts number first count four = record {
    part = four.leaf.hand.part - 6;
    leaves = four.leaf.hand.cache;
    leaves_stood = leaves_stood four.leaf.hand four.leaf.is;
    slot = four.slot;
    cached = four.cached;
    there = four.leaf.at;
    number_is = four.leaf.number_is;
    flight = four.flight;
    flight_stood = flight_stood four.flight four.is_flight;
    buckets = four.buckets;
    buckets_stood = buckets_stood four.buckets four.are_buckets;
    journal = four.journal;
    journal_stood = journal_stood four.journal four.is_journal;
  }

  abbrev pub stood_as : (parts slot number : ℕ) (cached : Cached)
      → CanSettleIn h parts slot number cached → HaveStood cache_facts backing_facts number v
  stood_as parts slot number cached can = record {
    part = can.leaves.part - 6;
    leaves = can.leaves.cache;
    leaves_stood = leaves_stood can.leaves can.is;
    slot = slot;
    cached = cached;
    there = can.there;
    number_is = can.number_is;
    flight = can.flight;
    flight_stood = flight_stood can.flight can.is_flight;
    buckets = can.buckets;
    buckets_stood = buckets_stood can.buckets can.are_buckets;
    journal = can.journal;
    journal_stood = journal_stood can.journal can.is_journal;
  }
