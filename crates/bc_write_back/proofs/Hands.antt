-- What is in hand for keys, and behind them.
use Rattle.std.proofs.Common.{◌≡◌, ℕ, ◌+◌, ◌-◌, ◌%◌, ◌≤◌, List, [], ◌∷◌, true, Option, Some, None, Ok, sym, ap, ◌∙◌, subst, arith}
use Rattle.std.specs.Prelude.{All, IfNone, IfSome, Result, is_some, length, slice_get}
use Rattle.std.specs.declared.alloc.AllocError.{AllocError}
use Rattle.std.proofs.lemmas.List.Elements.{All-cons, All-head, All-nil, All-tail}
use Rattle.std.proofs.lemmas.Option.{slice_get_within}
use Rattle.bc_cache.proofs.Changed.{set_same}
use Rattle.bc_cache.specs.Slots.{HasLeaf as SlotHas, IsSlotOf, Misses, NodeCache}
use Rattle.bc_cache.specs.declared.slots.Cached.{Cached}
use Rattle.bc_disk.specs.Disk.{DiskFacts}
use Rattle.bc_fill.specs.declared.fill.Placed.{Placed}
use Rattle.bc_image.specs.Sound.{LiesWithin}
use Rattle.bc_journal.specs.Journal.{Journal}
use Rattle.bc_key.specs.Key.{IsExtent}
use Rattle.bc_key.specs.declared.key.Key.{Key}
use Rattle.bc_node.specs.Leaf.{AreWithin}
use Rattle.bc_parts.specs.Seat.{PartsView}
use Rattle.bc_request.specs.bc_fetch.Fetch.{HasLeafFor, HasPart}
use Rattle.bc_room.specs.Room.{HasReserved}
use Rattle.bc_stored.specs.bc_hand.Seats.{Works, empty, kinds, part_of, world}
use Rattle.bc_stored.specs.bc_hand.declared.hand.Hand.{Hand}
use Rattle.bc_stored.specs.bc_hand.declared.hand.LeafHand.{LeafHand}
use Rattle.bc_stored.specs.bc_insert.Insert.{CanPutIn}
use Rattle.bc_stored.specs.bc_insert.Write.{HasPutWrite}
use Rattle.bc_stored.specs.bc_machine.World.{AreLeaves, IsJournal}
use Rattle.bc_stored.specs.bc_machine.declared.part.BucketsPart.{BucketsPart}
use Rattle.bc_stored.specs.bc_machine.declared.part.CorePart.{CorePart}
use Rattle.bc_stored.specs.bc_place.Named.{AreKeysFor, sectors_of}
use Rattle.bc_stored.proofs.of_bc_hand.Knowing.{View}
use Rattle.bc_stored.proofs.of_bc_insert.Putting.{one_cached, one_some}
use Rattle.bc_write_back.specs.Room.{HasRoomFor, HasThree, IsShort, LacksRoomFor, all_three}
use Rattle.bc_write_back.specs.declared.error.Lack.{Lack}

pub if_some : {A : Type 0} (P Q : A → Type 0) (o : Option A) → ((a : A) → P a → Q a) → IfSome o P
    → IfSome o Q
if_some P Q None f h = tt
if_some P Q (Some a) f h = f a h

pub if_none : {A : Type 0} (P Q : Type 0) (o : Option A) → (P → Q) → IfNone o P → IfNone o Q
if_none P Q None f h = f h
if_none P Q (Some a) f h = tt

-- ---- the leaf that was found

module _ {C B : Type 0} (h : Hand C B) (number : ℕ) (leaves : LeafHand)
    (is : h.leaves ≡ Some leaves) (parts first count : ℕ)
    (three : HasThree h parts number first count)
  where
    in_slot : slice_get leaves.cache.slots three.slot ≡ Some (Some three.cached)
    in_slot = subst (λ (l : LeafHand). slice_get l.cache.slots three.slot
        ≡ Some (Some three.cached))
        (one_some h.leaves three.leaf.hand leaves three.leaf.is is) three.leaf.at

    has_it : SlotHas leaves.cache.slots three.slot number
    has_it = record { cached = three.cached; there = in_slot; number_is = three.leaf.number_is }

    pub is_there : Misses leaves.cache.slots number → ⊥
    is_there misses = misses three.slot has_it

    module _ (found : ℕ) (of : IsSlotOf leaves.cache.slots number found) where
      pub same_slot : IsSlotOf three.leaf.hand.cache.slots number three.slot
      same_slot = subst (λ (l : LeafHand). IsSlotOf l.cache.slots number three.slot)
          (one_some h.leaves leaves three.leaf.hand is three.leaf.is)
          (subst (λ s. IsSlotOf leaves.cache.slots number s) (sym (of.only three.slot has_it)) of)

      pub same_cached : (kept : Option Cached) (cached : Cached)
          → slice_get leaves.cache.slots found ≡ Some kept → kept ≡ Some cached
          → three.cached ≡ cached
      same_cached kept cached at is_some = one_cached (slice_get leaves.cache.slots found)
          three.cached
          cached (subst (λ s. slice_get leaves.cache.slots s ≡ Some (Some three.cached))
          (of.only three.slot has_it) in_slot) (at ∙ ap (λ (o : Option Cached). Some o) is_some)

      pub not_empty : (kept : Option Cached) → slice_get leaves.cache.slots found ≡ Some kept
          → kept ≡ None → ⊥
      not_empty kept at none = both (at ∙ ap (λ (o : Option Cached). Some o) none)
        where
          here : slice_get leaves.cache.slots found ≡ Some (Some three.cached)
          here = subst (λ s. slice_get leaves.cache.slots s ≡ Some (Some three.cached))
              (of.only three.slot has_it) in_slot

          both : slice_get leaves.cache.slots found ≡ Some None → ⊥
          both e = let same : Some None ≡ Some (Some three.cached) = sym e ∙ here in absurd (cc)

-- ---- before keys come

-- there are no more keys than sectors
pub keys_few : (first : ℕ) (ps : List Placed) (keys : List Key) → AreKeysFor first ps keys
    → All (λ (p : Placed). 1 ≤ p.count) ps → length keys ≤ sectors_of ps
keys_few first [] [] named some = omega arith
keys_few first [] (k ∷ ks) named some = absurd named
keys_few first (p ∷ ps) [] named some = absurd named
keys_few first (p ∷ ps) (k ∷ ks) named some =
    let one = All-head (λ (p : Placed). 1 ≤ p.count) p ps some in
    let rest = keys_few (first + p.count) ps ks named.1
    (All-tail (λ (p : Placed). 1 ≤ p.count) p ps some) in
    omega (arith, one, rest)

pub within_more : (first end from to : ℕ) → from ≤ first → end ≤ to → (keys : List Key)
    → AreWithin first end keys → AreWithin from to keys
within_more first end from to low high [] all = All-nil (LiesWithin 0 from to)
within_more first end from to low high (k ∷ ks) all =
    let one = All-head (LiesWithin 0 first end) k ks all in
    let a = one.0 in
    let b = one.1 in
    All-cons (LiesWithin 0 from to) k ks (omega (arith, a, low), omega (arith, b, high))
    (within_more first end from to low high ks (All-tail (LiesWithin 0 first end) k ks all))

module _ {C B : Type 0} (h : Hand C B) (parts number first count : ℕ)
    (three : HasThree h parts number first count) where
  -- a leaf is there for a reservation
  pub has_leaf : (leaves : LeafHand) × (slot : ℕ) × (h.leaves ≡ Some leaves)
      × SlotHas leaves.cache.slots slot number
  has_leaf = (
    three.leaf.hand,
    three.slot,
    three.leaf.is,
    record { cached = three.cached; there = three.leaf.at; number_is = three.leaf.number_is },
  )

  module _ (only : IsSlotOf three.leaf.hand.cache.slots number three.slot) (new : Hand C B)
      (more : ℕ) (u : Unit {0}) (r : HasReserved number more (Ok u) h new) where
    abbrev slots_same : three.leaf.hand ≡ r.leaves
    slots_same = one_some h.leaves three.leaf.hand r.leaves three.leaf.is r.was

    -- the slot that was reserved is the leaf's
    slot_is : r.slot ≡ three.slot
    slot_is = only.only r.slot (record {
      cached = r.reserved.cached;
      there = subst (λ (l : LeafHand). slice_get l.cache.slots r.slot
          ≡ Some (Some r.reserved.cached))
          (sym slots_same) r.reserved.there;
      number_is = r.its;
    })

    pub cached_is : r.reserved.cached ≡ three.cached
    cached_is = one_cached (slice_get three.leaf.hand.cache.slots three.slot) r.reserved.cached
        three.cached
        (subst (λ s. slice_get three.leaf.hand.cache.slots s
        ≡ Some (Some r.reserved.cached)) slot_is
        (subst (λ (l : LeafHand). slice_get l.cache.slots r.slot ≡ Some (Some r.reserved.cached))
        (sym slots_same) r.reserved.there)) three.leaf.at

    abbrev pub roomier : Cached
    roomier = record r.reserved.cached { leaf = r.reserved.leaf }

    abbrev leaves : LeafHand
    leaves = record r.leaves { cache = r.cache }

    pub there : slice_get r.cache.slots r.slot ≡ Some (Some roomier)
    there = ap (λ (c : NodeCache). slice_get c.slots r.slot) r.reserved.is
        ∙ set_same r.leaves.cache.slots r.slot (Some roomier)
        (slice_get_within r.leaves.cache.slots r.slot (Some r.reserved.cached) r.reserved.there)

    abbrev pub can_put : (keys : List Key) → HasRoomFor three.cached three.journal keys
        → length keys ≤ more → All IsExtent keys → AreWithin first (first + count) keys
        → CanPutIn new parts r.slot number roomier keys
    can_put keys has few extents within =
        let node = r.reserved.roomier.same in
        let from : r.reserved.leaf.from ≡ three.cached.leaf.from =
        node.from ∙ ap (λ (c : Cached). c.leaf.from) cached_is in
        let end : r.reserved.leaf.end ≡ three.cached.leaf.end =
        node.end ∙ ap (λ (c : Cached). c.leaf.end) cached_is in
        let low = three.leaf.from in
        let high = three.leaf.end in
        let room = r.reserved.room in
        record {
          leaves = leaves;
          is = ap (λ (x : Hand C B). x.leaves) r.is;
          its_part = ap (λ (l : LeafHand). l.part) (sym slots_same) ∙ three.its_part;
          can = record {
            there = there;
            number_is = r.its;
            spare = omega (arith, few, room);
            extents = extents;
            within = within_more first (first + count) r.reserved.leaf.from r.reserved.leaf.end
                (omega (arith, from, low)) (omega (arith, end, high)) keys within;
          };
          free = ap (λ (c : Cached). c.held) cached_is ∙ has.free;
          journal = three.journal;
          is_journal = ap (λ (x : Hand C B). x.journal) r.is ∙ three.is_journal;
          room = has.room;
          numbered = has.numbered;
          buckets = three.buckets;
          are_buckets = ap (λ (x : Hand C B). x.buckets) r.is ∙ three.are_buckets;
        }

    pub room_made : (keys : List Key) → HasRoomFor three.cached three.journal keys
        → length keys ≤ more → All IsExtent keys → AreWithin first (first + count) keys
        → (slot : ℕ) × (cached : Cached) × CanPutIn new parts slot number cached keys
    room_made keys has few extents within =
        (r.slot, roomier, can_put keys has few extents within)

-- ---- which parts are in hand

module _ {C B : Type 0} where
  -- a hand with leaves alone, and then with these three
  pub three : (a b : Hand C B) (l : LeafHand) (k : BucketsPart) (j : Journal) → a.leaves ≡ Some l
      → b ≡ record (empty {C = C} {B = B}) {
        leaves = a.leaves;
        buckets = Some k;
        journal = Some j;
      } → kinds b ≡ all_three l.part
  three a b l k j is then = ap (λ (h : Hand C B). kinds h) then
      ∙ ap (λ (o : Option LeafHand). record (all_three 0) { leaves = part_of o }) is

  pub reserved_kinds : (number more : ℕ) (result : Result (Unit {0}) AllocError)
      (old new : Hand C B)
      → HasReserved number more result old new → kinds new ≡ kinds old
  reserved_kinds number more result old new r = ap (λ (h : Hand C B). kinds h) r.is
      ∙ ap (λ (o : Option LeafHand). record (kinds old) { leaves = part_of o }) (sym r.was)

  -- keys came in, and the same parts are in hand
  pub put_kinds : (old new : Hand C B) (slot : ℕ) (cached : Cached) (keys : List Key)
      (ps : List Placed) → HasPutWrite old new slot cached keys ps → kinds new ≡ kinds old
  put_kinds old new slot cached keys ps write = ap (λ (h : Hand C B). kinds h) write.is
      ∙ ap (λ (h : Hand C B). record (kinds h) { buckets = true }) write.put.is
      ∙ ap (λ (o : Option LeafHand).
      record (kinds old) { leaves = part_of o; journal = true; buckets = true }) (sym write.put.was)
      ∙ ap (λ (o : Option Journal). record (kinds old) { journal = is_some o; buckets = true })
      (sym write.put.was_journal)
      ∙ ap (λ (o : Option BucketsPart). record (kinds old) { buckets = is_some o }) (sym write.was)

-- ---- a leaf that was had, and then the other two

pub has_three : {C B : Type 0} (a b : Hand C B) (parts number first count : ℕ)
    → HasLeafFor a number first count → HasPart a (6 + number % (parts - 6))
    → b.leaves ≡ a.leaves → (k : BucketsPart) × (b.buckets ≡ Some k)
    → (j : Journal) × (b.journal ≡ Some j) → HasThree b parts number first count
has_three a b parts number first count has part same buckets journal = record {
  slot = has.slot;
  cached = has.cached;
  leaf = record {
    hand = has.has.hand;
    is = same ∙ has.has.is;
    at = has.has.at;
    number_is = has.has.number_is;
    from = has.has.from;
    end = has.has.end;
  };
  its_part = ap (λ (l : LeafHand). l.part)
      (one_some a.leaves has.has.hand part.hand has.has.is part.is) ∙ part.part_is;
  buckets = buckets.0;
  are_buckets = buckets.1;
  journal = journal.0;
  is_journal = journal.1;
}

-- ---- what has no room

module _ {C B : Type 0} (cache_facts : C → DiskFacts) (backing_facts : B → DiskFacts) where
  pub lacks_room : (p : PartsView (CorePart C B)) (v : View cache_facts backing_facts)
      (h : Hand C B)
      (parts number first count : ℕ) (three : HasThree h parts number first count) (why : Lack)
      (ps : List Placed) (keys : List Key) → Works cache_facts backing_facts p v h
      → AreKeysFor first ps keys → IsShort why three.cached three.journal keys
      → LacksRoomFor cache_facts backing_facts why ps number first count v
  lacks_room p v h parts number first count three why ps keys works named short = record {
    part = three.leaf.hand.part - 6;
    leaves = three.leaf.hand.cache;
    leaves_stood = (subst (λ (o : Option LeafHand). IfSome o (λ l. (6 ≤ l.part)
        × AreLeaves (l.part - 6) l.cache (world cache_facts backing_facts v))) three.leaf.is
        works.stand.leaves).1;
    slot = three.slot;
    cached = three.cached;
    there = three.leaf.at;
    number_is = three.leaf.number_is;
    from = three.leaf.from;
    end = three.leaf.end;
    journal = three.journal;
    journal_stood = subst (λ (o : Option Journal). IfSome o
        (λ j. IsJournal j (world cache_facts backing_facts v))) three.is_journal
        works.stand.journal;
    keys = keys;
    named = named;
    short = short;
  }
