-- The way to a leaf, from an empty hand to the part with the leaf in it.
use Rattle.std.proofs.Common.{◌≡◌, inl, inr, ℕ, ◌+◌, ◌-◌, ◌%◌, ◌≤◌, [], ◌∷◌, false, Option, Some, None, refl, sym, ap, ◌∙◌, subst, arith}
use Rattle.std.specs.Prelude.{is_some, length, slice_get}
use Rattle.bc_cache.specs.Slots.{HasLeaf, IsOccupied, NodeCache}
use Rattle.bc_cache.specs.declared.slots.Cached.{Cached}
use Rattle.bc_sight.proofs.of_bc_deed.Sequence.{done_both, done_one, one_of}
use Rattle.bc_sight.specs.bc_deed.Flushed.{HasDone}
use Rattle.bc_disk.specs.Disk.{DiskFacts}
use Rattle.bc_disk.specs.declared.disk.Device.TheVariants as device
use Rattle.bc_events.specs.declared.event.Deed.{Deed}
use Rattle.bc_events.specs.declared.event.Deed.TheVariants as deed
use Rattle.bc_events.specs.declared.event.Failure.TheVariants as failure
use Rattle.bc_sight.proofs.of_bc_hand.Knowing.{View, m}
use Rattle.bc_sight.specs.bc_hand.Seats.{Did, IsCoreSeat, Kinds, Works, empty, part_of, world}
use Rattle.bc_sight.specs.bc_hand.declared.error.StepError.TheVariants as steps
use Rattle.bc_sight.specs.bc_hand.declared.hand.Hand.{Hand}
use Rattle.bc_sight.specs.bc_hand.declared.hand.LeafHand.{LeafHand}
use Rattle.bc_sight.specs.bc_machine.World.{AreLeaves, cache_among}
use Rattle.bc_sight.specs.bc_machine.declared.part.CorePart.{CorePart}
use Rattle.bc_parts.specs.Seat.{PartsView, Run}
use Rattle.bc_seats.specs.Seats.{Waited}
use Rattle.bc_spine.specs.declared.leaf.LeafRange.{LeafRange}
use Rattle.bc_fetch.specs.Fetch.{HasFetched, HasHad, HasLeafFor, HasPart, HasReadOne, HasShortLeaf, HasStoppedAt, HasTaken, HasTakenIn, IsInSpine, IsLeafStop, IsSameButLeaves, LiesOutside, OfBoth, OfLeaves, node_read}
use Rattle.bc_fetch.specs.declared.error.LeafError.{LeafError}
use Rattle.bc_fetch.specs.declared.error.LeafError.TheVariants as errors
use Rattle.bc_fetch.proofs.Fetching.{in_hand, its_number, its_part, leaf_count, spine_in_hand}

-- ---- the hand

pub spine_leaves : {C B : Type 0} (a b : Hand C B) (range : LeafRange)
    → b ≡ record a { leaves = b.leaves } → IsInSpine a range → IsInSpine b range
spine_leaves a b range is there = record {
  part = there.part;
  is = ap (λ (h : Hand _ _). h.spine) is ∙ there.is;
  range_in = there.range_in;
}

pub of_given : {C B : Type 0} (a b : Hand C B) (P : NodeCache → Type 0)
    → b ≡ record a { spine = None } → OfLeaves a P → OfLeaves b P
of_given a b P is of = (of.0, ap (λ (h : Hand _ _). h.leaves) is ∙ of.1, of.2)

pub occupied : {C B : Type 0} (h : Hand C B) (slot number : ℕ)
    → OfLeaves h (λ c. HasLeaf c.slots slot number) → OfLeaves h (λ c. IsOccupied c.slots slot)
occupied h slot number of = (of.0, of.1, (of.2.cached, of.2.there))

with_part_of : (o : Option LeafHand) (n : ℕ) → part_of o ≡ Some n
    → (l : LeafHand) × (o ≡ Some l) × (l.part ≡ n)
with_part_of None n is = absurd (cc)
with_part_of (Some l) n is = (l, refl, cc)

-- the part in hand is the same one still
part_kept : {C B : Type 0} (a b : Hand C B) (part : ℕ) → HasPart a part → IsSameButLeaves a b
    → HasPart b part
part_kept a b part has same =
    let one = with_part_of b.leaves part (ap (λ (k : Kinds). k.leaves) same.kinds_are
    ∙ ap part_of has.is ∙ ap Some has.part_is) in record {
      hand = one.0;
      is = one.1;
      part_is = one.2;
    }

pub part_given : {C B : Type 0} (a b c : Hand C B) (part : ℕ) → HasPart a part
    → IsSameButLeaves a b → c ≡ record b { spine = None } → HasPart c part
part_given a b c part has same is = let one = part_kept a b part has same in record {
  hand = one.hand;
  is = ap (λ (h : Hand _ _). h.leaves) is ∙ one.is;
  part_is = one.part_is;
}

spine_kept : {C B : Type 0} (a b : Hand C B) (range : LeafRange) → IsInSpine a range
    → IsSameButLeaves a b → IsInSpine b range
spine_kept a b range there same = record {
  part = there.part;
  is = ap (λ (h : Hand _ _). h.spine) same.rest ∙ there.is;
  range_in = there.range_in;
}

none_there : {A : Type 0} (o : Option A) → is_some o ≡ false → o ≡ None
none_there None is = refl
none_there (Some x) is = absurd (cc)

-- nothing else is in hand
pub rest_of : {C B : Type 0} (h1 h2 h3 h4 : Hand C B)
    → h1 ≡ record (empty {C = C} {B = B}) { spine = h1.spine }
    → h2 ≡ record h1 { leaves = h2.leaves } → IsSameButLeaves h2 h3
    → h4 ≡ record h3 { spine = None }
    → h4 ≡ record (empty {C = C} {B = B}) { leaves = h4.leaves }
rest_of {C} {B} h1 h2 h3 h4 g1 g2 same g4 =
    let none : h3.cache ≡ None = none_there h3.cache (ap (λ (k : Kinds). k.cache) same.kinds_are
    ∙ ap (λ (h : Hand C B). is_some h.cache) g2 ∙ ap (λ (h : Hand C B). is_some h.cache) g1) in
    g4 ∙ ap (λ (h : Hand C B). record h { spine = None }) same.rest
    ∙ ap (λ (h : Hand C B). record h { spine = None; leaves = h3.leaves; cache = h3.cache }) g2
    ∙ ap (λ (h : Hand C B). record h { spine = None; leaves = h3.leaves; cache = h3.cache }) g1
    ∙ ap (λ (o : Option C).
    record (empty {C = C} {B = B}) { leaves = h3.leaves; cache = o }) none
    ∙ ap (λ (l : Option LeafHand). record (empty {C = C} {B = B}) { leaves = l })
    (sym (ap (λ (h : Hand C B). h.leaves) g4))

some_same : {A : Type 0} (a b : A) (o : Option A) → o ≡ Some a → o ≡ Some b → a ≡ b
some_same a b o p q = cc

one_cached : (a b : Cached) (o : Option (Option Cached)) → o ≡ Some (Some a) → o ≡ Some (Some b)
    → b ≡ a
one_cached a b o p q = cc

-- a slot has the leaf with all sectors of the range
pub leaf_for : {C B : Type 0} (a b : Hand C B) (slot number first count : ℕ)
    → b ≡ record a { spine = None } → OfLeaves a (λ c. HasLeaf c.slots slot number)
    → OfLeaves b (λ c. (cached : Cached) × (slice_get c.slots slot ≡ Some (Some cached))
    × (cached.leaf.from ≤ first) × (first + count ≤ cached.leaf.end))
    → b ≡ record (empty {C = C} {B = B}) { leaves = b.leaves } → HasLeafFor b number first count
leaf_for a b slot number first count is of all rest =
    let same = some_same of.0 all.0 b.leaves (ap (λ (h : Hand _ _). h.leaves) is ∙ of.1) all.1 in
    let has : HasLeaf all.0.cache.slots slot number =
    subst (λ (l : LeafHand). HasLeaf l.cache.slots slot number) same of.2 in record {
      rest = rest;
      slot = slot;
      cached = all.2.0;
      has = record {
        hand = all.0;
        is = all.1;
        at = all.2.1;
        number_is = ap (λ (c : Cached). c.number) (one_cached has.cached all.2.0
            (slice_get all.0.cache.slots slot) has.there all.2.1) ∙ has.number_is;
        from = all.2.2;
        end = all.2.3;
      };
    }

-- ---- the slot

module _ {C B : Type 0} (cache_facts : C → DiskFacts) (backing_facts : B → DiskFacts) where
  -- the part was taken, then a slot of it, and then the tree was given back
  pub taken_in : (p : PartsView (CorePart C B)) (u v : View cache_facts backing_facts)
      (a b c : Hand C B) (part number slot : ℕ) → HasDone cache_facts backing_facts [] u v
      → Works cache_facts backing_facts p v a → HasPart a part → OfBoth a b (HasTaken slot number)
      → c ≡ record b { spine = None } → HasTakenIn cache_facts backing_facts part number c u
  taken_in p u v a b c part number slot way works has both is =
      let l = both.0 in record {
        at = v;
        way = way;
        was = l.cache;
        stood = subst (λ n. AreLeaves (n - 6) l.cache (world cache_facts backing_facts v))
            (its_number a part l has both.1)
            (in_hand cache_facts backing_facts p v a l works both.1).1;
        slot = slot;
        taken = of_given b c (HasTaken slot number l.cache) is both.2;
      }

-- ---- the way

module _ {C B : Type 0} (cache_facts : C → DiskFacts) (backing_facts : B → DiskFacts) where
  pub waited_done : (v w : View cache_facts backing_facts) → IsCoreSeat cache_facts backing_facts w
      → Waited (m cache_facts backing_facts) v w → HasDone cache_facts backing_facts [] v w
  waited_done v w seat waited =
      done_one cache_facts backing_facts None v w (record { is = waited; seat = seat })

  pub then_done : (u v w : View cache_facts backing_facts) → HasDone cache_facts backing_facts [] u v
      → HasDone cache_facts backing_facts [] v w → HasDone cache_facts backing_facts [] u w
  then_done u v w a b = done_both cache_facts backing_facts [] [] u v w a b

  -- a step between two waits
  around : (o : Option Deed) (u v w x : View cache_facts backing_facts)
      → HasDone cache_facts backing_facts [] u v → Did cache_facts backing_facts o v w
      → HasDone cache_facts backing_facts [] w x → HasDone cache_facts backing_facts (one_of o) u x
  around None u v w x a did b = then_done u v x a
      (then_done v w x (done_one cache_facts backing_facts None v w did) b)
  around (Some d) u v w x a did b = done_both cache_facts backing_facts [] (d ∷ []) u v x a
      (done_both cache_facts backing_facts (d ∷ []) [] v w x
      (done_one cache_facts backing_facts (Some d) v w did) b)

  module _ (h : Hand C B) (range : LeafRange) (v w : View cache_facts backing_facts) where
    pub fetched_left : HasFetched cache_facts backing_facts h range v w
        → v.promises ≤ w.promises + 1
    fetched_left (inl there) = let p = there.1.is.promises in omega (arith, p)
    fetched_left (inr missed) = let p = missed.1.is.promises in omega (arith, p)

    pub stopped_left : (sectors : ℕ) (e : LeafError)
        → IsLeafStop cache_facts backing_facts h range sectors e v w
        → v.promises ≤ w.promises + 1
    stopped_left sectors (errors.Step steps.Memory) (inl did) =
        let p = did.is.promises in omega (arith, p)
    stopped_left sectors (errors.Step steps.Memory) (inr did) =
        let p = did.is.promises in omega (arith, p)
    stopped_left sectors (errors.Step (steps.Fault d)) stop =
        let p = stop.1.is.promises in omega (arith, p)
    stopped_left sectors (errors.Step (steps.Halted d)) stop =
        let p = stop.1.is.promises in omega (arith, p)
    stopped_left sectors errors.Busy stop = let p = stop.1.is.promises in omega (arith, p)
    stopped_left sectors errors.Outside stop = let p = stop.1.is.promises in omega (arith, p)
    stopped_left sectors errors.Missing stop = absurd stop
    stopped_left sectors (errors.Node q e) stop = let p = stop.1.is.promises in omega (arith, p)

  -- the leaf and its part are in hand
  has_had : (p : PartsView (CorePart C B)) (v : View cache_facts backing_facts) (h : Hand C B)
      (range : LeafRange) (l : LeafHand) → Works cache_facts backing_facts p v h → IsInSpine h range
      → HasPart h (6 + range.number % (length p.run.start - 6)) → h.leaves ≡ Some l
      → HasHad cache_facts backing_facts range l.cache v
  has_had p v h range l works tree part is =
      let count = ap (λ n. range.number % n) (sym (leaf_count cache_facts backing_facts v)) in
      let its = its_part cache_facts backing_facts p v range.number l.part works.run
      (its_number h (6 + range.number % (length p.run.start - 6)) l part is) in record {
        spine = tree.part.spine;
        tree = spine_in_hand cache_facts backing_facts p v h tree.part works tree.is;
        range_in = tree.range_in;
        stood = subst (λ n. AreLeaves n l.cache (world cache_facts backing_facts v))
            (sym (count ∙ its)) (in_hand cache_facts backing_facts p v h l works is).1;
      }

  module _ (h : Hand C B) (range : LeafRange) (u v w x : View cache_facts backing_facts)
      (a : HasDone cache_facts backing_facts [] u v)
      (b : HasDone cache_facts backing_facts [] w x) where
    fetched_to : HasFetched cache_facts backing_facts h range v w
        → HasReadOne cache_facts backing_facts u w
    fetched_to (inl there) = inl (then_done u v w a
        (done_one cache_facts backing_facts None v w there.1))
    fetched_to (inr missed) = inr (
      range.ptr.offset,
      done_both cache_facts backing_facts [] (node_read range.ptr.offset ∷ []) u v w a
          (done_one cache_facts backing_facts (Some (node_read range.ptr.offset)) v w missed.1),
    )

    pub fetched_way : HasFetched cache_facts backing_facts h range v w
        → HasReadOne cache_facts backing_facts u x
    fetched_way (inl there) = inl (around None u v w x a there.1 b)
    fetched_way (inr missed) =
        inr (range.ptr.offset, around (Some (node_read range.ptr.offset)) u v w x a missed.1 b)

    module _ (p : PartsView (CorePart C B)) (works : Works cache_facts backing_facts p v h)
        (tree : IsInSpine h range)
        (part : HasPart h (6 + range.number % (length p.run.start - 6))) where
      pub stopped_way : (first count : ℕ) (e : LeafError)
          → IsLeafStop cache_facts backing_facts h range
          (cache_among cache_facts backing_facts p.run.start).sectors e v w
          → HasStoppedAt cache_facts backing_facts first count e u x
      stopped_way first count (errors.Step steps.Memory) (inl did) = inl (around None u v w x a did b)
      stopped_way first count (errors.Step steps.Memory) (inr did) =
          inr (range.ptr.offset, around (Some (node_read range.ptr.offset)) u v w x a did b)
      stopped_way first count (errors.Step (steps.Fault d)) stop = (
        stop.0,
        around (Some (deed.DeviceFault (failure.Read device.Cache))) u v w x a stop.1 b,
      )
      stopped_way first count (errors.Step (steps.Halted d)) stop = (
        w,
        then_done u v w a (done_one cache_facts backing_facts None v w stop.1),
        stop.0,
        b,
      )
      stopped_way first count errors.Busy stop = record {
        range = range;
        leaves = stop.0.0.cache;
        at = v;
        way = a;
        had = has_had p v h range stop.0.0 works tree part stop.0.1;
        now = w;
        did = done_one cache_facts backing_facts None v w stop.1;
        so = stop.0.2;
        then = b;
      }
      stopped_way first count errors.Outside stop = record {
        range = range;
        leaves = stop.0.0.cache;
        at = v;
        way = a;
        had = has_had p v h range stop.0.0 works tree part stop.0.1;
        now = w;
        did = done_one cache_facts backing_facts None v w stop.1;
        so = subst (λ (r : Run (CorePart C B)). LiesOutside stop.0.0.cache.geometry range.ptr.offset
            (cache_among cache_facts backing_facts r.start).sectors)
            (sym (stop.1.is.same.run ∙ works.run)) stop.0.2;
        then = b;
      }
      stopped_way first count errors.Missing stop = absurd stop
      stopped_way first count (errors.Node q e) stop = record {
        range = range;
        leaves = stop.0.0.cache;
        at = v;
        way = a;
        had = has_had p v h range stop.0.0 works tree part stop.0.1;
        now = w;
        did = done_one cache_facts backing_facts (Some (node_read range.ptr.offset)) v w stop.1;
        so = stop.0.2;
        then = b;
      }

      -- the leaf of a slot hasn't all sectors, though the tree's has
      pub short_way : (first count slot : ℕ) (k : Hand C B) → IsSameButLeaves h k
          → Works cache_facts backing_facts p w k → HasFetched cache_facts backing_facts h range v w
          → (range.from ≤ first) × (first + count ≤ range.end)
          → (of : OfLeaves k (λ c. HasLeaf c.slots slot range.number))
          → ((of.2.cached.leaf.from ≤ first) × (first + count ≤ of.2.cached.leaf.end) → ⊥)
          → HasShortLeaf cache_facts backing_facts first count u x
      short_way first count slot k same after did covers of short = record {
        range = range;
        covers = covers;
        leaves = of.0.cache;
        at = w;
        read = fetched_to did;
        had = has_had p w k range of.0 after (spine_kept h k range tree same)
            (part_kept h k (6 + range.number % (length p.run.start - 6)) part same) of.1;
        slot = slot;
        has = of.2;
        short = short;
        then = b;
      }
