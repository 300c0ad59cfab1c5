-- The way from leaf to leaf, of a seat that has all numbers.
use Rattle.std.proofs.Common.{◌≡◌, ◌⊎◌, inl, inr, ℕ, ◌+◌, ◌-◌, ◌<◌, ◌≤◌, Bool, true, false, List, [], ◌∷◌, ◌++◌, Option, Some, refl, sym, ap, ◌∙◌, subst, arith}
use Rattle.std.specs.Bool.{MatchBool}
use Rattle.std.proofs.lemmas.Bool.{cases_lt}
use Rattle.std.specs.Prelude.{IfErr, IfOk, OnOk, Result, Ok, Err, fold, slice_get}
use Rattle.bc_cache.specs.Fetch.{IsLeafIn}
use Rattle.bc_cache.specs.Slots.{HasLeaf, IsSlotOf}
use Rattle.bc_cache.specs.declared.slots.Cached.{Cached}
use Rattle.bc_dirty_laws.proofs.Law.{law_beyond, law_inside, law_leaf, law_stays}
use Rattle.bc_dirty_laws.specs.Dirty.{AreCleanBelow, AreCleanFrom, HasDirtyMark, IsDirtyAt, IsNoneDirty, IsSomeDirty, TellsDirty}
use Rattle.bc_disk.specs.Disk.{DiskFacts}
use Rattle.bc_events.specs.declared.event.Deed.{Deed}
use Rattle.bc_events.specs.declared.event.Deed.TheVariants as deed
use Rattle.bc_events.specs.declared.event.Event.{Event}
use Rattle.bc_events.specs.declared.event.Failure.TheVariants as failure
use Rattle.bc_disk.specs.declared.disk.Device.TheVariants as device
use Rattle.bc_fetch.proofs.Fetching.{in_hand}
use Rattle.bc_fetch.proofs.of_bc_deed.Sequence.{done_both}
use Rattle.bc_fetch.proofs.of_bc_hand.Knowing.{View}
use Rattle.bc_fetch.specs.Fetch.{HasLeafFor, HasReadOne, HasShortLeaf, HasShortTree, HasStoppedAt, OfLeaves, node_read}
use Rattle.bc_fetch.specs.bc_deed.Flushed.{HasDone}
use Rattle.bc_fetch.specs.bc_hand.Seats.{IsCoreSeat, Works, by, empty, world}
use Rattle.bc_fetch.specs.bc_hand.declared.error.StepError.TheVariants as steps
use Rattle.bc_fetch.specs.bc_hand.declared.hand.Hand.{Hand}
use Rattle.bc_fetch.specs.bc_hand.declared.hand.LeafHand.{LeafHand}
use Rattle.bc_fetch.specs.bc_machine.World.{FromEach, World, after, opening, replay}
use Rattle.bc_fetch.specs.bc_machine.declared.part.BucketsPart.{BucketsPart}
use Rattle.bc_fetch.specs.bc_machine.declared.part.CorePart.{CorePart}
use Rattle.bc_node.specs.Leaf.{Leaf}
use Rattle.bc_fetch.specs.declared.error.LeafError.{LeafError}
use Rattle.bc_fetch.specs.declared.error.LeafError.TheVariants as errors
use Rattle.bc_parts.specs.Seat.{PartsView, Run}
use Rattle.bc_dirty.specs.Walk.{AreNodeReads, HasAsked, HasDirtySector, HasMarked, HasStoppedAsking, HasStoppedWalk, HasWalked, IsAlone, IsSeenIn, TellsDirt, TellsFrom}
use Rattle.bc_dirty.specs.declared.leaf.SeenLeaf.{SeenLeaf}
use Rattle.bc_dirty.proofs.Alone.{all_still, only_done}

-- ---- a test

pub none_told : (dirty : Bool) (x : World) → dirty ≡ false → TellsDirt dirty x
    → FromEach x IsNoneDirty
none_told true x is h = absurd (cc)
none_told false x is h = h

some_from : (first end : ℕ) (x : World) (b : Bool) → b ≡ true
    → TellsFrom first (record { dirty = b; end = end }) x → FromEach x IsSomeDirty
some_from first end x true is h = h
some_from first end x false is h = absurd (cc)

none_from : (first end : ℕ) (x : World) (b : Bool) → b ≡ false
    → TellsFrom first (record { dirty = b; end = end }) x
    → FromEach x (λ o st. (s : ℕ) → first ≤ s → s < end → ¬ (IsDirtyAt st s))
none_from first end x true is h = absurd (cc)
none_from first end x false is h = h

-- of a leaf with a dirty key
pub some_told : (first : ℕ) (seen : SeenLeaf) (x : World) → seen.dirty ≡ true
    → TellsFrom first seen x → TellsDirt true x
some_told first seen x is h = some_from first seen.end x seen.dirty is h

pub marked_yes : (p : BucketsPart) (b : Bool) → b ≡ true
    → MatchBool b (HasDirtyMark p.buckets) (¬ (HasDirtyMark p.buckets)) → HasDirtyMark p.buckets
marked_yes p true is h = h
marked_yes p false is h = absurd (cc)

pub marked_no : (p : BucketsPart) (b : Bool) → b ≡ false
    → MatchBool b (HasDirtyMark p.buckets) (¬ (HasDirtyMark p.buckets))
    → ¬ (HasDirtyMark p.buckets)
marked_no p true is h = absurd (cc)
marked_no p false is h = h

pub map_test : {P Q R S : Type 0} (b : Bool) → (P → R) → (Q → S) → MatchBool b P Q
    → MatchBool b R S
map_test true f g h = f h
map_test false f g h = g h

-- ---- a leaf in hand

pub one_hand : (a b : LeafHand) (o : Option LeafHand) → o ≡ Some a → o ≡ Some b → b ≡ a
one_hand a b o p q = cc

one_cached : (a b : Cached) (o : Option (Option Cached)) → o ≡ Some (Some a) → o ≡ Some (Some b)
    → b ≡ a
one_cached a b o p q = cc

-- the leaf that was found in a slot is the one that another slot is said to have
pub seen_at : (slots : List (Option Cached)) (found slot number : ℕ) (leaf : Leaf) (seen : SeenLeaf)
    → IsSlotOf slots number found → HasLeaf slots slot number → IsLeafIn slots found leaf
    → seen.end ≡ leaf.end
    → MatchBool seen.dirty (HasDirtySector leaf) (¬ (HasDirtySector leaf))
    → IsSeenIn slots slot number seen
seen_at slots found slot number leaf seen is has at end dirty =
    let same : slot ≡ found = is.only slot has in
    let one = one_cached at.0 is.has.cached (slice_get slots found) at.1 is.has.there in record {
      cached = at.0;
      there = subst (λ n. slice_get slots n ≡ Some (Some at.0)) (sym same) at.1;
      number_is = sym (ap (λ (x : Cached). x.number) one) ∙ is.has.number_is;
      end = end ∙ ap (λ (l : Leaf). l.end) (sym at.2);
      dirty = subst (λ (l : Leaf). MatchBool seen.dirty (HasDirtySector l)
          (¬ (HasDirtySector l))) (sym at.2) dirty;
    }

-- the slot has the leaf of that number
pub in_slot : {C B : Type 0} (h : Hand C B) (number first count : ℕ)
    → (has : HasLeafFor h number first count) → OfLeaves h (λ c. HasLeaf c.slots has.slot number)
in_slot h number first count has = (
  has.has.hand,
  has.has.is,
  record { cached = has.cached; there = has.has.at; number_is = has.has.number_is },
)

-- what was seen of it is the leaf that has the sectors
pub seen_leaf : {C B : Type 0} (h : Hand C B) (number first count : ℕ) (seen : SeenLeaf)
    (has : HasLeafFor h number first count)
    → OfLeaves h (λ c. IsSeenIn c.slots has.slot number seen)
    → (seen.end ≡ has.cached.leaf.end)
    × MatchBool seen.dirty (HasDirtySector has.cached.leaf) (¬ (HasDirtySector has.cached.leaf))
seen_leaf h number first count seen has of =
    let hand = one_hand has.has.hand of.0 h.leaves has.has.is of.1 in
    let same : of.2.cached ≡ has.cached = one_cached has.cached of.2.cached
    (slice_get has.has.hand.cache.slots has.slot) has.has.at
    (subst (λ (l : LeafHand). slice_get l.cache.slots has.slot ≡ Some (Some of.2.cached)) hand
    of.2.there) in
    subst (λ (x : Cached). (seen.end ≡ x.leaf.end)
    × MatchBool seen.dirty (HasDirtySector x.leaf) (¬ (HasDirtySector x.leaf))) same
    (of.2.end, of.2.dirty)

module _ {C B : Type 0} (cache_facts : C → DiskFacts) (backing_facts : B → DiskFacts) where
  -- so it tells of its sectors from that one on
  pub tells_from : (p : PartsView (CorePart C B)) (v : View cache_facts backing_facts)
      (h : Hand C B) (number first : ℕ) (seen : SeenLeaf) → Works cache_facts backing_facts p v h
      → (has : HasLeafFor h number first 1)
      → OfLeaves h (λ c. IsSeenIn c.slots has.slot number seen)
      → TellsFrom first seen (world cache_facts backing_facts v)
  tells_from p v h number first seen works has of =
      let is = seen_leaf h number first 1 seen has of in
      let x = world cache_facts backing_facts v in
      let here = in_hand cache_facts backing_facts p v h has.has.hand works has.has.is in
      let told : FromEach x (λ o st. TellsDirty has.cached.leaf st) =
      law_leaf x (has.has.hand.part - 6) has.has.hand.cache has.slot has.cached here.1 has.has.at in
      let low = has.has.from in
      let end = is.0 in
      map_test seen.dirty
      (λ some o origin course. (some.0, (told o origin course).dirty some.0 some.1))
      (λ none o origin course s first_le lt at. none (
        s,
        (told o origin course).all s
            (omega (arith, low, first_le)) (omega (arith, end, lt)) at,
      )) is.1

  pub same_world : (v w : View cache_facts backing_facts) → w.run ≡ v.run → w.seen ≡ v.seen
      → world cache_facts backing_facts w ≡ world cache_facts backing_facts v
  same_world v w run seen = ap (λ (r : Run (CorePart C B)).
      fold after (opening cache_facts backing_facts r.start) w.seen) run
      ∙ ap (λ (es : List Event). fold after (opening cache_facts backing_facts v.run.start) es) seen

  -- ---- reads

  pub no_deed : (v w : View cache_facts backing_facts) → IsAlone cache_facts backing_facts v
      → HasDone cache_facts backing_facts [] v w → IsCoreSeat cache_facts backing_facts w
      → world cache_facts backing_facts w ≡ world cache_facts backing_facts v
  no_deed v w all done seat = only_done cache_facts backing_facts v w [] all done seat

  -- they leave all keys as they are
  clean_read : (v w : View cache_facts backing_facts) (n : ℕ) → IsAlone cache_facts backing_facts v
      → HasReadOne cache_facts backing_facts v w → IsCoreSeat cache_facts backing_facts w
      → FromEach (world cache_facts backing_facts v) (AreCleanBelow n)
      → FromEach (world cache_facts backing_facts w) (AreCleanBelow n)
  clean_read v w n all (inl done) seat h = subst (λ (x : World). FromEach x (AreCleanBelow n))
      (sym (no_deed v w all done seat)) h
  clean_read v w n all (inr (at, done)) seat h =
      subst (λ (x : World). FromEach x (AreCleanBelow n))
      (sym (only_done cache_facts backing_facts v w (node_read at ∷ []) all done seat))
      ((law_stays (world cache_facts backing_facts v) (by v.first (node_read at)) refl).below n h)

  pub clean_next : (v w : View cache_facts backing_facts) (first : ℕ) (seen : SeenLeaf)
      → IsAlone cache_facts backing_facts v → HasReadOne cache_facts backing_facts v w
      → IsCoreSeat cache_facts backing_facts w
      → FromEach (world cache_facts backing_facts v) (AreCleanBelow first)
      → seen.dirty ≡ false → TellsFrom first seen (world cache_facts backing_facts w)
      → FromEach (world cache_facts backing_facts w) (AreCleanBelow seen.end)
  clean_next v w first seen all read seat h is told o origin course s lt at =
      let before = clean_read v w first all read seat h in
      let more = none_from first seen.end (world cache_facts backing_facts w) seen.dirty is told in
      elim (cases_lt s first) [
        | inl low ↦ before o origin course s low at
        | inr high ↦ more o origin course s high lt at
      ]

  -- ---- the ways

  pub read_after : (u v w : View cache_facts backing_facts) → HasDone cache_facts backing_facts [] u v
      → HasReadOne cache_facts backing_facts v w → HasReadOne cache_facts backing_facts u w
  read_after u v w a (inl done) = inl (done_both cache_facts backing_facts [] [] u v w a done)
  read_after u v w a (inr (at, done)) =
      inr (at, done_both cache_facts backing_facts [] (node_read at ∷ []) u v w a done)

  pub read_before : (u v w : View cache_facts backing_facts)
      → HasReadOne cache_facts backing_facts u v → HasDone cache_facts backing_facts [] v w
      → HasReadOne cache_facts backing_facts u w
  read_before u v w (inl done) b = inl (done_both cache_facts backing_facts [] [] u v w done b)
  read_before u v w (inr (at, done)) b =
      inr (at, done_both cache_facts backing_facts (node_read at ∷ []) [] u v w done b)

  pub stopped_after : (u v w : View cache_facts backing_facts) (first count : ℕ) (e : LeafError)
      → HasDone cache_facts backing_facts [] u v
      → HasStoppedAt cache_facts backing_facts first count e v w
      → HasStoppedAt cache_facts backing_facts first count e u w
  stopped_after u v w first count (errors.Step steps.Memory) a stop = read_after u v w a stop
  stopped_after u v w first count (errors.Step (steps.Fault d)) a stop = (
    stop.0,
    done_both cache_facts backing_facts []
        (deed.DeviceFault (failure.Read device.Cache) ∷ []) u v w a stop.1,
  )
  stopped_after u v w first count (errors.Step (steps.Halted d)) a stop = (
    stop.0,
    done_both cache_facts backing_facts [] [] u v stop.0 a stop.1,
    stop.2,
    stop.3,
  )
  stopped_after u v w first count errors.Busy a stop = record {
    range = stop.range;
    leaves = stop.leaves;
    at = stop.at;
    way = done_both cache_facts backing_facts [] [] u v stop.at a stop.way;
    had = stop.had;
    now = stop.now;
    did = stop.did;
    so = stop.so;
    then = stop.then;
  }
  stopped_after u v w first count errors.Outside a stop = record {
    range = stop.range;
    leaves = stop.leaves;
    at = stop.at;
    way = done_both cache_facts backing_facts [] [] u v stop.at a stop.way;
    had = stop.had;
    now = stop.now;
    did = stop.did;
    so = stop.so;
    then = stop.then;
  }
  stopped_after u v w first count errors.Missing a (inl short) = inl (record {
    at = short.at;
    way = done_both cache_facts backing_facts [] [] u v short.at a short.way;
    spine = short.spine;
    tree = short.tree;
    shape = short.shape;
    ends = short.ends;
    then = short.then;
  })
  stopped_after u v w first count errors.Missing a (inr short) = inr (record {
    range = short.range;
    covers = short.covers;
    leaves = short.leaves;
    at = short.at;
    read = read_after u v short.at a short.read;
    had = short.had;
    slot = short.slot;
    has = short.has;
    short = short.short;
    then = short.then;
  })
  stopped_after u v w first count (errors.Node q e) a stop = record {
    range = stop.range;
    leaves = stop.leaves;
    at = stop.at;
    way = done_both cache_facts backing_facts [] [] u v stop.at a stop.way;
    had = stop.had;
    now = stop.now;
    did = stop.did;
    so = stop.so;
    then = stop.then;
  }

  both_reads : (xs ys : List Deed) → AreNodeReads xs → AreNodeReads ys → AreNodeReads (xs ++ ys)
  both_reads [] ys a b = b
  both_reads (x ∷ xs) ys a b = (a.0, both_reads xs ys a.1 b)

  pub walked_none : (v w : View cache_facts backing_facts) → HasDone cache_facts backing_facts [] v w
      → HasWalked cache_facts backing_facts v w
  walked_none v w done = record { deeds = []; reads = tt; done = done }

  pub walked_on : (u v w : View cache_facts backing_facts) → HasWalked cache_facts backing_facts u v
      → HasReadOne cache_facts backing_facts v w → HasWalked cache_facts backing_facts u w
  walked_on u v w a (inl done) = record {
    deeds = a.deeds ++ [];
    reads = both_reads a.deeds [] a.reads tt;
    done = done_both cache_facts backing_facts a.deeds [] u v w a.done done;
  }
  walked_on u v w a (inr (at, done)) = record {
    deeds = a.deeds ++ (node_read at ∷ []);
    reads = both_reads a.deeds (node_read at ∷ []) a.reads ((at, refl), tt);
    done = done_both cache_facts backing_facts a.deeds (node_read at ∷ []) u v w a.done done;
  }

  pub walked_after : (u v w : View cache_facts backing_facts)
      → HasDone cache_facts backing_facts [] u v → HasWalked cache_facts backing_facts v w
      → HasWalked cache_facts backing_facts u w
  walked_after u v w a b = record {
    deeds = b.deeds;
    reads = b.reads;
    done = done_both cache_facts backing_facts [] b.deeds u v w a b.done;
  }

  -- ---- the end of the tree

  -- the way to where no leaf was
  pub missing_read : (v w : View cache_facts backing_facts) (first : ℕ)
      → HasStoppedAt cache_facts backing_facts first 1 errors.Missing v w
      → HasReadOne cache_facts backing_facts v w
  missing_read v w first (inl short) =
      inl (done_both cache_facts backing_facts [] [] v short.at w short.way short.then)
  missing_read v w first (inr short) = read_before v short.at w short.read short.then

  -- no leaf begins with that sector and ends before the one behind it
  ends_there : (first : ℕ) (end : ℕ) → first < end → end < first + 1 → ⊥
  ends_there first end a b = omega (arith, a, b)

  -- from an opening a slot has just the leaf that the tree has
  no_short : (v w : View cache_facts backing_facts) (first : ℕ)
      → (short : HasShortLeaf cache_facts backing_facts first 1 v w)
      → FromEach (world cache_facts backing_facts short.at) (λ o st. ⊥)
  no_short v w first short o is course =
      let st = replay o (world cache_facts backing_facts short.at).log in
      let ranged = (short.had.tree o is course).leaves short.range short.had.range_in in
      let slotted = ((short.had.stood o is course).leaves short.slot short.has.cached
      short.has.there).at in
      let from = sym slotted.first ∙ ap (λ k. (st.machine.whole.parts.leaves k).first)
      short.has.number_is ∙ ranged.first in
      let end = sym slotted.end_is ∙ ap (λ k. (st.machine.whole.parts.leaves k).end)
      short.has.number_is ∙ ranged.end_is in
      let low = short.covers.0 in
      let high = short.covers.1 in
      short.short (omega (arith, from, low), omega (arith, end, high))

  pub clean_missing : (v w : View cache_facts backing_facts) (first : ℕ)
      → IsAlone cache_facts backing_facts v → IsCoreSeat cache_facts backing_facts w
      → HasStoppedAt cache_facts backing_facts first 1 errors.Missing v w
      → FromEach (world cache_facts backing_facts v) (AreCleanBelow first)
      → FromEach (world cache_facts backing_facts w) IsNoneDirty
  clean_missing v w first all seat stop h =
      let before = clean_read v w first all (missing_read v w first stop) seat h in
      let rest = behind stop in
      λ o origin course s at. elim (cases_lt s first) [
        | inl low ↦ before o origin course s low at
        | inr high ↦ rest o origin course s high at
      ]
    where
      short_tree : (short : HasShortTree cache_facts backing_facts first 1 v w)
          → FromEach (world cache_facts backing_facts short.at) (AreCleanFrom first)
      short_tree short o origin course s high at = elim short.ends [
        | inl end ↦ law_beyond (world cache_facts backing_facts short.at) short.spine short.tree o
            origin course s (omega (arith, end, high)) at
        | inr early ↦ absurd (ends_there first early.0.end early.2.1 early.3)
      ]

      behind : HasStoppedAt cache_facts backing_facts first 1 errors.Missing v w
          → FromEach (world cache_facts backing_facts w) (AreCleanFrom first)
      behind (inl short) = subst (λ (x : World). FromEach x (AreCleanFrom first))
          (sym (no_deed short.at w (all_still cache_facts backing_facts v short.at [] all
          short.way) short.then seat)) (short_tree short)
      behind (inr short) = subst (λ (x : World). FromEach x (AreCleanFrom first))
          (sym (no_deed short.at w (local_all short.at short.read) short.then seat))
          (λ o origin course s high at. absurd (no_short v w first short o origin course))
        where
          local_all : (at : View cache_facts backing_facts)
              → HasReadOne cache_facts backing_facts v at → IsAlone cache_facts backing_facts at
          local_all at (inl done) = all_still cache_facts backing_facts v at [] all done
          local_all at (inr (where_, done)) = all_still cache_facts backing_facts v at
              (node_read where_ ∷ []) all done

  -- ---- up to the end of the data

  pub clean_all : (v : View cache_facts backing_facts) (first size : ℕ)
      → (world cache_facts backing_facts v).opening.machine.flow.books.size ≡ size → size ≤ first
      → FromEach (world cache_facts backing_facts v) (AreCleanBelow first)
      → FromEach (world cache_facts backing_facts v) IsNoneDirty
  clean_all v first size is high h o origin course s at = elim (cases_lt s first) [
    | inl low ↦ h o origin course s low at
    | inr le ↦ law_inside (world cache_facts backing_facts v) o origin course s
        (omega (arith, is, high, le)) at
  ]

  -- the size stays
  pub size_read : (v w : View cache_facts backing_facts) → IsAlone cache_facts backing_facts v
      → HasReadOne cache_facts backing_facts v w → IsCoreSeat cache_facts backing_facts w
      → (world cache_facts backing_facts w).opening.machine.flow.books.size
      ≡ (world cache_facts backing_facts v).opening.machine.flow.books.size
  size_read v w all (inl done) seat = ap (λ (x : World). x.opening.machine.flow.books.size)
      (no_deed v w all done seat)
  size_read v w all (inr (at, done)) seat = ap (λ (x : World). x.opening.machine.flow.books.size)
      (only_done cache_facts backing_facts v w (node_read at ∷ []) all done seat)

  pub all_read : (v w : View cache_facts backing_facts) → IsAlone cache_facts backing_facts v
      → HasReadOne cache_facts backing_facts v w → IsAlone cache_facts backing_facts w
  all_read v w all (inl done) = all_still cache_facts backing_facts v w [] all done
  all_read v w all (inr (at, done)) =
      all_still cache_facts backing_facts v w (node_read at ∷ []) all done

  -- ---- the walk

  -- what was seen so far
  pub record IsUnderWay (p : PartsView (CorePart C B)) (u v : View cache_facts backing_facts)
      (first size : ℕ) : Type 0 where
    pub works : Works cache_facts backing_facts p v empty
    pub all : IsAlone cache_facts backing_facts v
    pub left : u.promises ≤ v.promises
    pub walked : HasWalked cache_facts backing_facts u v
    pub clean : FromEach (world cache_facts backing_facts v) (AreCleanBelow first)
    pub size_is : (world cache_facts backing_facts v).opening.machine.flow.books.size ≡ size

  pub under_way : (p : PartsView (CorePart C B)) (u v w : View cache_facts backing_facts)
      (first size : ℕ) (seen : SeenLeaf) → IsUnderWay p u v first size
      → Works cache_facts backing_facts p w empty → v.promises ≤ w.promises
      → HasReadOne cache_facts backing_facts v w → seen.dirty ≡ false
      → TellsFrom first seen (world cache_facts backing_facts w)
      → IsUnderWay p u w seen.end size
  under_way p u v w first size seen before works more read none told = record {
    works = works;
    all = all_read v w before.all read;
    left = let a = before.left in omega (arith, a, more);
    walked = walked_on u v w before.walked read;
    clean = clean_next v w first seen before.all read works.seat before.clean none told;
    size_is = size_read v w before.all read works.seat ∙ before.size_is;
  }

  -- ---- what was done in all

  abbrev pub HasGoneOn : View cache_facts backing_facts → View cache_facts backing_facts → Type 0
  HasGoneOn v w = (ds : List Deed) × HasDone cache_facts backing_facts ds v w

  both_ways : (u v w : View cache_facts backing_facts) → HasGoneOn u v → HasGoneOn v w
      → HasGoneOn u w
  both_ways u v w a b =
      (a.0 ++ b.0, done_both cache_facts backing_facts a.0 b.0 u v w a.1 b.1)

  read_way : (v w : View cache_facts backing_facts) → HasReadOne cache_facts backing_facts v w
      → HasGoneOn v w
  read_way v w (inl done) = ([], done)
  read_way v w (inr (at, done)) = (node_read at ∷ [], done)

  stop_way : (v w : View cache_facts backing_facts) (first count : ℕ) (e : LeafError)
      → HasStoppedAt cache_facts backing_facts first count e v w → HasGoneOn v w
  stop_way v w first count (errors.Step steps.Memory) stop = read_way v w stop
  stop_way v w first count (errors.Step (steps.Fault d)) stop =
      (deed.DeviceFault (failure.Read device.Cache) ∷ [], stop.1)
  stop_way v w first count (errors.Step (steps.Halted d)) stop =
      both_ways v stop.0 w ([], stop.1) ([], stop.3)
  stop_way v w first count errors.Busy stop =
      both_ways v stop.at w ([], stop.way) (both_ways stop.at stop.now w ([], stop.did)
      ([], stop.then))
  stop_way v w first count errors.Outside stop =
      both_ways v stop.at w ([], stop.way) (both_ways stop.at stop.now w ([], stop.did)
      ([], stop.then))
  stop_way v w first count errors.Missing stop = read_way v w (missing stop)
    where
      missing : HasStoppedAt cache_facts backing_facts first count errors.Missing v w
          → HasReadOne cache_facts backing_facts v w
      missing (inl short) =
          inl (done_both cache_facts backing_facts [] [] v short.at w short.way short.then)
      missing (inr short) = read_before v short.at w short.read short.then
  stop_way v w first count (errors.Node q e) stop =
      both_ways v stop.at w ([], stop.way) (both_ways stop.at stop.now w
      (node_read stop.range.ptr.offset ∷ [], stop.did)
      ([], stop.then))

  asked_way : (dirty : Bool) (v w : View cache_facts backing_facts)
      → HasAsked cache_facts backing_facts dirty v w → HasGoneOn v w
  asked_way dirty v w asked = go asked.walked
    where
      go : HasDone cache_facts backing_facts [] v w
          ⊎ (HasMarked (world cache_facts backing_facts v) × HasWalked cache_facts backing_facts v w)
          → HasGoneOn v w
      go (inl done) = ([], done)
      go (inr (marked, walked)) = (walked.deeds, walked.done)

  -- whatever was answered, the run went on
  pub gone_on : (asked : Result Bool LeafError) (v w : View cache_facts backing_facts)
      → IfOk asked (λ dirty. HasAsked cache_facts backing_facts dirty v w)
      → IfErr asked (λ error. HasStoppedAsking cache_facts backing_facts error v w)
      → HasGoneOn v w
  gone_on (Ok dirty) v w told stopped = asked_way dirty v w told
  gone_on (Err e) v w told stopped = both_ways v stopped.stopped.at w
      (stopped.stopped.walked.deeds, stopped.stopped.walked.done)
      (stop_way stopped.stopped.at w stopped.stopped.first 1 e stopped.stopped.stopped)

  -- ---- the answer

  pub asked_by : (r : Result Bool LeafError) (u v w : View cache_facts backing_facts)
      → HasMarked (world cache_facts backing_facts u) → HasDone cache_facts backing_facts [] u v
      → IfOk r (λ dirty. HasWalked cache_facts backing_facts v w)
      → IfOk r (λ dirty. TellsDirt dirty (world cache_facts backing_facts w))
      → IfOk r (λ dirty. HasAsked cache_facts backing_facts dirty u w)
  asked_by (Ok dirty) u v w marked way walked told =
      record { walked = inr (marked, walked_after u v w way walked); told = told }
  asked_by (Err e) u v w marked way walked told = tt

  pub stopped_by : (r : Result Bool LeafError) (u v w : View cache_facts backing_facts)
      → HasMarked (world cache_facts backing_facts u) → HasDone cache_facts backing_facts [] u v
      → IfErr r (λ error. HasStoppedWalk cache_facts backing_facts error v w)
      → IfErr r (λ error. HasStoppedAsking cache_facts backing_facts error u w)
  stopped_by (Ok dirty) u v w marked way stop = tt
  stopped_by (Err e) u v w marked way stop = record {
    marked = marked;
    stopped = record {
      at = stop.at;
      walked = walked_after u v stop.at way stop.walked;
      first = stop.first;
      clean = stop.clean;
      not_missing = stop.not_missing;
      stopped = stop.stopped;
    };
  }

  pub marked_still : (u v : View cache_facts backing_facts) → IsAlone cache_facts backing_facts u
      → HasDone cache_facts backing_facts [] u v → IsCoreSeat cache_facts backing_facts v
      → HasMarked (world cache_facts backing_facts v)
      → HasMarked (world cache_facts backing_facts u)
  marked_still u v all way seat h = subst HasMarked (no_deed u v all way seat) h

  pub if_read : (r : Result SeenLeaf LeafError) (u v w : View cache_facts backing_facts)
      → HasDone cache_facts backing_facts [] u v
      → OnOk r (HasReadOne cache_facts backing_facts v w)
      → OnOk r (HasReadOne cache_facts backing_facts u w)
  if_read (Ok seen) u v w way read = read_after u v w way read
  if_read (Err e) u v w way read = tt

  pub if_stopped : (r : Result SeenLeaf LeafError) (u v w : View cache_facts backing_facts)
      (first : ℕ) → HasDone cache_facts backing_facts [] u v
      → IfErr r (λ error. HasStoppedAt cache_facts backing_facts first 1 error v w)
      → IfErr r (λ error. HasStoppedAt cache_facts backing_facts first 1 error u w)
  if_stopped (Ok seen) u v w first way stop = tt
  if_stopped (Err e) u v w first way stop = stopped_after u v w first 1 e way stop
