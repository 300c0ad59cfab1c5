-- A leaf that is fetched stands for the core's.
use Rattle.std.proofs.Common.{◌≡◌, inl, inr, [], ℕ, ◌+◌, ◌-◌, ◌*◌, ◌/◌, ◌≤◌, ◌%◌, List, Option, Some, None, length, refl, sym, ap, subst, ◌∙◌, arith}
use Rattle.std.specs.Prelude.{Contains, IfOk, IfSome, OnErr, Result, Ok, Err, is_some}
use Rattle.bc_cache.specs.Fetch.{IsUsed}
use Rattle.bc_cache.specs.Slots.{Misses, NodeCache}
use Rattle.bc_sight.proofs.of_bc_deed.May.{did_nothing}
use Rattle.bc_disk.specs.Disk.{DiskFacts}
use Rattle.bc_disk.specs.declared.disk.Device.TheVariants as device
use Rattle.bc_events.specs.declared.event.Deed.{Deed}
use Rattle.bc_events.specs.declared.event.Deed.TheVariants as deed
use Rattle.bc_events.specs.declared.event.Failure.TheVariants as failure
use Rattle.bc_fetched.proofs.Law.{law_fetched, ptr_is}
use Rattle.bc_sight.specs.bc_hand.Seats.{Did, Works, numbers, with_leaves, with_part, world}
use Rattle.bc_sight.specs.bc_hand.declared.error.StepError.{StepError}
use Rattle.bc_sight.specs.bc_hand.declared.error.StepError.TheVariants as steps
use Rattle.bc_sight.specs.bc_hand.declared.hand.Hand.{Hand}
use Rattle.bc_sight.specs.bc_hand.declared.hand.LeafHand.{LeafHand}
use Rattle.bc_sight.proofs.of_bc_hand.Between.{did_between}
use Rattle.bc_sight.proofs.of_bc_hand.Knowing.{View, m}
use Rattle.bc_key.specs.Key.{ptr_at}
use Rattle.bc_key.specs.declared.key.Key.{Key}
use Rattle.bc_key.specs.declared.ptr.Ptr.{Ptr}
use Rattle.bc_sight.specs.bc_machine.Containers.{IsLeafFor, IsTreeLeaf}
use Rattle.bc_sight.specs.bc_machine.Standing.{begun_stays, has_spine}
use Rattle.bc_sight.specs.bc_machine.World.{AreLeaves, Begun, IsCourseOf, IsOrigin, IsSpine, IsSpinePart, Origin, World, opening, replay}
use Rattle.bc_sight.specs.bc_machine.declared.part.CorePart.{CorePart}
use Rattle.bc_sight.specs.bc_machine.declared.part.SpinePart.{SpinePart}
use Rattle.bc_model.specs.Sector.{values_of}
use Rattle.bc_node.specs.Leaf.{Leaf}
use Rattle.bc_node.specs.Loading.{IsDecoded, IsNotDecoded}
use Rattle.bc_node.specs.declared.error.NodeError.{NodeError}
use Rattle.bc_node.specs.declared.error.NodeError.TheVariants as nodes
use Rattle.bc_parts.specs.Seat.{Holds, PartsView, Run}
use Rattle.bc_record.specs.Sectors.{Has}
use Rattle.bc_reload.specs.Reload.{NamesLeaf}
use Rattle.bc_seats.specs.Seats.{Waited}
use Rattle.bc_shares.specs.Shares.{leaf_share, shape_of}
use Rattle.bc_spine.specs.declared.leaf.LeafRange.{LeafRange}
use Rattle.bc_sight.specs.Asked.{HasFailedRead}
use Rattle.bc_tree.specs.Spine.{Spine}
use Rattle.bc_fetch.specs.Fetch.{HasPart, IsInSpine, IsInTree, IsLeafStop, IsNoLeaf, IsPutInto, IsSameButCache, MayStandAt, MayStandIn, OfBoth, OfLeaves, node_read, refusal}
use Rattle.bc_fetch.specs.declared.error.LeafError.{LeafError}
use Rattle.bc_fetch.specs.declared.error.LeafError.TheVariants as errors
use Rattle.bc_fetch.proofs.Slots.{put_stands, use_stands}

pub some_of : {A : Type 0} (P : A → Type 0) (o : Option A) (x : A) → o ≡ Some x → IfSome o P → P x
some_of P None x is h = absurd (cc)
some_of P (Some y) x is h = let same : y ≡ x = cc in subst P same h

some_same : {A : Type 0} (a b : A) (o : Option A) → o ≡ Some a → o ≡ Some b → a ≡ b
some_same a b o p q = cc

-- what is said of the part in hand
pub of_leaves : {C B : Type 0} (h : Hand C B) (P : NodeCache → Type 0) → OfLeaves h P
    → (l : LeafHand) → h.leaves ≡ Some l → P l.cache
of_leaves h P of l is = subst (λ (k : LeafHand). P k.cache) (some_same of.0 l h.leaves of.1 is) of.2

-- the part that was put into the hand
pub has_part : {C B : Type 0} (old new : Hand C B) (part : ℕ) (cache : NodeCache)
    → new ≡ record old { leaves = Some (record { part = part; cache = cache }) } → HasPart new part
has_part old new part cache is = record {
  hand = record { part = part; cache = cache };
  is = ap (λ (h : Hand _ _). h.leaves) is;
  part_is = refl;
}

-- ---- the part

pub use_leaves : (x : World) (part slot : ℕ) (old new : NodeCache) → AreLeaves part old x
    → IsUsed slot old new → AreLeaves part new x
use_leaves x part slot old new h used = λ o is course. use_stands o.opening.machine
    (replay o x.log).machine.whole.parts x.begun.leaf_parts part slot old new (h o is course) used

module _ (x : World) (sp : Spine) (part : ℕ) (old : NodeCache) (range : LeafRange) (key : Key)
    (bytes : List ℕ) (leaf : Leaf) (tree : IsSpine sp x) (there : Contains sp.leaves range)
    (h : AreLeaves part old x) (its : range.number % x.begun.leaf_parts ≡ part)
    (misses : Misses old.slots range.number) (names : NamesLeaf range key)
    (stand : MayStandIn x range.ptr.offset (values_of bytes))
    (is_leaf : IsDecoded old.geometry key range.from bytes leaf) where
  same_ptr : ptr_at key 0 ≡ range.ptr
  same_ptr = ptr_is key range.ptr names.points

  leaf_for : (o : Origin) → IsOrigin x o → IsCourseOf o x.log
      → IsLeafFor o.opening.machine (leaf_share (replay o x.log).machine.whole.parts range.number) leaf
  leaf_for o is course =
      let st = (replay o x.log).machine.whole.parts in
      let one = stand o is course in
      let shape = shape_of (st.leaves range.number) in
      let at : IsTreeLeaf o.opening.machine range.from range.end range.ptr shape =
      (tree o is course).leaves range there in
      law_fetched x o is course old.geometry one.0
      (record { layout = (h o is course).layout; values = one.1 })
      range.number range.from key is_leaf.sets leaf
      (record {
        at = subst (λ (p : Ptr). IsTreeLeaf o.opening.machine range.from key.end p shape) (sym same_ptr)
            (subst (λ n. IsTreeLeaf o.opening.machine range.from n range.ptr shape) (sym names.ends) at);
        none = (h o is course).others range.number its at.role misses;
      })
      (is_leaf.stand one.0 (subst (λ (p : Ptr). Has one.0 p.offset (values_of bytes)) (sym same_ptr)
      one.2)) is_leaf.leaf_of

  pub put_leaves : (slot : ℕ) (new : NodeCache) → IsPutInto slot range.number leaf old new
      → AreLeaves part new x
  put_leaves slot new put = λ o is course. put_stands o.opening.machine
      (replay o x.log).machine.whole.parts x.begun.leaf_parts part slot range.number leaf old new
      (h o is course) put its (leaf_for o is course)

-- ---- the hand

module _ {C B : Type 0} (cache_facts : C → DiskFacts) (backing_facts : B → DiskFacts) where
  pub leaf_count : (v : View cache_facts backing_facts)
      → (world cache_facts backing_facts v).begun.leaf_parts ≡ length v.run.start - 6
  leaf_count v = ap (λ (b : Begun). b.leaf_parts)
      (begun_stays (opening cache_facts backing_facts v.run.start) v.seen)

  -- the leaves in hand stand for their share
  pub in_hand : (p : PartsView (CorePart C B)) (v : View cache_facts backing_facts) (h : Hand C B)
      (l : LeafHand) → Works cache_facts backing_facts p v h → h.leaves ≡ Some l
      → (6 ≤ l.part) × AreLeaves (l.part - 6) l.cache (world cache_facts backing_facts v)
  in_hand p v h l works is = some_of (λ (k : LeafHand). (6 ≤ k.part)
      × AreLeaves (k.part - 6) k.cache (world cache_facts backing_facts v)) h.leaves l is
      works.stand.leaves

  pub spine_in_hand : (p : PartsView (CorePart C B)) (v : View cache_facts backing_facts)
      (h : Hand C B) (s : SpinePart) → Works cache_facts backing_facts p v h → h.spine ≡ Some s
      → IsSpine s.spine (world cache_facts backing_facts v)
  spine_in_hand p v h s works is = has_spine s (world cache_facts backing_facts v)
      (some_of (λ (t : SpinePart). IsSpinePart t (world cache_facts backing_facts v)) h.spine s is
      works.stand.spine)

  -- with another cache of the same leaves it stands too
  pub works_with : (p : PartsView (CorePart C B)) (v : View cache_facts backing_facts) (h : Hand C B)
      (l : LeafHand) (new : NodeCache) → Works cache_facts backing_facts p v h → h.leaves ≡ Some l
      → AreLeaves (l.part - 6) new (world cache_facts backing_facts v)
      → Works cache_facts backing_facts p v
      (record h { leaves = Some (record { part = l.part; cache = new }) })
  works_with p v h l new works is on = record {
    run = works.run;
    seat = works.seat;
    parts = works.parts ∙ ap (λ (o : Option LeafHand). numbers (record h { leaves = o })) is;
    stand = record {
      spine = works.stand.spine;
      leaves = ((in_hand p v h l works is).0, on);
      flight = works.stand.flight;
      buckets = works.stand.buckets;
      journal = works.stand.journal;
      cache = works.stand.cache;
      backing = works.stand.backing;
    };
  }

  -- which of the parts a leaf lies in
  pub its_part : (p : PartsView (CorePart C B)) (v : View cache_facts backing_facts) (n k : ℕ)
      → v.run ≡ p.run → k ≡ 6 + n % (length p.run.start - 6)
      → n % (world cache_facts backing_facts v).begun.leaf_parts ≡ k - 6
  its_part p v n k run is =
      let count : (world cache_facts backing_facts v).begun.leaf_parts ≡ length p.run.start - 6 =
      leaf_count v ∙ ap (λ (r : Run (CorePart C B)). length r.start - 6) run in
      ap (λ c. n % c) count ∙ omega (arith, is)

-- ---- the hand behind steps that left all but the cache device

pub leaves_after : {C B : Type 0} (a b : Hand C B) → IsSameButCache a b → b.leaves ≡ a.leaves
leaves_after a b same = ap (λ (h : Hand _ _). h.leaves) same.rest

pub of_after : {C B : Type 0} (a b : Hand C B) (P : NodeCache → Type 0) → IsSameButCache a b
    → OfLeaves a P → OfLeaves b P
of_after a b P same of = (of.0, leaves_after a b same ∙ of.1, of.2)

-- what is said of the part before a step
pub both_after : {C B : Type 0} (a b now : Hand C B) (P : NodeCache → NodeCache → Type 0)
    → IsSameButCache a b → OfBoth b now P → OfBoth a now P
both_after a b now P same of = (of.0, sym (leaves_after a b same) ∙ of.1, of.2)

pub spine_after : {C B : Type 0} (a b : Hand C B) (range : LeafRange) → IsSameButCache a b
    → IsInSpine a range → IsInSpine b range
spine_after a b range same there = record {
  part = there.part;
  is = ap (λ (h : Hand _ _). h.spine) same.rest ∙ there.is;
  range_in = there.range_in;
}

pub part_after : {C B : Type 0} (a b : Hand C B) (part : ℕ) → IsSameButCache a b
    → HasPart a part → HasPart b part
part_after a b part same has = record {
  hand = has.hand;
  is = leaves_after a b same ∙ has.is;
  part_is = has.part_is;
}

-- which part is in hand
pub its_number : {C B : Type 0} (h : Hand C B) (part : ℕ) (l : LeafHand) → HasPart h part
    → h.leaves ≡ Some l → l.part ≡ part
its_number h part l has is =
    ap (λ (k : LeafHand). k.part) (some_same l has.hand h.leaves is has.is) ∙ has.part_is

-- with the same leaves it is the same hand
pub same_hand : {C B : Type 0} (h : Hand C B) (l : LeafHand) (new : NodeCache) → h.leaves ≡ Some l
    → new ≡ l.cache → record h { leaves = Some (record { part = l.part; cache = new }) } ≡ h
same_hand h l new is same =
    ap (λ (c : NodeCache). record h { leaves = Some (record { part = l.part; cache = c }) }) same
    ∙ ap (λ (o : Option LeafHand). record h { leaves = o }) (sym is)

pub map_if_ok : {A E : Type 0} {P Q : A → Type 0} (r : Result A E) → ((a : A) → P a → Q a)
    → IfOk r P → IfOk r Q
map_if_ok (Ok a) f h = f a h
map_if_ok (Err e) f h = tt

pub always_err : {A E : Type 0} {P : Type 0} (r : Result A E) → P → OnErr r P
always_err (Ok a) p = tt
always_err (Err e) p = p

-- ---- refusals

module _ {C B : Type 0} (cache_facts : C → DiskFacts) (backing_facts : B → DiskFacts) where
  pub no_leaf : (h : Hand C B) (range : LeafRange) (v : View cache_facts backing_facts)
      (l : LeafHand) (key : Key) (bytes : List ℕ) (bucket : ℕ) → h.leaves ≡ Some l
      → NamesLeaf range key → IsInTree cache_facts backing_facts range v
      → length bytes ≡ 512 * l.cache.geometry.node_sectors
      → MayStandAt cache_facts backing_facts v range.ptr.offset (values_of bytes)
      → bucket ≡ range.ptr.offset / l.cache.geometry.bucket → (e : NodeError)
      → IsNotDecoded l.cache.geometry key range.from bytes e
      → IsNoLeaf cache_facts backing_facts h range (refusal bucket e) v
  no_leaf h range v l key bytes bucket is names tree whole stand at nodes.Memory cause = tt
  no_leaf h range v l key bytes bucket is names tree whole stand at (nodes.First why) cause = (
    l,
    is,
    record {
      bucket_is = at;
      key = key;
      names = names;
      tree = tree;
      bytes = bytes;
      whole = whole;
      stand = stand;
      cause = cause;
      not_memory = λ same. cc;
    },
  )
  no_leaf h range v l key bytes bucket is names tree whole stand at nodes.Ranges cause = (
    l,
    is,
    record {
      bucket_is = at;
      key = key;
      names = names;
      tree = tree;
      bytes = bytes;
      whole = whole;
      stand = stand;
      cause = cause;
      not_memory = λ same. cc;
    },
  )
  no_leaf h range v l key bytes bucket is names tree whole stand at nodes.Fault cause = absurd cause

  -- what a step refuses where the bytes were no leaf
  pub stopped_by : (h : Hand C B) (range : LeafRange) (sectors : ℕ)
      (v w : View cache_facts backing_facts) (e : LeafError)
      → IsNoLeaf cache_facts backing_facts h range e w
      → Did cache_facts backing_facts (Some (node_read range.ptr.offset)) v w
      → IsLeafStop cache_facts backing_facts h range sectors e v w
  stopped_by h range sectors v w (errors.Step steps.Memory) none did = inr did
  stopped_by h range sectors v w (errors.Step (steps.Fault d)) none did = absurd none
  stopped_by h range sectors v w (errors.Step (steps.Halted d)) none did = absurd none
  stopped_by h range sectors v w errors.Busy none did = absurd none
  stopped_by h range sectors v w errors.Outside none did = absurd none
  stopped_by h range sectors v w errors.Missing none did = absurd none
  stopped_by h range sectors v w (errors.Node b e) none did = (none, did)

  -- it is no leaf of the part in hand before either
  pub no_leaf_before : (a b : Hand C B) (range : LeafRange) (v : View cache_facts backing_facts)
      → IsSameButCache a b → (e : LeafError) → IsNoLeaf cache_facts backing_facts b range e v
      → IsNoLeaf cache_facts backing_facts a range e v
  no_leaf_before a b range v same (errors.Step steps.Memory) none = none
  no_leaf_before a b range v same (errors.Step (steps.Fault d)) none = none
  no_leaf_before a b range v same (errors.Step (steps.Halted d)) none = none
  no_leaf_before a b range v same errors.Busy none = none
  no_leaf_before a b range v same errors.Outside none = none
  no_leaf_before a b range v same errors.Missing none = none
  no_leaf_before a b range v same (errors.Node q e) none =
      (none.0, sym (leaves_after a b same) ∙ none.1, none.2)

  -- a read that failed is a step that did
  pub stopped_read : (h : Hand C B) (range : LeafRange) (sectors : ℕ)
      (v w : View cache_facts backing_facts) (e : StepError)
      → HasFailedRead cache_facts backing_facts e v w
      → IsLeafStop cache_facts backing_facts h range sectors (errors.Step e) v w
  stopped_read h range sectors v w (steps.Fault d) failed = failed
  stopped_read h range sectors v w (steps.Halted d) failed = failed
  stopped_read h range sectors v w steps.Memory failed = absurd failed

-- ---- a wait before a step

with_same : (k : ℕ) {A : Type 0} (a b : Option A) (ks : List ℕ) → is_some b ≡ is_some a
    → with_part k b ks ≡ with_part k a ks
with_same k None None ks is = refl
with_same k None (Some y) ks is = absurd (cc)
with_same k (Some x) None ks is = absurd (cc)
with_same k (Some x) (Some y) ks is = refl

numbers_same : {C B : Type 0} (a b : Hand C B) → IsSameButCache a b → numbers b ≡ numbers a
numbers_same a b same =
    ap (λ (h : Hand _ _). numbers h) same.rest
    ∙ ap (λ ks. with_part 5 a.backing ks) (with_same 4 a.cache b.cache
    (with_part 3 a.journal (with_part 2 a.buckets (with_part 1 a.flight (with_leaves a.leaves
    (with_part 0 a.spine []))))) same.kind)

module _ {C B : Type 0} (cache_facts : C → DiskFacts) (backing_facts : B → DiskFacts)
    (p : PartsView (CorePart C B)) (u v : View cache_facts backing_facts) (a b : Hand C B)
    (before : Works cache_facts backing_facts p u a) (now : Works cache_facts backing_facts p v b)
    (same : IsSameButCache a b) (waited : Waited (m cache_facts backing_facts) u v) where
  pub did_before : (o : Option Deed) (w : View cache_facts backing_facts)
      → Did cache_facts backing_facts o v w → Did cache_facts backing_facts o u w
  did_before o w did = did_between cache_facts backing_facts o u v w w
      (λ k holds. subst (λ ks. Holds ks k)
      (before.parts ∙ sym (numbers_same a b same) ∙ sym now.parts) holds) waited did
      (did_nothing cache_facts backing_facts w did.seat).is refl refl did.seat

  pub stop_before : (range : LeafRange) (sectors : ℕ) (e : LeafError)
      (w : View cache_facts backing_facts)
      → IsLeafStop cache_facts backing_facts b range sectors e v w
      → IsLeafStop cache_facts backing_facts a range sectors e u w
  stop_before range sectors (errors.Step steps.Memory) w (inl did) = inl (did_before None w did)
  stop_before range sectors (errors.Step steps.Memory) w (inr did) =
      inr (did_before (Some (node_read range.ptr.offset)) w did)
  stop_before range sectors (errors.Step (steps.Fault d)) w stop =
      (stop.0, did_before (Some (deed.DeviceFault (failure.Read device.Cache))) w stop.1)
  stop_before range sectors (errors.Step (steps.Halted d)) w stop =
      (stop.0, did_before None w stop.1)
  stop_before range sectors errors.Busy w stop =
      ((stop.0.0, sym (leaves_after a b same) ∙ stop.0.1, stop.0.2), did_before None w stop.1)
  stop_before range sectors errors.Outside w stop =
      ((stop.0.0, sym (leaves_after a b same) ∙ stop.0.1, stop.0.2), did_before None w stop.1)
  stop_before range sectors errors.Missing w stop = absurd stop
  stop_before range sectors (errors.Node q e) w stop = (
    (stop.0.0, sym (leaves_after a b same) ∙ stop.0.1, stop.0.2),
    did_before (Some (node_read range.ptr.offset)) w stop.1,
  )
