-- The step of a seat with the leaf and the cache device in hand.
use Rattle.std.proofs.Common.{◌≡◌, ℕ, ◌+◌, ◌*◌, ◌-◌, ◌%◌, ◌≤◌, true, false, List, length, Some, None, refl, sym, ap, ◌∙◌, subst}
use Rattle.std.specs.Prelude.{Err, Ok, OnErr, OnOk, Result, slice_get, take}
use Rattle.bc_cache.specs.Slots.{HasLeaf, IsSlotOf, NodeCache, with_slot}
use Rattle.bc_cache.specs.declared.slots.Cached.{Cached}
use Rattle.bc_disk.specs.Disk.{DiskFacts, IsCounted, IsFailedWrite, IsWritten}
use Rattle.bc_disk.specs.declared.disk.Failed.{Failed}
use Rattle.bc_disk.specs.declared.geometry.Geometry.{Geometry}
use Rattle.bc_model.specs.Sector.{Value, values_of}
use Rattle.bc_node.specs.Leaf.{Leaf, pending_set}
use Rattle.bc_node.specs.Writing.{put_sectors}
use Rattle.bc_parts.specs.Seat.{Holds, PartsView, Run}
use Rattle.bc_place.proofs.of_bc_hand.Knowing.{View, m}
use Rattle.bc_place.specs.bc_hand.Seats.{Did, MayDo, Works, by, world}
use Rattle.bc_place.specs.bc_hand.declared.hand.Hand.{Hand}
use Rattle.bc_place.specs.bc_hand.declared.hand.LeafHand.{LeafHand}
use Rattle.bc_place.specs.bc_machine.World.{AreLeaves, FromEach, are_plain, changes}
use Rattle.bc_place.specs.bc_machine.declared.part.CorePart.{CorePart}
use Rattle.bc_seats.specs.Seats.{Kept}
use Rattle.bc_append.specs.Append.{BeginWithSet, CanAppend, FitsOn, HasAppended, HasLeafIn, HasLost, IsBehind, IsSent, append_by, lost_by, place_in, values_in}
use Rattle.bc_append.specs.Durable.{IsDurableTo}
use Rattle.bc_append.proofs.Changing.{SetsLeaf, has_cache, has_leaves, holds_changed, leaves_in, works_behind}
use Rattle.bc_append.proofs.Held.{one_some}
use Rattle.bc_append.proofs.May.{IsReady, may_append_set, may_lose_set}
use Rattle.bc_append.proofs.Standing.{cache_appended, cache_lost, leaves_appended, leaves_lost}

-- ---- the leaf in hand

module _ {C B : Type 0} (h : Hand C B) (slot number : ℕ) (at : HasLeafIn h slot number)
    (l : LeafHand) (is : h.leaves ≡ Some l) where
  pub same_leaves : at.leaves ≡ l
  same_leaves = one_some h.leaves at.leaves l at.is is

  pub there_in : slice_get l.cache.slots slot ≡ Some (Some at.cached)
  there_in = subst (λ (y : LeafHand). slice_get y.cache.slots slot ≡ Some (Some at.cached))
      same_leaves at.there

  pub occupied : (c : Cached) × (slice_get l.cache.slots slot ≡ Some (Some c))
  occupied = (at.cached, there_in)

  pub has_leaf : HasLeaf l.cache.slots slot number
  has_leaf = record { cached = at.cached; there = there_in; number_is = at.number_is }

-- ---- one call of the device

pub is_sent : (slot : ℕ) (cached : Cached) (result : Result (Unit {0}) Failed) (bytes : List ℕ)
    (before after : DiskFacts) (old new : NodeCache) (g : Geometry) (leaf next : Leaf)
    → g ≡ old.geometry → leaf ≡ cached.leaf → BeginWithSet g leaf bytes
    → OnOk result (IsWritten (place_in leaf) (values_in g leaf bytes) before after)
    → OnErr result (IsFailedWrite (place_in leaf) (values_in g leaf bytes) before after)
    → IsCounted result before after → IsBehind g result leaf next
    → new ≡ with_slot old slot (Some (record cached { leaf = next }))
    → IsSent slot cached result bytes before after old new
is_sent slot cached result bytes before after old new g leaf next same_g same_leaf set good failed
    counted behind is = record {
      set = subst (λ x. BeginWithSet x cached.leaf bytes) same_g
          (subst (λ l. BeginWithSet g l bytes) same_leaf set);
      good = subst (λ x. OnOk result (IsWritten (place_in cached.leaf)
          (values_in x cached.leaf bytes) before after)) same_g
          (subst (λ l. OnOk result (IsWritten (place_in l) (values_in g l bytes) before after))
          same_leaf good);
      failed = subst (λ x. OnErr result (IsFailedWrite (place_in cached.leaf)
          (values_in x cached.leaf bytes) before after)) same_g
          (subst (λ l. OnErr result (IsFailedWrite (place_in l) (values_in g l bytes) before after))
          same_leaf failed);
      counted = counted;
      leaf = next;
      behind = subst (λ x. IsBehind x result cached.leaf next) same_g
          (subst (λ l. IsBehind g result l next) same_leaf behind);
      is = is;
    }

-- the values that the deed has are those that were written
pub values_are : (g : Geometry) (leaf : Leaf) (x : Geometry) (own : Leaf) → x ≡ g → own ≡ leaf
    → (n : ℕ) → n ≡ put_sectors x own.taken (pending_set own) → (bytes items : List ℕ)
    → items ≡ take (512 * n) bytes → (values : List Value) → values ≡ values_of items
    → values ≡ values_in g leaf bytes
values_are g leaf x own same_g same_leaf n count bytes items front values is = is
    ∙ ap values_of (front ∙ ap (λ k. take (512 * k) bytes) (count
    ∙ ap (λ y. put_sectors y own.taken (pending_set own)) same_g
    ∙ ap (λ (l : Leaf). put_sectors g l.taken (pending_set l)) same_leaf))

-- ---- the deeds

sets_leaf : (g : Geometry) (number : ℕ) (leaf : Leaf) (bytes : List ℕ)
    → SetsLeaf number (append_by g number leaf bytes)
sets_leaf g number leaf bytes = record {
  spine = refl;
  flight = refl;
  buckets = refl;
  journal = refl;
  backing = refl;
  leaves = λ count part. refl;
}

loses_set : (g : Geometry) (number : ℕ) (leaf : Leaf) (bytes : List ℕ)
    → SetsLeaf number (lost_by g number leaf bytes)
loses_set g number leaf bytes = record {
  spine = refl;
  flight = refl;
  buckets = refl;
  journal = refl;
  backing = refl;
  leaves = λ count part. refl;
}

module _ {C B : Type 0} (cache_facts : C → DiskFacts) (backing_facts : B → DiskFacts)
    (p : PartsView (CorePart C B)) (v : View cache_facts backing_facts) (h : Hand C B) (old : C)
    (works : Works cache_facts backing_facts p v (record h { cache = Some old }))
    (unheard : v.heard ≡ None) (cached_run : are_plain cache_facts backing_facts p.run.start ≡ false)
    (slot number : ℕ) (can : CanAppend h (length p.run.start) slot number)
    (durable : FromEach (world cache_facts backing_facts v) (IsDurableTo can.entries.last))
    (only : IsSlotOf can.at.leaves.cache.slots number slot)
    (fits : FitsOn can.at.leaves.cache.geometry can.at.cached.leaf (cache_facts old).sectors)
    (new : C) (cache : NodeCache) (bytes : List ℕ)
    (whole : length bytes ≡ 512 * can.at.leaves.cache.geometry.node_sectors) where
  abbrev l : LeafHand
  l = can.at.leaves

  abbrev c : Cached
  c = can.at.cached

  abbrev g : Geometry
  g = l.cache.geometry

  run_same : (r : Run (CorePart C B)) → r ≡ p.run
      → are_plain cache_facts backing_facts r.start ≡ false
  run_same r is = ap (λ (x : Run (CorePart C B)). are_plain cache_facts backing_facts x.start) is
      ∙ cached_run

  leaves_are : (6 ≤ l.part) × AreLeaves (l.part - 6) l.cache (world cache_facts backing_facts v)
  leaves_are = leaves_in cache_facts backing_facts p v h old works l can.at.is

  module _ (set : BeginWithSet g c.leaf bytes) where
    ready : IsReady l.cache slot c can.entries bytes
    ready = record {
      there = can.at.there;
      only = subst (λ n. IsSlotOf l.cache.slots n slot) (sym can.at.number_is) only;
      free = can.free;
      own = can.own;
      pending = can.pending;
      fits = fits.fits;
      set = set;
      whole = whole;
    }

    pub may_ok : MayDo cache_facts backing_facts v (append_by g number c.leaf bytes)
    may_ok = subst (λ n. MayDo cache_facts backing_facts v (append_by g n c.leaf bytes))
        can.at.number_is
        (may_append_set cache_facts backing_facts v works.seat (run_same v.run works.run) unheard
        l.part l.cache (has_leaves cache_facts backing_facts p v h old works l can.at.is)
        leaves_are.0 leaves_are.1 slot c can.entries bytes ready durable)

    pub may_err : MayDo cache_facts backing_facts v (lost_by g number c.leaf bytes)
    may_err = subst (λ n. MayDo cache_facts backing_facts v (lost_by g n c.leaf bytes))
        can.at.number_is
        (may_lose_set cache_facts backing_facts v works.seat (run_same v.run works.run) unheard
        l.part l.cache (has_leaves cache_facts backing_facts p v h old works l can.at.is)
        leaves_are.0 leaves_are.1 slot c can.entries bytes ready durable)

  its : (n : ℕ) → n ≡ length p.run.start → l.part ≡ 6 + number % (n - 6)
  its n is = subst (λ k. l.part ≡ 6 + number % (k - 6)) (sym is) can.its_part

  count_is : length v.run.start ≡ length p.run.start
  count_is = ap (λ (r : Run (CorePart C B)). length r.start) works.run

  pub holds_ok : (k : ℕ) → changes (length v.run.start)
      (by v.first (append_by g number c.leaf bytes)) k ≡ true
      → Holds v.parts k
  holds_ok = holds_changed cache_facts backing_facts p v h old works l can.at.is number
      (length v.run.start) (its (length v.run.start) count_is) (append_by g number c.leaf bytes)
      (sets_leaf g number c.leaf bytes)

  pub holds_err : (k : ℕ) → changes (length v.run.start)
      (by v.first (lost_by g number c.leaf bytes)) k ≡ true
      → Holds v.parts k
  holds_err = holds_changed cache_facts backing_facts p v h old works l can.at.is number
      (length v.run.start) (its (length v.run.start) count_is) (lost_by g number c.leaf bytes)
      (loses_set g number c.leaf bytes)

  module _ (w : View cache_facts backing_facts) where
    module _ (done : Unit {0})
        (sent : IsSent slot c (Ok done) bytes (cache_facts old) (cache_facts new) l.cache cache)
        (did : Did cache_facts backing_facts (Some (append_by g number c.leaf bytes)) v w)
        (kept : Kept (m cache_facts backing_facts) v w (changes (length v.run.start)
        (by v.first (append_by g number c.leaf bytes)))) where
      its_did : Did cache_facts backing_facts (Some (append_by g c.number c.leaf bytes)) v w
      its_did = subst (λ n. Did cache_facts backing_facts (Some (append_by g n c.leaf bytes)) v w)
          (sym can.at.number_is) did

      pub works_ok : Works cache_facts backing_facts p w (record h {
        leaves = Some (record l { cache = cache });
        cache = Some new;
      })
      works_ok = works_behind cache_facts backing_facts p v h old works l can.at.is number
          (length v.run.start) (its (length v.run.start) count_is)
          (append_by g number c.leaf bytes) (sets_leaf g number c.leaf bytes) w new cache did.seat
          kept
          (subst (λ x. AreLeaves (l.part - 6) x (world cache_facts backing_facts w)) (sym sent.is)
          (leaves_appended cache_facts backing_facts v w works.seat l.part l.cache
          (has_leaves cache_facts backing_facts p v h old works l can.at.is) leaves_are.0
          leaves_are.1 slot c can.entries bytes (ready sent.set) durable sent.leaf sent.behind
          its_did))
          (cache_appended cache_facts backing_facts v w works.seat l.part l.cache
          (has_leaves cache_facts backing_facts p v h old works l can.at.is) leaves_are.0
          leaves_are.1 slot c can.entries bytes (ready sent.set) durable old new
          (has_cache cache_facts backing_facts p v h old works l can.at.is) works.stand.cache its_did
          sent.good sent.counted)

      pub has_appended : HasAppended cache_facts backing_facts number h
          (record h { leaves = Some (record l { cache = cache }) }) v w
      has_appended = record {
        slot = slot;
        at = can.at;
        bytes = bytes;
        set = sent.set;
        did = did;
        leaf = sent.leaf;
        appended = sent.behind;
        now = ap (λ (x : NodeCache). record h { leaves = Some (record l { cache = x }) }) sent.is;
      }

    module _ (lost : Failed)
        (sent : IsSent slot c (Err lost) bytes (cache_facts old) (cache_facts new) l.cache cache)
        (did : Did cache_facts backing_facts (Some (lost_by g number c.leaf bytes)) v w)
        (kept : Kept (m cache_facts backing_facts) v w (changes (length v.run.start)
        (by v.first (lost_by g number c.leaf bytes)))) where
      its_loss : Did cache_facts backing_facts (Some (lost_by g c.number c.leaf bytes)) v w
      its_loss = subst (λ n. Did cache_facts backing_facts (Some (lost_by g n c.leaf bytes)) v w)
          (sym can.at.number_is) did

      closed : cache ≡ with_slot l.cache slot
          (Some (record c { leaf = record c.leaf { loaded = true } }))
      closed = sent.is ∙ ap (λ (x : Leaf). with_slot l.cache slot (Some (record c { leaf = x })))
          sent.behind

      pub works_err : Works cache_facts backing_facts p w (record h {
        leaves = Some (record l { cache = cache });
        cache = Some new;
      })
      works_err = works_behind cache_facts backing_facts p v h old works l can.at.is number
          (length v.run.start) (its (length v.run.start) count_is)
          (lost_by g number c.leaf bytes) (loses_set g number c.leaf bytes) w new cache did.seat kept
          (subst (λ x. AreLeaves (l.part - 6) x (world cache_facts backing_facts w)) (sym closed)
          (leaves_lost cache_facts backing_facts v w works.seat l.part l.cache
          (has_leaves cache_facts backing_facts p v h old works l can.at.is) leaves_are.0
          leaves_are.1 slot c can.entries bytes (ready sent.set) durable its_loss))
          (cache_lost cache_facts backing_facts v w works.seat l.part l.cache
          (has_leaves cache_facts backing_facts p v h old works l can.at.is) leaves_are.0
          leaves_are.1 slot c can.entries bytes (ready sent.set) durable old new
          (has_cache cache_facts backing_facts p v h old works l can.at.is) works.stand.cache
          its_loss sent.failed sent.counted)

      pub has_lost : HasLost cache_facts backing_facts number h
          (record h { leaves = Some (record l { cache = cache }) }) v w
      has_lost = record {
        slot = slot;
        at = can.at;
        bytes = bytes;
        set = sent.set;
        did = did;
        now = ap (λ (x : NodeCache). record h { leaves = Some (record l { cache = x }) }) closed;
      }
