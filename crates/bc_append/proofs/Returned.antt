-- The step between borrowing the cache device and returning it.
use Rattle.std.proofs.Common.{◌≡◌, ℕ, ◌+◌, ◌<◌, ◌≤◌, Bool, true, false, List, [], ◌∷◌, Option, Some, None, inl, inr, refl, sym, ap, ◌∙◌, arith}
use Rattle.std.specs.Prelude.{◌↔◌, IsTrue, fold, if◌then◌else◌, is_none, is_some}
use Rattle.std.proofs.lemmas.Bool.{cases_lt}
use Rattle.bc_cache.specs.declared.slots.Cached.{Cached}
use Rattle.bc_disk.specs.Disk.{DiskFacts}
use Rattle.bc_disk.specs.declared.disk.Device.TheVariants as which
use Rattle.bc_disk.specs.declared.geometry.Geometry.{Geometry}
use Rattle.bc_events.specs.Columns.{Call, call_by}
use Rattle.bc_events.specs.declared.event.Event.{Event}
use Rattle.bc_node.specs.Leaf.{IsFull, Leaf, pending_set}
use Rattle.bc_parts.specs.Seat.{Holds, PartsView, Run}
use Rattle.bc_place.proofs.Keeping.{keeps_deed}
use Rattle.bc_place.proofs.Storing.{kept_between}
use Rattle.bc_place.proofs.of_bc_hand.Between.{did_between}
use Rattle.bc_place.proofs.of_bc_hand.Knowing.{View, m}
use Rattle.bc_place.specs.Written.{KeepsPlaces}
use Rattle.bc_place.specs.bc_hand.Seats.{IsCoreSeat, Kinds, kinds, part_of, world}
use Rattle.bc_place.specs.bc_hand.declared.hand.Hand.{Hand}
use Rattle.bc_place.specs.bc_hand.declared.hand.LeafHand.{LeafHand}
use Rattle.bc_place.specs.bc_machine.World.{IsCache, Side, World, after, cache_among, called, counted, opening, same_device}
use Rattle.bc_place.specs.bc_machine.declared.part.CorePart.{CorePart}
use Rattle.bc_seats.specs.Seats.{Waited}
use Rattle.bc_set.specs.Records.{set_sectors}
use Rattle.bc_append.specs.Append.{CanAppend, HasAppended, HasLeafIn, HasLost, append_by, lost_by, with_behind}

-- ---- tests

pub on_true : (b : Bool) → b ≡ true → IsTrue b
on_true b is = is

off_true : (b : Bool) → b ≡ false → IsTrue b → ⊥
off_true b is t = let both : false ≡ true = sym is ∙ t in cc

pub full_where : (g : Geometry) (leaf : Leaf) (b : Bool) → b ≡ false
    → (IsTrue b ↔ ¬ (IsFull g leaf)) → IsFull g leaf
full_where g leaf b is both = elim (cases_lt g.node_sectors
    (leaf.taken + set_sectors g (pending_set leaf))) [
      | inl more ↦ more
      | inr few ↦ absurd (off_true b is (both.1 (λ full. omega (arith, full, few))))
    ]

pub outside_where : (end sectors : ℕ) (b : Bool) → b ≡ false → (IsTrue b ↔ (end ≤ sectors))
    → sectors < end
outside_where end sectors b is both = elim (cases_lt sectors end) [
  | inl less ↦ less
  | inr more ↦ absurd (off_true b is (both.1 more))
]

-- ---- hands

pub some_back : {X : Type 0} (o : Option X) (x : X) (t : Bool) → t ≡ is_none o
    → is_some (if t then None else Some x) ≡ is_some o
some_back None x t is = ap (λ b. is_some (if b then None else Some x)) is
some_back (Some y) x t is = ap (λ b. is_some (if b then None else Some x)) is

module _ {C B : Type 0} where
  abbrev pub leaf_in : (a b : Hand C B) (slot number : ℕ) → b.leaves ≡ a.leaves → HasLeafIn a slot number
      → HasLeafIn b slot number
  leaf_in a b slot number same at = record {
    leaves = at.leaves;
    is = same ∙ at.is;
    cached = at.cached;
    there = at.there;
    number_is = at.number_is;
  }

  abbrev pub can_in : (a b : Hand C B) (parts slot number : ℕ) → b.leaves ≡ a.leaves
      → CanAppend a parts slot number → CanAppend b parts slot number
  can_in a b parts slot number same can = record {
    at = leaf_in a b slot number same can.at;
    its_part = can.its_part;
    free = can.free;
    own = can.own;
    entries = can.entries;
    pending = can.pending;
  }

  abbrev kinds_by : Hand C B → Option ℕ → Bool → Kinds
  kinds_by h part cache = record {
    spine = is_some h.spine;
    leaves = part;
    flight = is_some h.flight;
    buckets = is_some h.buckets;
    journal = is_some h.journal;
    cache = cache;
    backing = is_some h.backing;
  }

  -- of the device alone
  pub kinds_cache : (old new : Hand C B) (o : Option C) → new ≡ record old { cache = o }
      → is_some o ≡ is_some old.cache → kinds new ≡ kinds old
  kinds_cache old new o is some = ap (λ (x : Hand C B). kinds x) is
      ∙ ap (λ b. kinds_by old (part_of old.leaves) b) some

  pub kinds_behind : (old new : Hand C B) (l : LeafHand) → old.leaves ≡ Some l → (slot : ℕ)
      (cached : Cached) (leaf : Leaf) (o : Option C) → new ≡ with_behind old l slot cached leaf o
      → is_some o ≡ is_some old.cache → kinds new ≡ kinds old
  kinds_behind old new l has slot cached leaf o is some = ap (λ (x : Hand C B). kinds x) is
      ∙ ap (λ p. kinds_by old p (is_some o)) (sym (ap part_of has))
      ∙ ap (λ b. kinds_by old (part_of old.leaves) b) some

  -- the device was lent, the leaf changed, and the device came back
  pub behind_back : (a b c d : Hand C B) (l : LeafHand) (slot : ℕ) (cached : Cached) (leaf : Leaf)
      (o : Option C) → b ≡ record a { cache = None } → c ≡ with_behind b l slot cached leaf c.cache
      → d ≡ record c { cache = o } → d ≡ with_behind a l slot cached leaf d.cache
  behind_back a b c d l slot cached leaf o lent is back = back
      ∙ ap (λ (x : Hand C B). record x { cache = o }) is
      ∙ ap (λ (x : Hand C B). with_behind x l slot cached leaf o) lent
      ∙ ap (λ (p : Option C). with_behind a l slot cached leaf p)
      (sym (ap (λ (x : Hand C B). x.cache) back))

  pub same_back : (a b d : Hand C B) (o : Option C) → b ≡ record a { cache = None }
      → d ≡ record b { cache = o } → d ≡ record a { cache = d.cache }
  same_back a b d o lent back = back ∙ ap (λ (x : Hand C B). record x { cache = o }) lent
      ∙ ap (λ (p : Option C). record a { cache = p }) (sym (ap (λ (x : Hand C B). x.cache) back))

-- ---- how many sectors the device has

sectors_called : (o : Option Call) (x : Side) → (called which.Cache o x).sectors ≡ x.sectors
sectors_called None x = refl
sectors_called (Some call) x = go (same_device call.device which.Cache)
  where
    go : (b : Bool) → (if b then counted call.failed x else x).sectors ≡ x.sectors
    go true = refl
    go false = refl

sectors_stay : (x : World) (es : List Event) → (fold after x es).cache.sectors ≡ x.cache.sectors
sectors_stay x [] = refl
sectors_stay x (e ∷ es) = sectors_stay (after x e) es ∙ sectors_called (call_by e.deed) x.cache

module _ {C B : Type 0} (cache_facts : C → DiskFacts) (backing_facts : B → DiskFacts) where
  pub sectors_of : (p : PartsView (CorePart C B)) (v : View cache_facts backing_facts)
      → v.run ≡ p.run → (disk : C)
      → IsCache {B = B} cache_facts backing_facts disk (world cache_facts backing_facts v)
      → (cache_facts disk).sectors ≡ (cache_among cache_facts backing_facts p.run.start).sectors
  sectors_of p v run disk on = on.stands.sectors
      ∙ sectors_stay (opening cache_facts backing_facts v.run.start) v.seen
      ∙ ap (λ (r : Run (CorePart C B)). (cache_among cache_facts backing_facts r.start).sectors) run

  -- ---- the views

  module _ (u v w x : View cache_facts backing_facts)
      (still : (k : ℕ) → Holds u.parts k → Holds v.parts k)
      (its : IsCoreSeat cache_facts backing_facts u) (first : Waited (m cache_facts backing_facts) u v)
      (middle : IsCoreSeat cache_facts backing_facts v)
      (seat : IsCoreSeat cache_facts backing_facts w) (last : Waited (m cache_facts backing_facts) w x)
      (seen : x.seen ≡ w.seen) (told : x.heard ≡ w.heard)
      (end : IsCoreSeat cache_facts backing_facts x) (h0 h1 h2 h3 : Hand C B) (number : ℕ)
      (o : Option C) (lent : h1 ≡ record h0 { cache = None })
      (back : h3 ≡ record h2 { cache = o }) where
    abbrev its_leaves : h0.leaves ≡ h1.leaves
    its_leaves = sym (ap (λ (h : Hand C B). h.leaves) lent)

    pub appended_back : HasAppended cache_facts backing_facts number h1 h2 v w
        → HasAppended cache_facts backing_facts number h0 h3 u x
    appended_back a = record {
      slot = a.slot;
      at = leaf_in h1 h0 a.slot number its_leaves a.at;
      bytes = a.bytes;
      set = a.set;
      did = did_between cache_facts backing_facts
          (Some (append_by a.at.leaves.cache.geometry number a.at.cached.leaf a.bytes)) u v w x
          still first a.did last seen told end;
      leaf = a.leaf;
      appended = a.appended;
      now = behind_back h0 h1 h2 h3 a.at.leaves a.slot a.at.cached a.leaf o lent a.now back;
    }

    pub lost_back : HasLost cache_facts backing_facts number h1 h2 v w
        → HasLost cache_facts backing_facts number h0 h3 u x
    lost_back a = record {
      slot = a.slot;
      at = leaf_in h1 h0 a.slot number its_leaves a.at;
      bytes = a.bytes;
      set = a.set;
      did = did_between cache_facts backing_facts
          (Some (lost_by a.at.leaves.cache.geometry number a.at.cached.leaf a.bytes)) u v w x
          still first a.did last seen told end;
      now = behind_back h0 h1 h2 h3 a.at.leaves a.slot a.at.cached
          (record a.at.cached.leaf { loaded = true }) o lent a.now back;
    }

    pub appended_keeps : HasAppended cache_facts backing_facts number h1 h2 v w
        → KeepsPlaces cache_facts backing_facts u x
    appended_keeps a = kept_between cache_facts backing_facts u v w x its first
        (keeps_deed cache_facts backing_facts v w
        (append_by a.at.leaves.cache.geometry number a.at.cached.leaf a.bytes) middle refl a.did)
        seat last

    pub lost_keeps : HasLost cache_facts backing_facts number h1 h2 v w
        → KeepsPlaces cache_facts backing_facts u x
    lost_keeps a = kept_between cache_facts backing_facts u v w x its first
        (keeps_deed cache_facts backing_facts v w
        (lost_by a.at.leaves.cache.geometry number a.at.cached.leaf a.bytes) middle refl a.did)
        seat last

    pub appended_kinds : HasAppended cache_facts backing_facts number h1 h2 v w
        → is_some o ≡ is_some h0.cache → kinds h3 ≡ kinds h0
    appended_kinds a some = let b = appended_back a in
        kinds_behind h0 h3 b.at.leaves b.at.is b.slot b.at.cached b.leaf h3.cache b.now
        (ap (λ (h : Hand C B). is_some h.cache) back ∙ some)

    pub lost_kinds : HasLost cache_facts backing_facts number h1 h2 v w
        → is_some o ≡ is_some h0.cache → kinds h3 ≡ kinds h0
    lost_kinds a some = let b = lost_back a in
        kinds_behind h0 h3 b.at.leaves b.at.is b.slot b.at.cached
        (record b.at.cached.leaf { loaded = true }) h3.cache b.now
        (ap (λ (h : Hand C B). is_some h.cache) back ∙ some)
