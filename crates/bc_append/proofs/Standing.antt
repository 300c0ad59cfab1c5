-- What stands behind a further set, and behind one whose write failed.
use Rattle.std.proofs.Common.{◌≡◌, ℕ, ◌-◌, ◌≤◌, Bool, true, false, List, Some, refl, sym, ap, subst}
use Rattle.std.specs.Prelude.{slice_get}
use Rattle.bc_cache.specs.Slots.{NodeCache, with_slot}
use Rattle.bc_cache.specs.declared.slots.Cached.{Cached}
use Rattle.bc_disk.specs.Device.{Content, after_failed_write, after_write, failed, written}
use Rattle.bc_disk.specs.Disk.{DiskFacts, IsFailedWrite, IsWritten, StandsFor}
use Rattle.bc_disk.proofs.Stands.{CountsFault, CountsGood, failed_write_stands, write_stands}
use Rattle.bc_events.specs.Run as core
use Rattle.bc_events.specs.declared.event.Deed.{Deed}
use Rattle.bc_place.proofs.of_bc_hand.Knowing.{View, framed, m}
use Rattle.bc_place.proofs.Knowing.{known_committed}
use Rattle.bc_place.specs.bc_hand.Seats.{Did, IsCoreSeat, by, world}
use Rattle.bc_place.specs.bc_machine.Containers.{AreLeavesOf, IsLeafFor}
use Rattle.bc_place.specs.bc_machine.World.{AreLeaves, FromEach, IsCache, IsCourseOf, IsOrigin, Origin, Side, World, after, counted, model, replay}
use Rattle.bc_place.specs.bc_machine.declared.part.CorePart.TheVariants as part
use Rattle.bc_append.proofs.Course.{inv_course}
use Rattle.bc_known.specs.Acts as known
use Rattle.bc_leaves.specs.After as parts_step
use Rattle.bc_leaves.specs.Events.{FailSet, WriteSet}
use Rattle.bc_leaves.specs.Fits.{HaveBuckets}
use Rattle.bc_leaves.specs.Parts.{leaf_owner, node_of}
use Rattle.bc_leaves.specs.Parts as parts
use Rattle.bc_meta.specs.Tree.{NodeSet}
use Rattle.bc_model.specs.Sector.{Value}
use Rattle.bc_node.specs.Leaf.{IsAppended, Leaf}
use Rattle.bc_node.specs.declared.pending.Entries.{Entries}
use Rattle.bc_parts.specs.Seat.{Holds}
use Rattle.bc_seats.proofs.Knowing.{held, lasts}
use Rattle.bc_shares.specs.Shares.{LeafShare, leaf_share}
use Rattle.bc_whole.specs.State as whole
use Rattle.bc_append.specs.Append.{append_by, lost_by, place_in, values_in}
use Rattle.bc_append.specs.Durable.{IsDurableTo}
use Rattle.bc_append.proofs.Behind.{appended, lost, lost_changes, lost_share, set_changes, set_share}
use Rattle.bc_append.proofs.Lasting.{law_lasts}
use Rattle.bc_append.proofs.Leaf.{behind_failure, behind_set}
use Rattle.bc_append.proofs.May.{IsReady, leaf_is, part_is, role_is, set_of, unsent}
use Rattle.bc_append.proofs.Part.{part_stands}
use Rattle.bc_append.proofs.Sets.{set_seen}

-- ---- the device

write_model : (x : Side) (at : ℕ) (values : List Value) (c : Content)
    → after_write at values (model x c) ≡ model (counted false x) (written at values c)
write_model x at values c = go x.told
  where
    go : (b : Bool) → after_write at values (model (record x { told = b }) c)
        ≡ model (counted false (record x { told = b })) (written at values c)
    go true = refl
    go false = refl

failed_model : (x : Side) (at : ℕ) (values : List Value) (c : Content)
    → after_failed_write at values (model x c) ≡ model (counted true x) (failed at values c)
failed_model x at values c = go x.told
  where
    go : (b : Bool) → after_failed_write at values (model (record x { told = b }) c)
        ≡ model (counted true (record x { told = b })) (failed at values c)
    go true = refl
    go false = refl

module _ {C B : Type 0} (cache_facts : C → DiskFacts) (backing_facts : B → DiskFacts) where
  -- the cache device behind a commit that changed it
  committed_cache : (v w : View cache_facts backing_facts) (old new : C) (d : Deed)
      → IsCoreSeat cache_facts backing_facts v → Holds v.parts 4
      → IsCache {B = B} cache_facts backing_facts old (world cache_facts backing_facts v)
      → Did cache_facts backing_facts (Some d) v w
      → ((x : World) → IsCache {B = B} cache_facts backing_facts old x
      → IsCache {B = B} cache_facts backing_facts new (after x (by v.first d)))
      → IsCache {B = B} cache_facts backing_facts new (world cache_facts backing_facts w)
  committed_cache v w old new d seat holds on did step =
      subst (IsCache {B = B} cache_facts backing_facts new) (sym did.is.state)
      (step did.is.before (held (m cache_facts backing_facts) (framed cache_facts backing_facts) v
      did.is.before 4 (part.Cache old) seat.seat did.is.since holds (refl, on)).1)

-- ---- the part with the leaf, in each state in which it may be done

module _ (part : ℕ) (cache : NodeCache) (slot : ℕ) (cached : Cached) (entries : Entries)
    (bytes : List ℕ) (ready : IsReady cache slot cached entries bytes) (x : World)
    (o : Origin) (is : IsOrigin x o) (course : IsCourseOf o x.log)
    (leaves : AreLeaves part cache x) (durable : FromEach x (IsDurableTo entries.last)) where
  abbrev w : whole.Opening
  w = o.opening.machine

  abbrev st : core.State
  st = replay o x.log

  abbrev p : parts.State
  p = st.machine.whole.parts

  abbrev k : ℕ
  k = cached.number

  abbrev values : List Value
  values = values_in cache.geometry cached.leaf bytes

  abbrev set : NodeSet
  set = set_seen cache.geometry cached.leaf

  its_part : AreLeavesOf w p x.begun.leaf_parts part cache
  its_part = part_is part cache slot cached entries bytes ready x o is course leaves durable

  its_leaf : IsLeafFor w (leaf_share p k) cached.leaf
  its_leaf = leaf_is part cache slot cached entries bytes ready x o is course leaves durable

  free : (p.leaves k).role ≡ parts.Free
  free = role_is part cache slot cached entries bytes ready x o is course leaves durable

  off : (node_of p k).sent ≡ false
  off = unsent part cache slot cached entries bytes ready x o is course leaves durable

  spelled : w.layout.sets.spelled (leaf_owner (p.leaves k)) values ≡ Some set
  spelled = (set_of part cache slot cached entries bytes ready x o is course leaves durable).spelled

  buckets : HaveBuckets p.records.nodes p.leaves p.inner_nodes
  buckets = (inv_course o is.sound x.log course).fits.buckets

  only : (i : ℕ) (c : Cached) → slice_get cache.slots i ≡ Some (Some c) → c.number ≡ k → i ≡ slot
  only i c at same = ready.only.only i (record { cached = c; there = at; number_is = same })

  abbrev Stands : NodeCache → parts.State → Type 0
  Stands c a = AreLeavesOf w a x.begun.leaf_parts part c

  pub stands_set : (i : ℕ) (new : Leaf) → IsAppended cache.geometry cached.leaf new
      → Stands (with_slot cache slot (Some (record cached { leaf = new })))
      (core.after o.opening st (by i (append_by cache.geometry k cached.leaf bytes))).machine.whole.parts
  stands_set i new is_new =
      let a = parts_step.after p (WriteSet k set values) in
      subst (λ (y : known.State). Stands (with_slot cache slot (Some (record cached { leaf = new })))
      y.whole.parts)
      (sym (appended o.opening st i k (place_in cached.leaf) values set spelled))
      (part_stands w p a x.begun.leaf_parts part cache slot cached new its_part ready.there only
      (set_changes p k set values free buckets)
      (subst (λ (s : LeafShare). IsLeafFor w s new)
      (sym (set_share p k set values free buckets))
      (behind_set w (leaf_share p k) (node_of p k) refl off cache.geometry its_part.layout
      cached.leaf its_leaf new is_new
      (set_of part cache slot cached entries bytes ready x o is course leaves durable).says)))

  pub stands_lost : (i : ℕ)
      → Stands (with_slot cache slot
      (Some (record cached { leaf = record cached.leaf { loaded = true } })))
      (core.after o.opening st (by i (lost_by cache.geometry k cached.leaf bytes))).machine.whole.parts
  stands_lost i =
      let a = parts_step.after p (FailSet k set values) in
      let new = record cached.leaf { loaded = true } in
      subst (λ (y : known.State). Stands (with_slot cache slot (Some (record cached { leaf = new })))
      y.whole.parts)
      (sym (lost o.opening st i k (place_in cached.leaf) values set spelled))
      (part_stands w p a x.begun.leaf_parts part cache slot cached new its_part ready.there only
      (lost_changes p k set values free buckets)
      (subst (λ (s : LeafShare). IsLeafFor w s new)
      (sym (lost_share p k set values free buckets))
      (behind_failure w (leaf_share p k) (node_of p k) refl off cache.geometry its_part.layout
      cached.leaf its_leaf set)))

-- ---- what a seat has behind its deed

module _ {C B : Type 0} (cache_facts : C → DiskFacts) (backing_facts : B → DiskFacts)
    (v w : View cache_facts backing_facts) (seat : IsCoreSeat cache_facts backing_facts v)
    (part_number : ℕ) (cache : NodeCache)
    (holds : Holds v.parts part_number) (high : 6 ≤ part_number)
    (leaves : AreLeaves (part_number - 6) cache (world cache_facts backing_facts v))
    (slot : ℕ) (cached : Cached) (entries : Entries) (bytes : List ℕ)
    (ready : IsReady cache slot cached entries bytes)
    (durable : FromEach (world cache_facts backing_facts v) (IsDurableTo entries.last)) where
  module _ (d : Deed) (did : Did cache_facts backing_facts (Some d) v w) where
    leaves_before : AreLeaves (part_number - 6) cache did.is.before
    leaves_before = (held (m cache_facts backing_facts) (framed cache_facts backing_facts) v
        did.is.before part_number (part.Leaves cache) seat.seat did.is.since holds (high, leaves)).1

    durable_before : FromEach did.is.before (IsDurableTo entries.last)
    durable_before = lasts (m cache_facts backing_facts) v did.is.before
        (λ y. FromEach y (IsDurableTo entries.last))
        (λ y e may on. law_lasts y e entries.last on) did.is.since durable

    -- from what each state before the deed leads to
    leaves_by : (new : NodeCache)
        → ((o : Origin) → IsOrigin did.is.before o → IsCourseOf o did.is.before.log
        → AreLeavesOf o.opening.machine
        (core.after o.opening (replay o did.is.before.log) (by v.first d)).machine.whole.parts
        did.is.before.begun.leaf_parts (part_number - 6) new)
        → AreLeaves (part_number - 6) new (world cache_facts backing_facts w)
    leaves_by new makes = subst (λ n. FromEach (world cache_facts backing_facts w)
        (λ o st. AreLeavesOf o.opening.machine st.machine.whole.parts n (part_number - 6) new))
        (ap (λ (x : World). x.begun.leaf_parts) (sym did.is.state))
        (known_committed cache_facts backing_facts v w d
        (λ o st. AreLeavesOf o.opening.machine st.machine.whole.parts
        did.is.before.begun.leaf_parts (part_number - 6) new) did makes)

  pub leaves_appended : (new : Leaf) → IsAppended cache.geometry cached.leaf new
      → Did cache_facts backing_facts
      (Some (append_by cache.geometry cached.number cached.leaf bytes)) v w
      → AreLeaves (part_number - 6) (with_slot cache slot (Some (record cached { leaf = new })))
      (world cache_facts backing_facts w)
  leaves_appended new is_new did =
      let d = append_by cache.geometry cached.number cached.leaf bytes in
      leaves_by d did (with_slot cache slot (Some (record cached { leaf = new })))
      (λ o is course. stands_set (part_number - 6) cache slot cached entries bytes ready
      did.is.before o is course (leaves_before d did) (durable_before d did) v.first new is_new)

  pub leaves_lost : Did cache_facts backing_facts
      (Some (lost_by cache.geometry cached.number cached.leaf bytes)) v w
      → AreLeaves (part_number - 6) (with_slot cache slot
      (Some (record cached { leaf = record cached.leaf { loaded = true } })))
      (world cache_facts backing_facts w)
  leaves_lost did =
      let d = lost_by cache.geometry cached.number cached.leaf bytes in
      leaves_by d did (with_slot cache slot
      (Some (record cached { leaf = record cached.leaf { loaded = true } })))
      (λ o is course. stands_lost (part_number - 6) cache slot cached entries bytes ready
      did.is.before o is course (leaves_before d did) (durable_before d did) v.first)

  module _ (old new : C) (device : Holds v.parts 4)
      (on : IsCache {C = C} {B = B} cache_facts backing_facts old
      (world cache_facts backing_facts v)) where
    pub cache_appended : Did cache_facts backing_facts
        (Some (append_by cache.geometry cached.number cached.leaf bytes)) v w
        → IsWritten (place_in cached.leaf) (values_in cache.geometry cached.leaf bytes)
        (cache_facts old) (cache_facts new) → CountsGood (cache_facts old) (cache_facts new)
        → IsCache {C = C} {B = B} cache_facts backing_facts new (world cache_facts backing_facts w)
    cache_appended did is counts = committed_cache cache_facts backing_facts v w old new
        (append_by cache.geometry cached.number cached.leaf bytes) seat device on did (λ x h. record {
          stands = subst (StandsFor (cache_facts new))
              (write_model x.cache (place_in cached.leaf)
              (values_in cache.geometry cached.leaf bytes) x.held)
              (write_stands (cache_facts old) (cache_facts new) (model x.cache x.held) h.stands
              (place_in cached.leaf) (values_in cache.geometry cached.leaf bytes) is counts);
        })

    pub cache_lost : Did cache_facts backing_facts
        (Some (lost_by cache.geometry cached.number cached.leaf bytes)) v w
        → IsFailedWrite (place_in cached.leaf) (values_in cache.geometry cached.leaf bytes)
        (cache_facts old) (cache_facts new) → CountsFault (cache_facts old) (cache_facts new)
        → IsCache {C = C} {B = B} cache_facts backing_facts new (world cache_facts backing_facts w)
    cache_lost did is counts = committed_cache cache_facts backing_facts v w old new
        (lost_by cache.geometry cached.number cached.leaf bytes) seat device on did (λ x h. record {
          stands = subst (StandsFor (cache_facts new))
              (failed_model x.cache (place_in cached.leaf)
              (values_in cache.geometry cached.leaf bytes) x.held)
              (failed_write_stands (cache_facts old) (cache_facts new) (model x.cache x.held)
              h.stands (place_in cached.leaf) (values_in cache.geometry cached.leaf bytes) is
              counts);
        })
