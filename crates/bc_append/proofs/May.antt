-- When a further set of a leaf in hand may be written.
use Rattle.std.proofs.Common.{◌≡◌, ◌≢◌, inr, ℕ, ◌*◌, ◌-◌, ◌≤◌, Bool, true, false, List, [], ◌∷◌, Option, Some, None, sym, ap, subst, arith}
use Rattle.std.specs.Prelude.{length, slice_get}
use Rattle.std.proofs.lemmas.Bool.{lt-ltb}
use Rattle.bc_cache.specs.Slots.{IsSlotOf, NodeCache}
use Rattle.bc_cache.specs.declared.slots.Cached.{Cached}
use Rattle.bc_disk.specs.Disk.{DiskFacts}
use Rattle.bc_events.specs.Run.{CanDo, IsSome}
use Rattle.bc_events.specs.Writes.{map_some}
use Rattle.bc_events.specs.declared.event.Deed.{Deed}
use Rattle.bc_append.proofs.Held.{free_role}
use Rattle.bc_place.proofs.of_bc_deed.May.{low}
use Rattle.bc_place.proofs.of_bc_hand.Knowing.{View, m}
use Rattle.bc_place.proofs.Knowing.{may_each}
use Rattle.bc_place.specs.bc_hand.Seats.{AtDeed, IsCoreSeat, MayDo, by, world}
use Rattle.bc_place.specs.bc_machine.Containers.{AreEntriesOf, AreLeavesOf, IsLeafFor}
use Rattle.bc_place.specs.bc_machine.World.{AreLeaves, FromEach, IsCourseOf, IsOrigin, Origin, World, are_plain, replay, seen_from}
use Rattle.bc_place.specs.bc_machine.declared.part.CorePart.TheVariants as part
use Rattle.bc_known.specs.Acts as known
use Rattle.bc_known.specs.Acts.{FailCache, WriteCache}
use Rattle.bc_leaves.specs.Parts.{AllUpTo, Free, Pending, leaf_owner, node_of}
use Rattle.bc_leaves.specs.Parts as parts
use Rattle.bc_meta.specs.Tree.{NodeSet}
use Rattle.bc_model.specs.Sector.{Value}
use Rattle.bc_node.specs.Leaf.{IsFull}
use Rattle.bc_node.specs.declared.pending.Entries.{Entries}
use Rattle.bc_nodes_known.proofs.Law.{law_append, law_still}
use Rattle.bc_nodes_known.specs.Nodes.{IsDue, IsSetOf, MayAppend}
use Rattle.bc_parts.specs.Seat.{Holds}
use Rattle.bc_seats.proofs.Knowing.{lasts}
use Rattle.bc_seats.specs.Seats.{Since}
use Rattle.bc_shares.specs.Shares.{leaf_share}
use Rattle.bc_whole.specs.State.{OfSet}
use Rattle.bc_whole.specs.State as whole
use Rattle.bc_whole.specs.Together.{place_of}
use Rattle.bc_append.specs.Append.{BeginWithSet, append_by, lost_by, place_in, values_in}
use Rattle.bc_append.specs.Durable.{IsDurableTo}
use Rattle.bc_append.proofs.Lasting.{law_lasts}
use Rattle.bc_append.proofs.Sets.{is_set, set_seen}
use Rattle.bc_append.proofs.Spare.{can_write}
use Rattle.bc_append.proofs.Taken.{some_taken}

-- the entries of what is pending are durable
due_by : (entries : Entries) (o : Option Entries) (n : ℕ) (xs : List Pending) → o ≡ Some entries
    → AreEntriesOf o xs → entries.last ≤ n → (xs ≢ []) × AllUpTo n xs
due_by entries None n xs is are low = absurd (cc)
due_by entries (Some e) n xs is are low =
    let same : e ≡ entries = cc in (
      are.0,
      λ z i. (let up = are.2 z i in let last = ap (λ (y : Entries). y.last) same in
          omega (arith, up, last, low)),
    )

-- ---- the leaf in a slot

-- A leaf in a slot of a part, that may get a further set with these bytes.
pub record IsReady (cache : NodeCache) (slot : ℕ) (cached : Cached) (entries : Entries)
    (bytes : List ℕ) : Type 0 where
  pub there : slice_get cache.slots slot ≡ Some (Some cached)
  pub only : IsSlotOf cache.slots cached.number slot
  pub free : cached.held ≡ false
  pub own : cached.leaf.loaded ≡ false
  pub pending : cached.leaf.entries ≡ Some entries
  pub fits : ¬ (IsFull cache.geometry cached.leaf)
  pub set : BeginWithSet cache.geometry cached.leaf bytes
  pub whole : length bytes ≡ 512 * cache.geometry.node_sectors

module _ (part : ℕ) (cache : NodeCache) (slot : ℕ) (cached : Cached) (entries : Entries)
    (bytes : List ℕ) (ready : IsReady cache slot cached entries bytes) (x : World)
    (o : Origin) (is : IsOrigin x o) (course : IsCourseOf o x.log)
    (leaves : AreLeaves part cache x) (durable : FromEach x (IsDurableTo entries.last)) where
  abbrev at_opening : whole.Opening
  at_opening = o.opening.machine

  abbrev at_state : known.State
  at_state = (replay o x.log).machine

  abbrev number : ℕ
  number = cached.number

  abbrev its_values : List Value
  its_values = values_in cache.geometry cached.leaf bytes

  abbrev its_set : NodeSet
  its_set = set_seen cache.geometry cached.leaf

  pub part_is : AreLeavesOf at_opening at_state.whole.parts x.begun.leaf_parts part cache
  part_is = leaves o is course

  pub leaf_is : IsLeafFor at_opening (leaf_share at_state.whole.parts number) cached.leaf
  leaf_is = part_is.leaves slot cached ready.there

  pub role_is : (at_state.whole.parts.leaves number).role ≡ Free
  role_is = free_role at_state.whole.parts x.begun.leaf_parts part at_opening cache slot cached
      part_is ready.there ready.only ready.free

  is_due : IsDue at_state.whole.parts number
  is_due = let both = due_by entries cached.leaf.entries
      at_state.whole.parts.records.newest.number (at_state.whole.parts.leaves number).pending
      ready.pending leaf_is.entries (durable o is course) in record {
        some = both.0;
        durable = both.1;
      }

  pub unsent : (node_of at_state.whole.parts number).sent ≡ false
  unsent = (law_still x o is course).leaves number
      (subst parts.IsLive (sym role_is) tt) is_due

  taken : cached.leaf.taken ≢ 0
  taken = some_taken x o is course number cached.leaf leaf_is ready.own unsent

  pub set_of : IsSetOf at_opening cached.leaf (at_state.whole.parts.leaves number) its_set its_values
  set_of = is_set at_opening (leaf_share at_state.whole.parts number) cached.leaf cache.geometry
      bytes leaf_is part_is.layout ready.fits taken ready.set ready.whole

  pub may : MayAppend at_opening at_state number cached.leaf its_set its_values
  may = law_append x o is course cache.geometry number cached.leaf its_set its_values
      part_is.layout leaf_is ready.own role_is is_due set_of

module _ {C B : Type 0} (cache_facts : C → DiskFacts) (backing_facts : B → DiskFacts)
    (v : View cache_facts backing_facts) (seat : IsCoreSeat cache_facts backing_facts v)
    (cached_run : are_plain cache_facts backing_facts v.run.start ≡ false)
    (unheard : v.heard ≡ None) (part_number : ℕ) (cache : NodeCache)
    (holds : Holds v.parts part_number) (high : 6 ≤ part_number)
    (leaves : AreLeaves (part_number - 6) cache (world cache_facts backing_facts v))
    (slot : ℕ) (cached : Cached) (entries : Entries) (bytes : List ℕ)
    (ready : IsReady cache slot cached entries bytes)
    (durable : FromEach (world cache_facts backing_facts v) (IsDurableTo entries.last)) where
  pub durable_at : (x : World) → Since (m cache_facts backing_facts) v x
      → FromEach x (IsDurableTo entries.last)
  durable_at x since = lasts (m cache_facts backing_facts) v x
      (λ y. FromEach y (IsDurableTo entries.last)) (λ y e may on. law_lasts y e entries.last on)
      since durable

  module _ (d : Deed) (x : World) (o : Origin) (is : IsOrigin x o) (course : IsCourseOf o x.log)
      (at : AtDeed cache_facts backing_facts v d x (seen_from o x)) where
    leaves_at : AreLeaves (part_number - 6) cache x
    leaves_at = (at.stand part_number (part.Leaves cache) holds (high, leaves)).1

    can : MayAppend o.opening.machine (replay o x.log).machine cached.number cached.leaf
        (set_seen cache.geometry cached.leaf) (values_in cache.geometry cached.leaf bytes)
    can = may (part_number - 6) cache slot cached entries bytes ready x o is course leaves_at
        (durable_at x at.since)

    its_leaf : IsLeafFor o.opening.machine
        (leaf_share (replay o x.log).machine.whole.parts cached.number) cached.leaf
    its_leaf = leaf_is (part_number - 6) cache slot cached entries bytes ready x o is course
        leaves_at (durable_at x at.since)

    spelled : o.opening.machine.layout.sets.spelled
        (leaf_owner ((replay o x.log).machine.whole.parts.leaves cached.number))
        (values_in cache.geometry cached.leaf bytes) ≡ Some (set_seen cache.geometry cached.leaf)
    spelled = (set_of (part_number - 6) cache slot cached entries bytes ready x o is course
        leaves_at (durable_at x at.since)).spelled

  never : (b : Bool) → b ≡ true → b ≡ false → ⊥
  never b is off = cc

  pub may_append_set : MayDo cache_facts backing_facts v
      (append_by cache.geometry cached.number cached.leaf bytes)
  may_append_set = may_each cache_facts backing_facts v cached_run
      (append_by cache.geometry cached.number cached.leaf bytes) (λ o x is course at.
      let d = append_by cache.geometry cached.number cached.leaf bytes in
      let st = (replay o x.log).machine in
      let values = values_in cache.geometry cached.leaf bytes in
      let set = set_seen cache.geometry cached.leaf in
      let one = can d x o is course at in (
        subst (λ (s : Option NodeSet). IsSome (map_some (λ y. WriteCache y values ∷ [])
            (map_some (OfSet cached.number) s)) (λ acts. CanDo o.opening (replay o x.log) (by v.first d) acts))
            (sym (spelled d x o is course at)) (record {
              seat = lt-ltb v.first 320 (low cache_facts backing_facts v seat);
              course = (
                record {
                  data_allows = (
                    record {
                      heard = inr (at.late unheard);
                      steps = tt;
                      can = can_write x o is course cache.geometry
                          (leaves_at d x o is course at o is course).layout v.first cached.number cached.leaf
                          (its_leaf d x o is course at) set values one;
                    },
                    tt,
                  );
                  asks = (one.can_write, one.can_append);
                },
                tt,
              );
              fit = subst (λ (s : Option NodeSet). IsSome (map_some (OfSet cached.number) s)
                  (λ y. place_of o.opening.machine.layout st.whole y ≡ place_in cached.leaf))
                  (sym (spelled d x o is course at)) one.place;
              its_line = tt;
              plain = λ plain. absurd (never o.opening.machine.flow.plain plain is.cached);
            }),
        tt,
        tt,
      ))

  pub may_lose_set : MayDo cache_facts backing_facts v
      (lost_by cache.geometry cached.number cached.leaf bytes)
  may_lose_set = may_each cache_facts backing_facts v cached_run
      (lost_by cache.geometry cached.number cached.leaf bytes) (λ o x is course at.
      let d = lost_by cache.geometry cached.number cached.leaf bytes in
      let st = (replay o x.log).machine in
      let values = values_in cache.geometry cached.leaf bytes in
      let set = set_seen cache.geometry cached.leaf in
      let one = can d x o is course at in (
        subst (λ (s : Option NodeSet). IsSome (map_some (λ y. FailCache y values ∷ [])
            (map_some (OfSet cached.number) s)) (λ acts. CanDo o.opening (replay o x.log) (by v.first d) acts))
            (sym (spelled d x o is course at)) (record {
              seat = lt-ltb v.first 320 (low cache_facts backing_facts v seat);
              course = (
                record {
                  data_allows = (
                    record {
                      heard = inr (at.late unheard);
                      steps = tt;
                      can = can_write x o is course cache.geometry
                          (leaves_at d x o is course at o is course).layout v.first cached.number cached.leaf
                          (its_leaf d x o is course at) set values one;
                    },
                    tt,
                  );
                  asks = (one.can_write, one.can_append);
                },
                tt,
              );
              fit = subst (λ (s : Option NodeSet). IsSome (map_some (OfSet cached.number) s)
                  (λ y. place_of o.opening.machine.layout st.whole y ≡ place_in cached.leaf))
                  (sym (spelled d x o is course at)) one.place;
              its_line = tt;
              plain = λ plain. absurd (never o.opening.machine.flow.plain plain is.cached);
            }),
        tt,
        tt,
      ))
