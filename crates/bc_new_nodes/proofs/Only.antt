-- Which new nodes there may be goes on to hold while the tree is in hand, and with each that the seat
-- writes itself.
use Rattle.std.proofs.Common.{◌≡◌, ◌⊎◌, inr, ℕ, true, false, List, [], ◌∷◌, take, Option, Some, None, refl, sym, ap, ◌∙◌, subst}
use Rattle.std.specs.Prelude.{if◌then◌else◌}
use Rattle.bc_disk.specs.Disk.{DiskFacts}
use Rattle.bc_events.specs.Run as core
use Rattle.bc_events.specs.Run.{acts_or_none}
use Rattle.bc_events.specs.Writes.{draft_inner, draft_leaf, map_some}
use Rattle.bc_events.specs.declared.event.Deed.{Deed}
use Rattle.bc_events.specs.declared.event.Deed.TheVariants as deed
use Rattle.bc_events.specs.declared.event.Event.{Event}
use Rattle.bc_events.specs.declared.event.NewNode.{NewNode as Named}
use Rattle.bc_events.specs.declared.event.Written.TheVariants as written
use Rattle.bc_known.specs.Acts as known
use Rattle.bc_known.specs.Acts.{WriteCache}
use Rattle.bc_known.specs.Run as machine
use Rattle.bc_leaves.specs.Parts.{Draft, Role}
use Rattle.bc_leaves.specs.Parts as parts
use Rattle.bc_meta.proofs.Lists.{by_test}
use Rattle.bc_meta.specs.Tree.{NodeSet}
use Rattle.bc_model.specs.Sector.{Value}
use Rattle.bc_new_node.proofs.of_bc_hand.Knowing.{View, m}
use Rattle.bc_new_node.proofs.of_bc_place.Going.{happens}
use Rattle.bc_new_node.proofs.of_bc_place.Knowing.{known_changed}
use Rattle.bc_new_node.specs.bc_hand.Seats.{Did, by, world}
use Rattle.bc_new_node.specs.bc_held.declared.held.HeldBucket.{HeldBucket}
use Rattle.bc_new_node.specs.bc_machine.Containers.{Rests}
use Rattle.bc_new_node.specs.bc_machine.Standing.{oldest_first, origin_before, replay_is}
use Rattle.bc_new_node.specs.bc_machine.World.{FromEach, IsCourseOf, IsOrigin, Origin, World, after, replay}
use Rattle.bc_new_nodes.specs.Course.{HasOnly, HasOnlyIn, IsBucketIn}
use Rattle.bc_parts.specs.Seat.{Holds}
use Rattle.bc_plan.specs.declared.write.NewNode.{NewNode}
use Rattle.bc_seats.proofs.Knowing.{still}
use Rattle.bc_seats.specs.Seats.{Since}
use Rattle.bc_shares.proofs.Law.{law_spine}
use Rattle.bc_shares.specs.Shares.{SameSpine, Shape}
use Rattle.bc_shares.specs.Touched.{touches_spine}
use Rattle.bc_spine.specs.Exchange.{coming}
use Rattle.bc_spine.specs.Numbers.{HasNumber}
use Rattle.bc_spine.specs.declared.exchange.Exchange.{Exchange}
use Rattle.bc_whole.specs.State as whole
use Rattle.bc_whole.specs.State.{OfInner, OfLeaf}

-- what is said of one slot
abbrev RestsOr : Type 0 → Role → Type 0
RestsOr P role = Rests role ⊎ ((role ≡ Draft) × P)

-- ---- an event that leaves the tree alone

module _ (e : Exchange) (nodes : List NewNode) (bs : List HeldBucket) where
  only_same : (o : Origin) (a b : core.State) → SameSpine a.machine b.machine
      → HasOnly e nodes bs o a → HasOnly e nodes bs o b
  only_same o a b same h = record {
    change = same.change ∙ h.change;
    leaves = λ k. subst (RestsOr (HasNumber (coming e) k))
        (sym (ap (λ (s : Shape). s.role) (same.leaves k))) (h.leaves k);
    inner_nodes = λ x. subst (RestsOr (IsBucketIn nodes bs o x))
        (sym (ap (λ (f : ℕ → parts.InnerNode). (f x).role) same.slots)) (h.inner_nodes x);
  }

  pub law_only : (x : World) (ev : Event) → touches_spine ev.deed ≡ false
      → FromEach x (HasOnly e nodes bs) → FromEach (after x ev) (HasOnly e nodes bs)
  law_only x ev off h o is course =
      let before = origin_before x ev o is in
      let on = course.0.enabled in
      let it = happens x o ev before course.2 on in
      only_same o (replay o x.log) (core.after o.opening (replay o x.log) ev)
      (subst (λ (st : core.State). SameSpine st.machine (core.after o.opening st ev).machine)
      (sym (replay_is o x.log))
      (law_spine o.opening o.parts o.next_seq (oldest_first x.log) ev it off))
      (h o before course.2)

  -- ---- a new node

  module _ (o : Origin) (w : whole.Opening) (a : known.State) (i : ℕ) (values : List Value)
      (h : HasOnlyIn e nodes bs o a.whole.parts) where
    leaf_more : (slot : ℕ) (leaf : parts.Leaf) (set : NodeSet) → leaf.role ≡ Draft
        → HasNumber (coming e) slot
        → HasOnlyIn e nodes bs o
        (known.after w a i (WriteCache (OfLeaf slot leaf set) values)).whole.parts
    leaf_more slot leaf set draft there = record {
      change = h.change;
      leaves = λ k. by_test k slot (λ t. RestsOr (HasNumber (coming e) k)
          (if t then leaf else a.whole.parts.leaves k).role)
          (λ same. inr (draft, subst (HasNumber (coming e)) (sym same) there))
          (λ ne. h.leaves k);
      inner_nodes = h.inner_nodes;
    }

    inner_more : (slot : ℕ) (n : parts.InnerNode) (set : NodeSet) → n.role ≡ Draft
        → IsBucketIn nodes bs o slot
        → HasOnlyIn e nodes bs o
        (known.after w a i (WriteCache (OfInner slot n set) values)).whole.parts
    inner_more slot n set draft there = record {
      change = h.change;
      leaves = h.leaves;
      inner_nodes = λ x. by_test x slot (λ t. RestsOr (IsBucketIn nodes bs o x)
          (if t then n else a.whole.parts.inner_nodes x).role)
          (λ same. inr (draft, subst (IsBucketIn nodes bs o) (sym same) there))
          (λ ne. h.inner_nodes x);
    }

    leaf_acts : (n : Named) → HasNumber (coming e) n.slot → (found : Option NodeSet)
        → HasOnlyIn e nodes bs o (machine.run w a (core.by i (acts_or_none
        (map_some (λ x. WriteCache x values ∷ []) (map_some (OfLeaf n.slot (draft_leaf n)) found))))).whole.parts
    leaf_acts n there None = h
    leaf_acts n there (Some set) = leaf_more n.slot (draft_leaf n) set refl there

    inner_acts : (n : Named) → IsBucketIn nodes bs o n.slot → (found : Option NodeSet)
        → HasOnlyIn e nodes bs o (machine.run w a (core.by i (acts_or_none
        (map_some (λ x. WriteCache x values ∷ []) (map_some (OfInner n.slot (draft_inner n)) found))))).whole.parts
    inner_acts n there None = h
    inner_acts n there (Some set) = inner_more n.slot (draft_inner n) set refl there

  leaf_only : (o : Origin) (st : core.State) (i at : ℕ) (n : Named) (values : List Value)
      → HasNumber (coming e) n.slot → HasOnly e nodes bs o st
      → HasOnly e nodes bs o
      (core.after o.opening st (by i (deed.CacheWrite at (written.Leaf n) values)))
  leaf_only o st i at n values there h = leaf_acts o o.opening.machine st.machine i values h n there
      (o.opening.machine.layout.sets.spelled (record { word = n.word; leaf = true })
      (take n.sectors values))

  inner_only : (o : Origin) (st : core.State) (i at : ℕ) (n : Named) (values : List Value)
      → IsBucketIn nodes bs o n.slot → HasOnly e nodes bs o st
      → HasOnly e nodes bs o
      (core.after o.opening st (by i (deed.CacheWrite at (written.Inner n) values)))
  inner_only o st i at n values there h = inner_acts o o.opening.machine st.machine i values h n there
      (o.opening.machine.layout.sets.spelled (record { word = n.word; leaf = false })
      (take n.sectors values))

  -- ---- the seat

  module _ {C B : Type 0} (cache_facts : C → DiskFacts) (backing_facts : B → DiskFacts)
      (v : View cache_facts backing_facts) (spine : Holds v.parts 0)
      (h : FromEach (world cache_facts backing_facts v) (HasOnly e nodes bs)) where
    pub only_since : (x : World) → Since (m cache_facts backing_facts) v x
        → FromEach x (HasOnly e nodes bs)
    only_since x since = still (m cache_facts backing_facts) v x
        (λ y. FromEach y (HasOnly e nodes bs))
        (λ y ev may foreign was. law_only y ev (foreign.1 0 spine) was) since h

    -- behind a deed that leaves the tree alone
    pub only_did : (w : View cache_facts backing_facts) (d : Deed) → touches_spine d ≡ false
        → Did cache_facts backing_facts (Some d) v w
        → FromEach (world cache_facts backing_facts w) (HasOnly e nodes bs)
    only_did w d off did = subst (λ (x : World). FromEach x (HasOnly e nodes bs)) (sym did.is.state)
        (law_only did.is.before (by v.first d) off (only_since did.is.before did.is.since))

    -- behind the write of a leaf, and of an inner node
    pub only_leaf : (w : View cache_facts backing_facts) (at : ℕ) (n : Named) (values : List Value)
        → HasNumber (coming e) n.slot
        → Did cache_facts backing_facts (Some (deed.CacheWrite at (written.Leaf n) values)) v w
        → FromEach (world cache_facts backing_facts w) (HasOnly e nodes bs)
    only_leaf w at n values there did = known_changed cache_facts backing_facts v w
        (deed.CacheWrite at (written.Leaf n) values) (HasOnly e nodes bs) (HasOnly e nodes bs) did
        (λ o is course on was. leaf_only o (replay o did.is.before.log) v.first at n values there was)
        (only_since did.is.before did.is.since)

    pub only_inner : (w : View cache_facts backing_facts) (at : ℕ) (n : Named) (values : List Value)
        → (did : Did cache_facts backing_facts (Some (deed.CacheWrite at (written.Inner n) values)) v w)
        → ((o : Origin) → IsOrigin did.is.before o → IsCourseOf o did.is.before.log
        → IsBucketIn nodes bs o n.slot)
        → FromEach (world cache_facts backing_facts w) (HasOnly e nodes bs)
    only_inner w at n values did there = known_changed cache_facts backing_facts v w
        (deed.CacheWrite at (written.Inner n) values) (HasOnly e nodes bs) (HasOnly e nodes bs) did
        (λ o is course on was. inner_only o (replay o did.is.before.log) v.first at n values
        (there o is course) was)
        (only_since did.is.before did.is.since)
