-- What a seat has and knows behind a deed that wrote a new node, or whose write failed.
use Rattle.std.proofs.Common.{◌≡◌, ℕ, ◌+◌, ◌-◌, true, Some, refl, sym, ◌∙◌, subst}
use Rattle.bc_disk.specs.Disk.{DiskFacts}
use Rattle.bc_drafts.proofs.Staying.{law_still}
use Rattle.bc_drafts.specs.Draft.{HasFirst, HasNoInner, HasNoLeaf, IsDraftInner, IsDraftLeaf}
use Rattle.bc_events.specs.Run as core
use Rattle.bc_events.specs.Writes.{draft_inner, draft_leaf}
use Rattle.bc_events.specs.declared.event.Deed.{Deed}
use Rattle.bc_events.specs.declared.event.NewNode.{NewNode}
use Rattle.bc_held.proofs.Keeping.{held_deed, held_since, number_of, other_deed, other_since, vacant_since}
use Rattle.bc_held.proofs.of_bc_hand.Knowing.{View, framed, m}
use Rattle.bc_held.proofs.of_bc_place.Knowing.{before_since, known_committed}
use Rattle.bc_held.specs.Held.{IsHeldFor, IsVacantIn, leaves_held, number_in}
use Rattle.bc_held.specs.bc_hand.Seats.{Did, IsCoreSeat, by, world}
use Rattle.bc_held.specs.bc_machine.World.{FromEach, IsCourseOf, IsOrigin, IsSpinePart, Origin, World, replay}
use Rattle.bc_held.specs.bc_machine.Containers.{IsSpinePartOf}
use Rattle.bc_held.specs.bc_machine.declared.part.CorePart.TheVariants as part
use Rattle.bc_held.specs.bc_machine.declared.part.SpinePart.{SpinePart}
use Rattle.bc_held.specs.bc_place.Place.{HasBefore}
use Rattle.bc_held.specs.declared.held.HeldBucket.{HeldBucket}
use Rattle.bc_leaves.specs.Enabled.{IsVacant}
use Rattle.bc_meta.specs.Tree.{NodeSet}
use Rattle.bc_new_node.proofs.Came.{OneCame, came_inner, came_leaf, came_no_inner, came_no_leaf, came_spine, came_vacant}
use Rattle.bc_new_node.specs.Wrote.{KeepsDraftsBut}
use Rattle.bc_parts.specs.Seat.{Holds}
use Rattle.bc_seats.proofs.Knowing.{held, still}
use Rattle.bc_seats.specs.Seats.{Since}

module _ {C B : Type 0} (cache_facts : C → DiskFacts) (backing_facts : B → DiskFacts)
    (v : View cache_facts backing_facts) (spine : Holds v.parts 0) (x : World)
    (since : Since (m cache_facts backing_facts) v x) where
  -- what others leave of new nodes, while the tree is in hand
  pub draft_leaf_since : (n : NewNode) (set : NodeSet)
      → FromEach (world cache_facts backing_facts v) (IsDraftLeaf n set)
      → FromEach x (IsDraftLeaf n set)
  draft_leaf_since n set h = still (m cache_facts backing_facts) v x
      (λ y. FromEach y (IsDraftLeaf n set))
      (λ y e may foreign was. law_still.leaf y e n set (foreign.1 0 spine) was) since h

  pub draft_inner_since : (n : NewNode) (set : NodeSet)
      → FromEach (world cache_facts backing_facts v) (IsDraftInner n set)
      → FromEach x (IsDraftInner n set)
  draft_inner_since n set h = still (m cache_facts backing_facts) v x
      (λ y. FromEach y (IsDraftInner n set))
      (λ y e may foreign was. law_still.inner y e n set (foreign.1 0 spine) was) since h

  pub no_leaf_since : (k : ℕ) → FromEach (world cache_facts backing_facts v) (HasNoLeaf k)
      → FromEach x (HasNoLeaf k)
  no_leaf_since k h = still (m cache_facts backing_facts) v x (λ y. FromEach y (HasNoLeaf k))
      (λ y e may foreign was. law_still.no_leaf y e k (foreign.1 0 spine) was) since h

  pub no_inner_since : (k : ℕ) → FromEach (world cache_facts backing_facts v) (HasNoInner k)
      → FromEach x (HasNoInner k)
  no_inner_since k h = still (m cache_facts backing_facts) v x (λ y. FromEach y (HasNoInner k))
      (λ y e may foreign was. law_still.no_inner y e k (foreign.1 0 spine) was) since h

module _ {C B : Type 0} (cache_facts : C → DiskFacts) (backing_facts : B → DiskFacts)
    (v w : View cache_facts backing_facts) (seat : IsCoreSeat cache_facts backing_facts v)
    (spine : Holds v.parts 0) (before : ℕ)
    (first : FromEach (world cache_facts backing_facts v) (HasBefore before)) (b : HeldBucket)
    (mine : FromEach (world cache_facts backing_facts v) (IsHeldFor v.first b))
    (vacant : FromEach (world cache_facts backing_facts v) (IsVacantIn b)) (d : Deed)
    (did : Did cache_facts backing_facts (Some d) v w) (slot : ℕ)
    (comes : (o : Origin) → IsOrigin did.is.before o → IsCourseOf o did.is.before.log
    → OneCame slot (b.bucket - before) (replay o did.is.before.log).machine
    (core.after o.opening (replay o did.is.before.log) (by v.first d)).machine) where
  abbrev q : ℕ
  q = b.bucket - before

  abbrev y : World
  y = did.is.before

  number_at : (o : Origin) → IsOrigin y o → IsCourseOf o y.log → q ≡ number_in b o
  number_at o is course = number_of before b o
      (before_since cache_facts backing_facts v before first y did.is.since o is course)
      (held_since cache_facts backing_facts v y seat did.is.since b mine o is course).lies

  vacant_at : (o : Origin) → IsOrigin y o → IsCourseOf o y.log
      → IsVacant (replay o y.log).machine.whole.parts q
  vacant_at o is course = subst (IsVacant (replay o y.log).machine.whole.parts)
      (sym (number_at o is course))
      (vacant_since cache_facts backing_facts v y spine did.is.since b vacant o is course)

  -- the tree in hand
  pub spine_behind : (p : SpinePart) → IsSpinePart p (world cache_facts backing_facts v)
      → p.changing ≡ true
      → IsSpinePart (record p { next_seq = p.next_seq + 1 }) (world cache_facts backing_facts w)
  spine_behind p on changing = known_committed cache_facts backing_facts v w d
      (λ o st. IsSpinePartOf o.opening.machine st.machine (record p { next_seq = p.next_seq + 1 }))
      did (λ o is course. came_spine slot q (replay o y.log).machine
      (core.after o.opening (replay o y.log) (by v.first d)).machine (comes o is course)
      (vacant_at o is course) o.opening.machine p
      ((held (m cache_facts backing_facts) (framed cache_facts backing_facts) v y 0 (part.Spine p)
      seat.seat did.is.since spine (refl, on)).1 o is course) changing)

  -- what it knows still
  pub drafts_behind : ((r : ℕ) → leaves_held r d ≡ true)
      → KeepsDraftsBut cache_facts backing_facts slot q b v w
  drafts_behind leaves = record {
    leaf = λ n set h. known_committed cache_facts backing_facts v w d (IsDraftLeaf n set) did
        (λ o is course.
        let was = draft_leaf_since cache_facts backing_facts v spine y did.is.since n set h o is
        course in
        let now = came_leaf slot q (replay o y.log).machine
        (core.after o.opening (replay o y.log) (by v.first d)).machine (comes o is course)
        (vacant_at o is course) (HasFirst set) n.slot (draft_leaf n) refl was.is was.node in
        record { is = now.0; node = now.1 });
    inner = λ n set h. known_committed cache_facts backing_facts v w d (IsDraftInner n set) did
        (λ o is course.
        let was = draft_inner_since cache_facts backing_facts v spine y did.is.since n set h o is
        course in
        let now = came_inner slot q (replay o y.log).machine
        (core.after o.opening (replay o y.log) (by v.first d)).machine (comes o is course)
        (vacant_at o is course) (HasFirst set) n.slot (draft_inner n) refl was.is was.node in
        record { is = now.0; node = now.1 });
    no_leaf = λ k ne h. known_committed cache_facts backing_facts v w d (HasNoLeaf k) did
        (λ o is course. came_no_leaf slot q (replay o y.log).machine
        (core.after o.opening (replay o y.log) (by v.first d)).machine (comes o is course)
        (vacant_at o is course) k ne
        (no_leaf_since cache_facts backing_facts v spine y did.is.since k h o is course));
    no_inner = λ k ne h. known_committed cache_facts backing_facts v w d (HasNoInner k) did
        (λ o is course. came_no_inner slot q (replay o y.log).machine
        (core.after o.opening (replay o y.log) (by v.first d)).machine (comes o is course)
        (vacant_at o is course) k ne
        (no_inner_since cache_facts backing_facts v spine y did.is.since k h o is course));
    held = λ a h. held_deed cache_facts backing_facts v w d seat leaves did a h;
    vacant = λ a other h. known_committed cache_facts backing_facts v w d (IsVacantIn a) did
        (λ o is course. came_vacant slot q (replay o y.log).machine
        (core.after o.opening (replay o y.log) (by v.first d)).machine (comes o is course)
        (vacant_at o is course) (number_in a o)
        (λ same. other_since cache_facts backing_facts v y seat did.is.since a b other o is course
        (same ∙ number_at o is course))
        (vacant_since cache_facts backing_facts v y spine did.is.since a h o is course));
    other = λ a c h. other_deed cache_facts backing_facts v w d seat did a c h;
  }
