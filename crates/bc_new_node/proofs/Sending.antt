-- The step of a seat with the tree and the cache device in hand.
use Rattle.std.proofs.Common.{◌≡◌, inl, inr, ℕ, ◌+◌, ◌-◌, ◌*◌, ◌<◌, ◌≤◌, true, false, List, length, Some, None, refl, sym, ap, ◌∙◌, subst}
use Rattle.std.specs.Prelude.{Err, IfErr, Ok, OnErr, OnOk, Result}
use Rattle.bc_disk.specs.Disk.{DiskFacts, IsFailedWrite, IsWritten}
use Rattle.bc_disk.specs.declared.disk.Device.TheVariants.{Cache}
use Rattle.bc_disk.specs.declared.disk.Failed.{Failed}
use Rattle.bc_disk.specs.declared.geometry.Geometry.{Geometry}
use Rattle.bc_drafts.specs.Draft.{HasNoInner, HasNoLeaf, IsDraftInner, IsDraftLeaf}
use Rattle.bc_events.specs.Run as core
use Rattle.bc_events.specs.declared.event.Deed.{Deed}
use Rattle.bc_events.specs.declared.event.Deed.TheVariants as deed
use Rattle.bc_events.specs.declared.event.NewNode.{NewNode}
use Rattle.bc_events.specs.declared.event.Written.{Written}
use Rattle.bc_events.specs.declared.event.Written.TheVariants as written
use Rattle.bc_facts.specs.Layout.{IsLayoutOf}
use Rattle.bc_facts.specs.Seen.{kind_of, seen_set}
use Rattle.bc_held.proofs.of_bc_hand.Knowing.{View, m}
use Rattle.bc_held.proofs.of_bc_place.Keeping.{keeps_deed as places_deed, opening_lasts, since_by}
use Rattle.bc_held.proofs.of_bc_place.Knowing.{known_committed}
use Rattle.bc_held.proofs.of_bc_place.Storing.{cached_by}
use Rattle.bc_held.specs.Held.{IsHeldFor, IsVacantIn, leaves_held}
use Rattle.bc_held.specs.bc_hand.Seats.{Did, MayDo, Works, by, world}
use Rattle.bc_held.specs.bc_hand.declared.error.StepError.{StepError}
use Rattle.bc_held.specs.bc_hand.declared.error.StepError.TheVariants as error
use Rattle.bc_held.specs.bc_hand.declared.hand.Hand.{Hand}
use Rattle.bc_held.specs.bc_machine.World.{FromEach, IsCourseOf, IsOrigin, IsSpinePart, Origin, World, are_plain, changes, replay}
use Rattle.bc_held.specs.bc_machine.declared.part.CorePart.{CorePart}
use Rattle.bc_held.specs.bc_machine.declared.part.SpinePart.{SpinePart}
use Rattle.bc_held.specs.bc_place.Place.{HasBefore}
use Rattle.bc_held.specs.bc_place.Written.{KeepsPlaces, leaves_places}
use Rattle.bc_held.specs.declared.held.HeldBucket.{HeldBucket}
use Rattle.bc_inner.specs.Inner.{Inner, children_set}
use Rattle.bc_key.specs.Words.{ptr_word}
use Rattle.bc_key.specs.declared.ptr.Ptr.{Ptr}
use Rattle.bc_leaves.specs.Keys.{last_said}
use Rattle.bc_model.specs.Sector.{Value, values_of}
use Rattle.bc_new_node.proofs.Behind.{drafts_behind, no_inner_since, no_leaf_since, spine_behind}
use Rattle.bc_new_node.proofs.Brought.{Brings, brings, first_inner, first_leaf, inner_fits, leaf_fits}
use Rattle.bc_new_node.proofs.Came.{OneCame}
use Rattle.bc_new_node.proofs.Coming.{inner_comes, inner_there, leaf_comes, leaf_there}
use Rattle.bc_new_node.proofs.Covered.{proper_children}
use Rattle.bc_new_node.proofs.Device.{cache_sent}
use Rattle.bc_new_node.proofs.Doing.{may_inner, may_inner_lost, may_leaf, may_leaf_lost}
use Rattle.bc_new_node.proofs.Parts.{WritesNode, has_cache, has_spine, holds_changed, spine_there, works_behind}
use Rattle.bc_new_node.proofs.Said.{none_outside, proper_keys}
use Rattle.bc_new_node.specs.Kind.{HasNoNode, IsDividedBy, IsInnerOf, IsLeafOf, IsWriteOf, IsWrittenNew, MayWriteNew, inner_node, leaf_node}
use Rattle.bc_new_node.specs.Wrote.{AreNodeOf, HasWrittenNew, IsSentNew, KeepsDraftsBut, answer_to, lost_by, sent_by, write_by}
use Rattle.bc_node.specs.Leaf.{Leaf, pending_set}
use Rattle.bc_node.specs.Writing.{HasSet}
use Rattle.bc_parts.specs.Seat.{Holds, PartsView}
use Rattle.bc_plan.specs.Write.{FirstSet, HasFirstSet, IsFirstWrite, inner_set, leaf_set}
use Rattle.bc_plan.specs.declared.write.NewNode as plan
use Rattle.bc_seats.specs.Seats.{Kept, Since}
use Rattle.bc_set.specs.Records.{set_sectors}
use Rattle.bc_set.specs.SetBytes.{AreSetKeys}
use Rattle.bc_set.specs.declared.set.Set.{Set}
use Rattle.bc_tree.specs.declared.plan.Plan.{Plan}

-- ---- one call of the device

pub sent_new : (g : Geometry) (p : Plan) (node : plan.NewNode) (slot q : ℕ) (what : Written)
    (values : List Value) (r : Result (Unit {0}) Failed) (before after : DiskFacts) (bytes : List ℕ)
    (first : FirstSet) → IsWriteOf g p node slot q what → HasFirstSet p node first
    → IsFirstWrite g first bytes before after r → length bytes ≡ 512 * g.node_sectors
    → values ≡ values_of bytes → IsSentNew g p node slot q what values r before after
sent_new g p node slot q what values r before after bytes first what_is first_is did whole is = record {
  what_is = what_is;
  node_is = record {
    first = first;
    first_is = first_is;
    bytes = bytes;
    set = did.has;
    whole = whole;
    values_are = is;
  };
  good = subst (λ vs. OnOk r (IsWritten first.ptr.offset vs before after)) (sym is) did.ok;
  failed = subst (λ vs. OnErr r (IsFailedWrite first.ptr.offset vs before after)) (sym is)
      did.failed;
  counted = did.counted;
}

-- ---- the deed, whatever came of the call

writes_leaf : (at : ℕ) (n : NewNode) (values : List Value) (r : Result (Unit {0}) Failed)
    → WritesNode (sent_by at (written.Leaf n) values r)
writes_leaf at n values (Ok done) = record {
  flight = refl;
  buckets = refl;
  journal = refl;
  backing = refl;
  leaves = λ count part. refl;
}
writes_leaf at n values (Err lost) = record {
  flight = refl;
  buckets = refl;
  journal = refl;
  backing = refl;
  leaves = λ count part. refl;
}

writes_inner : (at : ℕ) (n : NewNode) (values : List Value) (r : Result (Unit {0}) Failed)
    → WritesNode (sent_by at (written.Inner n) values r)
writes_inner at n values (Ok done) = record {
  flight = refl;
  buckets = refl;
  journal = refl;
  backing = refl;
  leaves = λ count part. refl;
}
writes_inner at n values (Err lost) = record {
  flight = refl;
  buckets = refl;
  journal = refl;
  backing = refl;
  leaves = λ count part. refl;
}

leaves_sent : (at : ℕ) (what : Written) (values : List Value) (r : Result (Unit {0}) Failed) (j : ℕ)
    → leaves_held j (sent_by at what values r) ≡ true
leaves_sent at what values (Ok done) j = refl
leaves_sent at what values (Err lost) j = refl

places_leaf : (at : ℕ) (n : NewNode) (values : List Value) (r : Result (Unit {0}) Failed)
    → leaves_places (sent_by at (written.Leaf n) values r) ≡ true
places_leaf at n values (Ok done) = refl
places_leaf at n values (Err lost) = refl

places_inner : (at : ℕ) (n : NewNode) (values : List Value) (r : Result (Unit {0}) Failed)
    → leaves_places (sent_by at (written.Inner n) values r) ≡ true
places_inner at n values (Ok done) = refl
places_inner at n values (Err lost) = refl

module _ {C B : Type 0} (cache_facts : C → DiskFacts) (backing_facts : B → DiskFacts)
    (pv : PartsView (CorePart C B)) (v : View cache_facts backing_facts) (h : Hand C B) (old : C)
    (works : Works cache_facts backing_facts pv v (record h { cache = Some old }))
    (unheard : v.heard ≡ None) (cached : are_plain cache_facts backing_facts pv.run.start ≡ false)
    (before : ℕ) (p : Plan) (node : plan.NewNode) (slot : ℕ) (b : HeldBucket) (g : Geometry)
    (can : MayWriteNew h (cache_facts old).sectors p node b)
    (g_is : g ≡ can.spine.spine.geometry)
    (first : FromEach (world cache_facts backing_facts v) (HasBefore before))
    (divided : FromEach (world cache_facts backing_facts v) (IsDividedBy g))
    (free : FromEach (world cache_facts backing_facts v)
    (HasNoNode p node slot (b.bucket - before)))
    (mine : FromEach (world cache_facts backing_facts v) (IsHeldFor v.first b))
    (vacant : FromEach (world cache_facts backing_facts v) (IsVacantIn b)) (what : Written)
    (values : List Value) (r : Result (Unit {0}) Failed) (new : C) (number : ℕ)
    (number_is : number ≡ b.bucket - before)
    (given : IsSentNew g p node slot number what values r (cache_facts old) (cache_facts new)) where
  abbrev q : ℕ
  q = b.bucket - before

  sent : IsSentNew g p node slot q what values r (cache_facts old) (cache_facts new)
  sent = subst (λ k. IsSentNew g p node slot k what values r (cache_facts old) (cache_facts new))
      number_is given

  abbrev at : ℕ
  at = b.to.offset

  abbrev sp : SpinePart
  sp = can.spine

  abbrev n_is : AreNodeOf g p node values
  n_is = sent.node_is

  its_run : are_plain cache_facts backing_facts v.run.start ≡ false
  its_run = cached_by cache_facts backing_facts pv v works.run cached

  spine : Holds v.parts 0
  spine = has_spine cache_facts backing_facts pv v h old works sp can.in_hand

  device : Holds v.parts 4
  device = has_cache cache_facts backing_facts pv v h old works sp can.in_hand

  tree_is : IsSpinePart sp (world cache_facts backing_facts v)
  tree_is = spine_there cache_facts backing_facts pv v h old works sp can.in_hand

  which : Brings p node
  which = brings sp.spine.geometry (cache_facts old).sectors p node can.can

  divided_since : (x : World) → Since (m cache_facts backing_facts) v x → FromEach x (IsDividedBy g)
  divided_since x since = since_by cache_facts backing_facts (λ i. IsDividedBy g)
      (opening_lasts (λ o. IsLayoutOf g o.opening.machine.layout)) v x works.seat since divided

  -- ---- a leaf

  module _ (leaf : Leaf) (is : IsLeafOf p node leaf) where
    abbrev nl : NewNode
    nl = leaf_node slot q g leaf

    abbrev sl : Set
    sl = pending_set leaf

    its_first : can.first ≡ leaf_set leaf
    its_first = first_leaf p node can.first leaf can.first_is is

    word_leaf : ptr_word leaf.ptr ≡ ptr_word b.to
    word_leaf = ap ptr_word (sym (ap (λ (f : FirstSet). f.ptr) its_first) ∙ can.place)

    number_leaf : sl.seq ≡ sp.next_seq
    number_leaf = sym (ap (λ (f : FirstSet). f.set.seq) its_first) ∙ can.number

    fits_leaf : set_sectors g sl ≤ g.node_sectors
    fits_leaf = subst (λ (x : Geometry). set_sectors x sl ≤ x.node_sectors) (sym g_is)
        (leaf_fits sp.spine.geometry (cache_facts old).sectors p node leaf can.can is)

    set_leaf : HasSet g (ptr_word leaf.ptr) sl n_is.bytes
    set_leaf = subst (λ (f : FirstSet). HasSet g (ptr_word f.ptr) f.set n_is.bytes)
        (first_leaf p node n_is.first leaf n_is.first_is is) n_is.set

    proper_leaf : AreSetKeys (kind_of true) sl.keys
    proper_leaf = proper_keys leaf.from leaf.end leaf.pending (can.proper leaf is)

    no_leaf : FromEach (world cache_facts backing_facts v) (HasNoLeaf slot)
    no_leaf o origin course = (free o origin course).leaf leaf is

    within : (t : ℕ) → ((leaf.from ≤ t) × (t < leaf.end) → ⊥)
        → last_said (seen_set g true sl).keys t ≡ None
    within t out = none_outside leaf.from leaf.end t leaf.pending (can.proper leaf is).within out

    leaf_deed : (x : Result (Unit {0}) Failed)
        → sent_by at what values x ≡ sent_by at (written.Leaf nl) (values_of n_is.bytes) x
    leaf_deed x = ap (λ y. sent_by at y values x) (sent.what_is.leaf leaf is)
        ∙ ap (λ vs. sent_by at (written.Leaf nl) vs x) n_is.values_are

    may_by_leaf : (x : Result (Unit {0}) Failed) → MayDo cache_facts backing_facts v
        (sent_by at (written.Leaf nl) (values_of n_is.bytes) x)
    may_by_leaf (Ok done) = may_leaf cache_facts backing_facts v works.seat its_run unheard spine sp
        tree_is before first b mine can.purpose vacant g divided nl refl word_leaf sl refl n_is.bytes
        n_is.whole fits_leaf number_leaf set_leaf proper_leaf no_leaf within
    may_by_leaf (Err lost) = may_leaf_lost cache_facts backing_facts v works.seat its_run unheard
        spine sp tree_is before first b mine can.purpose vacant g divided nl refl word_leaf sl refl
        n_is.bytes n_is.whole fits_leaf number_leaf set_leaf proper_leaf no_leaf within

    module _ (x : World) (since : Since (m cache_facts backing_facts) v x) (o : Origin)
        (origin : IsOrigin x o) (course : IsCourseOf o x.log) where
      comes_leaf : (y : Result (Unit {0}) Failed) → OneCame slot q (replay o x.log).machine
          (core.after o.opening (replay o x.log)
          (by v.first (sent_by at (written.Leaf nl) (values_of n_is.bytes) y))).machine
      comes_leaf = leaf_comes o (replay o x.log) v.first at g (divided_since x since o origin course)
          nl sl refl n_is.bytes n_is.whole fits_leaf set_leaf proper_leaf
          (no_leaf_since cache_facts backing_facts v spine x since slot no_leaf o origin course)

      there_leaf : IsDraftLeaf nl (seen_set g true sl) o (core.after o.opening (replay o x.log)
          (by v.first (deed.CacheWrite at (written.Leaf nl) (values_of n_is.bytes))))
      there_leaf = leaf_there o (replay o x.log) v.first at g (divided_since x since o origin course)
          nl sl refl n_is.bytes n_is.whole fits_leaf set_leaf proper_leaf

  -- ---- an inner node

  module _ (n : Inner) (is : IsInnerOf p node n) where
    abbrev ni : NewNode
    ni = inner_node q g n

    abbrev si : Set
    si = children_set n

    its_inner : can.first ≡ inner_set n
    its_inner = first_inner p node can.first n can.first_is is

    word_inner : ptr_word n.ptr ≡ ptr_word b.to
    word_inner = ap ptr_word (sym (ap (λ (f : FirstSet). f.ptr) its_inner) ∙ can.place)

    number_inner : si.seq ≡ sp.next_seq
    number_inner = sym (ap (λ (f : FirstSet). f.set.seq) its_inner) ∙ can.number

    fits_inner : set_sectors g si ≤ g.node_sectors
    fits_inner = subst (λ (x : Geometry). set_sectors x si ≤ x.node_sectors) (sym g_is)
        (inner_fits sp.spine p node n can.fits is)

    set_inner : HasSet g (ptr_word n.ptr) si n_is.bytes
    set_inner = subst (λ (f : FirstSet). HasSet g (ptr_word f.ptr) f.set n_is.bytes)
        (first_inner p node n_is.first n n_is.first_is is) n_is.set

    proper_inner : AreSetKeys (kind_of false) si.keys
    proper_inner = proper_children sp.spine p node n can.fits is

    no_inner : FromEach (world cache_facts backing_facts v) (HasNoInner q)
    no_inner o origin course = (free o origin course).inner n is

    inner_deed : (x : Result (Unit {0}) Failed)
        → sent_by at what values x ≡ sent_by at (written.Inner ni) (values_of n_is.bytes) x
    inner_deed x = ap (λ y. sent_by at y values x) (sent.what_is.inner n is)
        ∙ ap (λ vs. sent_by at (written.Inner ni) vs x) n_is.values_are

    may_by_inner : (x : Result (Unit {0}) Failed) → MayDo cache_facts backing_facts v
        (sent_by at (written.Inner ni) (values_of n_is.bytes) x)
    may_by_inner (Ok done) = may_inner cache_facts backing_facts v works.seat its_run unheard spine sp
        tree_is before first b mine can.purpose vacant g divided ni refl word_inner si refl
        n_is.bytes n_is.whole fits_inner number_inner set_inner proper_inner no_inner
    may_by_inner (Err lost) = may_inner_lost cache_facts backing_facts v works.seat its_run unheard
        spine sp tree_is before first b mine can.purpose vacant g divided ni refl word_inner si refl
        n_is.bytes n_is.whole fits_inner number_inner set_inner proper_inner no_inner

    module _ (x : World) (since : Since (m cache_facts backing_facts) v x) (o : Origin)
        (origin : IsOrigin x o) (course : IsCourseOf o x.log) where
      comes_inner : (y : Result (Unit {0}) Failed) → OneCame slot q (replay o x.log).machine
          (core.after o.opening (replay o x.log)
          (by v.first (sent_by at (written.Inner ni) (values_of n_is.bytes) y))).machine
      comes_inner = inner_comes o (replay o x.log) v.first at g
          (divided_since x since o origin course) ni si refl n_is.bytes n_is.whole fits_inner
          set_inner proper_inner refl
          (no_inner_since cache_facts backing_facts v spine x since q no_inner o origin course) slot

      there_inner : IsDraftInner ni (seen_set g false si) o (core.after o.opening (replay o x.log)
          (by v.first (deed.CacheWrite at (written.Inner ni) (values_of n_is.bytes))))
      there_inner = inner_there o (replay o x.log) v.first at g
          (divided_since x since o origin course) ni si refl n_is.bytes n_is.whole fits_inner
          set_inner proper_inner

  -- ---- either

  abbrev its_deed : Deed
  its_deed = sent_by at what values r

  pub may_sent : MayDo cache_facts backing_facts v its_deed
  may_sent = elim which [
    | inl l ↦ subst (MayDo cache_facts backing_facts v) (sym (leaf_deed l.0 l.1 r))
        (may_by_leaf l.0 l.1 r)
    | inr n ↦ subst (MayDo cache_facts backing_facts v) (sym (inner_deed n.0 n.1 r))
        (may_by_inner n.0 n.1 r)
  ]

  writes : WritesNode its_deed
  writes = elim which [
    | inl l ↦ subst WritesNode (sym (leaf_deed l.0 l.1 r))
        (writes_leaf at (nl l.0 l.1) (values_of n_is.bytes) r)
    | inr n ↦ subst WritesNode (sym (inner_deed n.0 n.1 r))
        (writes_inner at (ni n.0 n.1) (values_of n_is.bytes) r)
  ]

  pub holds_sent : (k : ℕ) → changes (length v.run.start) (by v.first its_deed) k ≡ true
      → Holds v.parts k
  holds_sent = holds_changed cache_facts backing_facts pv v h old works sp can.in_hand
      (length v.run.start) its_deed writes

  comes : (x : World) → Since (m cache_facts backing_facts) v x → (o : Origin) → IsOrigin x o
      → IsCourseOf o x.log → OneCame slot q (replay o x.log).machine
      (core.after o.opening (replay o x.log) (by v.first its_deed)).machine
  comes x since o origin course = elim which [
    | inl l ↦ subst (λ d. OneCame slot q (replay o x.log).machine
        (core.after o.opening (replay o x.log) (by v.first d)).machine)
        (sym (leaf_deed l.0 l.1 r)) (comes_leaf l.0 l.1 x since o origin course r)
    | inr n ↦ subst (λ d. OneCame slot q (replay o x.log).machine
        (core.after o.opening (replay o x.log) (by v.first d)).machine)
        (sym (inner_deed n.0 n.1 r)) (comes_inner n.0 n.1 x since o origin course r)
  ]

  same_place : n_is.first.ptr.offset ≡ at
  same_place = ap (λ (t : Ptr). t.offset) (elim which [
    | inl l ↦ ap (λ (f : FirstSet). f.ptr) (first_leaf p node n_is.first l.0 n_is.first_is l.1
        ∙ sym (its_first l.0 l.1)) ∙ can.place
    | inr n ↦ ap (λ (f : FirstSet). f.ptr) (first_inner p node n_is.first n.0 n_is.first_is n.1
        ∙ sym (its_inner n.0 n.1)) ∙ can.place
  ])

  module _ (w : View cache_facts backing_facts)
      (did : Did cache_facts backing_facts (Some its_deed) v w) where
    pub works_sent : Kept (m cache_facts backing_facts) v w
        (changes (length v.run.start) (by v.first its_deed))
        → Works cache_facts backing_facts pv w (record h {
          spine = Some (record sp { next_seq = sp.next_seq + 1 });
          cache = Some new;
        })
    works_sent kept = works_behind cache_facts backing_facts pv v h old works sp can.in_hand
        (length v.run.start) its_deed writes w new (record sp { next_seq = sp.next_seq + 1 }) did.seat
        kept
        (spine_behind cache_facts backing_facts v w works.seat spine before first b mine vacant
        its_deed did slot (comes did.is.before did.is.since) sp tree_is can.changing)
        (cache_sent cache_facts backing_facts v w old new at what values r works.seat device
        works.stand.cache did
        (subst (λ k. OnOk r (IsWritten k values (cache_facts old) (cache_facts new))) same_place
        sent.good)
        (subst (λ k. OnErr r (IsFailedWrite k values (cache_facts old) (cache_facts new)))
        same_place sent.failed)
        sent.counted)

    pub drafts_sent : KeepsDraftsBut cache_facts backing_facts slot q b v w
    drafts_sent = drafts_behind cache_facts backing_facts v w works.seat spine before first b mine
        vacant its_deed did slot (comes did.is.before did.is.since)
        (leaves_sent at what values r)

    pub places_sent : KeepsPlaces cache_facts backing_facts v w
    places_sent = places_deed cache_facts backing_facts v w its_deed works.seat (elim which [
      | inl l ↦ subst (λ d. leaves_places d ≡ true) (sym (leaf_deed l.0 l.1 r))
          (places_leaf at (nl l.0 l.1) (values_of n_is.bytes) r)
      | inr n ↦ subst (λ d. leaves_places d ≡ true) (sym (inner_deed n.0 n.1 r))
          (places_inner at (ni n.0 n.1) (values_of n_is.bytes) r)
    ]) did

    -- ---- answers

    module _ (result : Result (Unit {0}) StepError) (is : result ≡ answer_to r) where
      pub wrote_sent : OnOk result (HasWrittenNew cache_facts backing_facts write_by before g p node
          slot b v w)
      wrote_sent = subst (λ x. OnOk x (HasWrittenNew cache_facts backing_facts write_by before g p
          node slot b v w)) (sym is) (go r did)
        where
          go : (x : Result (Unit {0}) Failed)
              → Did cache_facts backing_facts (Some (sent_by at what values x)) v w
              → OnOk (answer_to x) (HasWrittenNew cache_facts backing_facts write_by before g p node
              slot b v w)
          go (Ok done) d = record {
            what = what;
            what_is = sent.what_is;
            values = values;
            values_are = n_is;
            did = d;
          }
          go (Err lost) d = tt

      pub lost_sent : IfErr result (λ e. (e ≡ error.Fault Cache)
          × HasWrittenNew cache_facts backing_facts lost_by before g p node slot b v w)
      lost_sent = subst (λ x. IfErr x (λ e. (e ≡ error.Fault Cache)
          × HasWrittenNew cache_facts backing_facts lost_by before g p node slot b v w)) (sym is)
          (go r did)
        where
          go : (x : Result (Unit {0}) Failed)
              → Did cache_facts backing_facts (Some (sent_by at what values x)) v w
              → IfErr (answer_to x) (λ e. (e ≡ error.Fault Cache)
              × HasWrittenNew cache_facts backing_facts lost_by before g p node slot b v w)
          go (Ok done) d = tt
          go (Err lost) d = (
            refl,
            record {
              what = what;
              what_is = sent.what_is;
              values = values;
              values_are = n_is;
              did = d;
            },
          )

      pub knows_sent : OnOk result (FromEach (world cache_facts backing_facts w)
          (IsWrittenNew g p node slot q))
      knows_sent = subst (λ x. OnOk x (FromEach (world cache_facts backing_facts w)
          (IsWrittenNew g p node slot q))) (sym is) (go r did)
        where
          go : (x : Result (Unit {0}) Failed)
              → Did cache_facts backing_facts (Some (sent_by at what values x)) v w
              → OnOk (answer_to x) (FromEach (world cache_facts backing_facts w)
              (IsWrittenNew g p node slot q))
          go (Ok done) d = known_committed cache_facts backing_facts v w
              (sent_by at what values (Ok done)) (IsWrittenNew g p node slot q) d
              (λ o origin course. record {
                leaf = λ leaf its. subst (λ e. IsDraftLeaf (nl leaf its)
                    (seen_set g true (pending_set leaf)) o
                    (core.after o.opening (replay o d.is.before.log) (by v.first e)))
                    (sym (leaf_deed leaf its (Ok done)))
                    (there_leaf leaf its d.is.before d.is.since o origin course);
                inner = λ n its. subst (λ e. IsDraftInner (ni n its)
                    (seen_set g false (children_set n)) o
                    (core.after o.opening (replay o d.is.before.log) (by v.first e)))
                    (sym (inner_deed n its (Ok done)))
                    (there_inner n its d.is.before d.is.since o origin course);
              })
          go (Err lost) d = tt

-- ---- by what came of the call

pub ok_both : (r : Result (Unit {0}) Failed) (result : Result (Unit {0}) StepError) (P : Type 0)
    → result ≡ answer_to r → OnOk r P → OnOk result P
ok_both (Ok done) result P is all = subst (λ x. OnOk x P) (sym is) all
ok_both (Err lost) result P is all = subst (λ x. OnOk x P) (sym is) tt

pub err_both : (r : Result (Unit {0}) Failed) (result : Result (Unit {0}) StepError) (P : Type 0)
    → result ≡ answer_to r → OnErr r P → OnErr result P
err_both (Ok done) result P is all = subst (λ x. OnErr x P) (sym is) tt
err_both (Err lost) result P is all = subst (λ x. OnErr x P) (sym is) all
