-- A seat that writes the set which makes a change: that it may, and what it leaves in hand.
use Rattle.std.proofs.Common.{◌≡◌, ◌≢◌, ◌⊎◌, inl, inr, ℕ, zero, suc, ◌+◌, ◌-◌, ◌*◌, ◌%◌, ◌≤◌, Bool, true, false, List, [], ◌∷◌, length, Option, Some, None, refl, sym, ap, ◌∙◌, subst, arith}
use Rattle.std.specs.Prelude.{◌==◌, ◌||◌, All, Contains, Err, IfSome, Ok, if◌then◌else◌, slice_get, slice_set}
use Rattle.bc_append.specs.Durable.{IsDurableTo}
use Rattle.bc_append.proofs.Lasting.{law_lasts}
use Rattle.bc_append.proofs.of_bc_place.Keeping.{keeps_deed, opening_lasts, since_by}
use Rattle.bc_append.proofs.of_bc_place.Knowing.{known_committed, may_each}
use Rattle.bc_append.specs.bc_place.Written.{KeepsPlaces}
use Rattle.bc_change.specs.Goes.{IsChangeBy}
use Rattle.bc_change.specs.Ready.{IsLeafToGo, IsReadyChange, IsReadyFor, IsTree}
use Rattle.bc_change.specs.bc_hand.Seats.{Did, MayDo, StandIn, Works, by, numbers, with_leaves, with_part, world}
use Rattle.bc_change.specs.bc_hand.declared.hand.Hand.{Hand}
use Rattle.bc_change.specs.bc_hand.declared.hand.LeafHand.{LeafHand}
use Rattle.bc_change.specs.bc_machine.Containers.{AreEntriesOf, AreLeavesOf, IsHeldIn, IsLeafFor, IsSpineOf, IsSpinePartOf, inner_slot}
use Rattle.bc_change.specs.bc_machine.World.{AreLeaves, FromEach, IsCache, IsCourseOf, IsOrigin, IsSpinePart, Origin, Side, World, after, any_in, are_plain, changes, counted, model, replay}
use Rattle.bc_change.specs.bc_machine.declared.part.CorePart.{CorePart}
use Rattle.bc_change.specs.bc_machine.declared.part.CorePart.TheVariants as part
use Rattle.bc_change.specs.bc_machine.declared.part.SpinePart.{SpinePart}
use Rattle.bc_change.proofs.Keeping.{law_ready}
use Rattle.bc_change.proofs.Lists.{in_map}
use Rattle.bc_change.proofs.Seated.{holds_leaves, holds_spine}
use Rattle.bc_change.proofs.of_bc_deed.May.{low}
use Rattle.bc_change.proofs.of_bc_hand.Knowing.{View, framed, m}
use Rattle.bc_change.proofs.of_bc_hand.Lending.{stand_kept}
use Rattle.bc_disk.specs.Device.{Content, after_failed_write, after_write, failed, written}
use Rattle.bc_disk.specs.Disk.{DiskFacts, IsCounted, IsFailedWrite, IsWritten, StandsFor}
use Rattle.bc_disk.specs.declared.disk.Failed.{Failed}
use Rattle.bc_disk.specs.declared.geometry.Geometry.{Geometry}
use Rattle.bc_disk.proofs.Stands.{failed_write_stands, write_stands}
use Rattle.bc_events.specs.Run as core
use Rattle.bc_events.specs.declared.event.Change.{Change}
use Rattle.bc_events.specs.declared.event.Deed.{Deed}
use Rattle.bc_facts.specs.Layout.{IsLayoutOf}
use Rattle.bc_facts.proofs.Stood.{in_contains}
use Rattle.bc_image.specs.Children.{with_children}
use Rattle.bc_inner.specs.Inner.{Inner}
use Rattle.bc_key.specs.Words.{ptr_word}
use Rattle.bc_known.specs.Acts as known
use Rattle.bc_leaves.specs.Parts.{AllUpTo, Pending}
use Rattle.bc_meta.specs.Facts.{In}
use Rattle.bc_meta.proofs.Lists.{by_test}
use Rattle.bc_model.specs.Sector.{Value}
use Rattle.bc_node.specs.Writing.{HasSet, set_of}
use Rattle.bc_append.specs.bc_nodes_known.Nodes.{NamesFrom}
use Rattle.bc_node.specs.declared.pending.Entries.{Entries}
use Rattle.bc_parts.specs.Seat.{Holds, PartsView, Run}
use Rattle.bc_plan.specs.Parent.{HasMoreIn}
use Rattle.bc_seats.specs.Seats.{Kept, Since}
use Rattle.bc_seats.proofs.Knowing.{held, lasts, still}
use Rattle.bc_shares.specs.Shares.{leaf_share}
use Rattle.bc_spine.specs.Exchange.{going}
use Rattle.bc_spine.specs.declared.leaf.LeafRange.{LeafRange}
use Rattle.bc_tree.specs.Plan.{Fits}
use Rattle.bc_tree.specs.Spine.{Spine}
use Rattle.bc_tree.specs.declared.plan.Plan.{Plan}
use Rattle.bc_parent_set.specs.BySet.{IsBySet, NamesThis}
use Rattle.bc_parent_set.specs.Write.{HasLostParent, HasWrittenParent, IsGoingNow, MayWriteParent, PointsTo, lost_by, parent_by, parent_place, parent_values}
use Rattle.bc_parent_set.proofs.Keeping.{law_stays}
use Rattle.bc_parent_set.proofs.May.{IsGiven, IsReadySet, known_then, leaves_lost, leaves_then, lost_is, may_lose, may_write, named_then, spine_lost, spine_then, then_is}

-- ---- what is in hand

behind_part : {A : Type 0} (n : ℕ) (o : Option A) (ks : List ℕ) (k : ℕ) → Holds ks k
    → Holds (with_part n o ks) k
behind_part n None ks k h = h
behind_part n (Some a) ks k h = inr h

here_part : {A : Type 0} (n : ℕ) (o : Option A) (a : A) (ks : List ℕ) → o ≡ Some a
    → Holds (with_part n o ks) n
here_part n None a ks is = absurd (cc)
here_part n (Some b) a ks is = inl refl

in_part : {A : Type 0} (n : ℕ) (o : Option A) (ks : List ℕ) (k : ℕ) → Holds (with_part n o ks) k
    → (k ≡ n) ⊎ Holds ks k
in_part n None ks k h = inr h
in_part n (Some a) ks k (inl is) = inl is
in_part n (Some a) ks k (inr h) = inr h

more_parts : {A : Type 0} (n : ℕ) (o : Option A) (xs ys : List ℕ) (k : ℕ)
    → (Holds xs k → Holds ys k) → Holds (with_part n o xs) k → Holds (with_part n o ys) k
more_parts n None xs ys k f h = f h
more_parts n (Some a) xs ys k f (inl is) = inl is
more_parts n (Some a) xs ys k f (inr h) = inr (f h)

-- a leaf of a list that lies in a part
any_found : (count part : ℕ) (ks : List ℕ) → any_in count part ks ≡ true
    → (g : ℕ) × In g ks × (g % count ≡ part)
any_found count part [] on = absurd (cc)
any_found count part (k ∷ ks) on = by_test (k % count) part
    (λ b. (b || any_in count part ks) ≡ true → (g : ℕ) × In g (k ∷ ks) × (g % count ≡ part))
    (λ here _. (k, inl refl, here))
    (λ _ later. let one = any_found count part ks later in (one.0, inr one.1, one.2)) on

-- the numbers of parts that a deed changes
by_number : (k a : ℕ) (b rest : Bool) → (if k == a then b else rest) ≡ true
    → ((k ≡ a) × (b ≡ true)) ⊎ ((k ≢ a) × (rest ≡ true))
by_number k a b rest = by_test k a (λ t. (if t then b else rest) ≡ true
    → ((k ≡ a) × (b ≡ true)) ⊎ ((k ≢ a) × (rest ≡ true)))
    (λ is on. inl (is, on)) (λ ne on. inr (ne, on))

off_is_not_on : false ≡ true → ⊥
off_is_not_on on = cc

above : (k : ℕ) → k ≢ 0 → k ≢ 1 → k ≢ 2 → k ≢ 3 → k ≢ 4 → k ≢ 5 → 6 ≤ k
above zero a b c d e f = absurd (a refl)
above (suc zero) a b c d e f = absurd (b refl)
above (suc (suc zero)) a b c d e f = absurd (c refl)
above (suc (suc (suc zero))) a b c d e f = absurd (d refl)
above (suc (suc (suc (suc zero)))) a b c d e f = absurd (e refl)
above (suc (suc (suc (suc (suc zero))))) a b c d e f = absurd (f refl)
above (suc (suc (suc (suc (suc (suc k)))))) a b c d e f = omega arith

-- what is pending is durable
up_to : (entries : Option Entries) (xs : List Pending) (n : ℕ) → AreEntriesOf entries xs
    → IfSome entries (λ e. e.last ≤ n) → AllUpTo n xs
up_to None xs n are few y m = absurd (subst (λ (ys : List Pending). In y ys) are m)
up_to (Some e) xs n are few y m = let up = are.2 y m in omega (arith, up, few)

map_some : (o : Option Entries) (P Q : Entries → Type 0) → ((e : Entries) → P e → Q e)
    → IfSome o P → IfSome o Q
map_some None P Q f h = tt
map_some (Some e) P Q f h = f e h

-- ---- the root in memory

some_is : (a b : Inner) → Some a ≡ Some b → a ≡ b
some_is a b e = cc

pub root_same : (root now next taker : Inner) (below rest : List Inner) (at : ℕ)
    → slice_get (root ∷ below) at ≡ Some taker → next.ptr ≡ taker.ptr → next.end ≡ taker.end
    → now ∷ rest ≡ slice_set (root ∷ below) at next → (now.ptr ≡ root.ptr) × (now.end ≡ root.end)
root_same root now next taker below rest zero there ptr end is =
    let one = some_is now next (ap (λ (xs : List Inner). slice_get xs 0) is) in
    let two = some_is root taker there in (
      ap (λ (n : Inner). n.ptr) one ∙ ptr ∙ sym (ap (λ (n : Inner). n.ptr) two),
      ap (λ (n : Inner). n.end) one ∙ end ∙ sym (ap (λ (n : Inner). n.end) two),
    )
root_same root now next taker below rest (suc at) there ptr end is =
    let one = some_is now root (ap (λ (xs : List Inner). slice_get xs 0) is) in
    (ap (λ (n : Inner). n.ptr) one, ap (λ (n : Inner). n.end) one)

-- ---- the device

write_model : (x : Side) (at : ℕ) (values : List Value) (c : Content)
    → after_write at values (model x c) ≡ model (counted false x) (written at values c)
write_model x at values c = go x.told
  where
    go : (b : Bool) → after_write at values (model (record x { told = b }) c)
        ≡ model (counted false (record x { told = b })) (written at values c)
    go true = refl
    go false = refl

failed_model : (x : Side) (at : ℕ) (values : List Value) (c : Content)
    → after_failed_write at values (model x c) ≡ model (counted true x) (failed at values c)
failed_model x at values c = go x.told
  where
    go : (b : Bool) → after_failed_write at values (model (record x { told = b }) c)
        ≡ model (counted true (record x { told = b })) (failed at values c)
    go true = refl
    go false = refl

module _ {C B : Type 0} (cache_facts : C → DiskFacts) (backing_facts : B → DiskFacts)
    (p : PartsView (CorePart C B)) (v : View cache_facts backing_facts) (h : Hand C B)
    (works : Works cache_facts backing_facts p v h)
    (cached : are_plain cache_facts backing_facts v.run.start ≡ false) (unheard : v.heard ≡ None)
    (plan : Plan) (slot : ℕ) (c : Change)
    (may : MayWriteParent h (length p.run.start) v.first plan slot c
    (world cache_facts backing_facts v)) (tree : IsTree may.spine.spine)
    (old : C) (cache_is : h.cache ≡ Some old) (bytes : List ℕ)
    (set : HasSet may.spine.spine.geometry (ptr_word may.taker.ptr) (set_of may.taker.seq may.put)
    bytes) (whole : length bytes ≡ 512 * may.spine.spine.geometry.node_sectors) where
  abbrev sp : SpinePart
  sp = may.spine

  abbrev g : Geometry
  g = sp.spine.geometry

  abbrev l : LeafHand
  l = may.leaves

  spine_held : Holds v.parts 0
  spine_held = subst (λ ks. Holds ks 0) (sym works.parts) (holds_spine h sp may.is_spine)

  leaves_held : Holds v.parts l.part
  leaves_held = subst (λ ks. Holds ks l.part) (sym works.parts) (holds_leaves h l may.are_leaves)

  cache_held : Holds v.parts 4
  cache_held = subst (λ ks. Holds ks 4) (sym works.parts)
      (behind_part 5 h.backing _ 4 (here_part 4 h.cache old _ cache_is))

  spine_now : IsSpinePart sp (world cache_facts backing_facts v)
  spine_now = subst (λ (o : Option SpinePart). IfSome o
      (λ q. IsSpinePart q (world cache_facts backing_facts v))) may.is_spine works.stand.spine

  leaves_now : (6 ≤ l.part) × AreLeaves (l.part - 6) l.cache (world cache_facts backing_facts v)
  leaves_now = subst (λ (o : Option LeafHand). IfSome o (λ q. (6 ≤ q.part)
      × AreLeaves (q.part - 6) q.cache (world cache_facts backing_facts v))) may.are_leaves
      works.stand.leaves

  cache_now : IsCache {C = C} {B = B} cache_facts backing_facts old (world cache_facts backing_facts v)
  cache_now = subst (λ (o : Option C). IfSome o (λ d.
      IsCache {C = C} {B = B} cache_facts backing_facts d (world cache_facts backing_facts v)))
      cache_is works.stand.cache

  -- a leaf that goes, by its number
  going_at : (k : ℕ) → In k c.gone.items → (range : LeafRange)
      × In range (going sp.spine.leaves plan.leaves) × (range.number ≡ k)
  going_at k m = in_map (λ (x : LeafRange). x.number) (going sp.spine.leaves plan.leaves) k
      (subst (λ (ks : List ℕ). In k ks) may.goes m)

  is_going : (range : LeafRange) → In range (going sp.spine.leaves plan.leaves)
      → IsGoingNow l (length p.run.start) may.keys (world cache_facts backing_facts v) range
  is_going range m = may.gone range (in_contains (going sp.spine.leaves plan.leaves) range m)

  held_in : (k : ℕ) → In k c.gone.items → IsHeldIn l.cache.slots k
  held_in k m = let one = going_at k m in let at = is_going one.0 one.1 in
      (at.slot, at.cached, at.there, at.number_is ∙ one.2, at.held)

  ready_set : IsReadySet g may.taker may.put bytes
  ready_set = record { room = may.room; kind = may.kind; set = set; whole = whole }

  -- ---- in a state in which the deed may come

  module _ (x : World) (since : Since (m cache_facts backing_facts) v x) where
    opening_at : (K : Origin → Type 0)
        → FromEach (world cache_facts backing_facts v) (λ o st. K o) → FromEach x (λ o st. K o)
    opening_at K known = since_by cache_facts backing_facts (λ i o st. K o) (opening_lasts K) v x
        works.seat since known

    spine_at : IsSpinePart sp x
    spine_at = (held (m cache_facts backing_facts) (framed cache_facts backing_facts) v x 0
        (part.Spine sp) works.seat.seat since spine_held (refl, spine_now)).1

    leaves_at : AreLeaves (l.part - 6) l.cache x
    leaves_at = (held (m cache_facts backing_facts) (framed cache_facts backing_facts) v x l.part
        (part.Leaves l.cache) works.seat.seat since leaves_held leaves_now).1

    ready_at : FromEach x (IsReadyFor v.first plan)
    ready_at = still (m cache_facts backing_facts) v x (λ y. FromEach y (IsReadyFor v.first plan))
        (λ y e on foreign before. law_ready y e v.first plan
        (foreign.0 v.first (omega arith) works.seat.seat.live) (foreign.1 0 spine_held) before) since
        may.ready

    named_at : FromEach x (NamesThis sp.spine.root)
    named_at = still (m cache_facts backing_facts) v x (λ y. FromEach y (NamesThis sp.spine.root))
        (λ y e on foreign before. law_stays y e sp.spine.root (foreign.1 0 spine_held) before) since
        may.named

    durable_at : (n : ℕ) → FromEach (world cache_facts backing_facts v) (IsDurableTo n)
        → FromEach x (IsDurableTo n)
    durable_at n known = lasts (m cache_facts backing_facts) v x
        (λ y. FromEach y (IsDurableTo n)) (λ y e may on. law_lasts y e n on) since known

    module _ (o : Origin) (origin : IsOrigin x o) (course : IsCourseOf o x.log) where
      to_go : (range : LeafRange) → Contains (going sp.spine.leaves plan.leaves) range
          → IsLeafToGo o.opening.machine (replay o x.log).machine.whole.parts may.keys range
      to_go range there =
          let at = may.gone range there in
          let stands = subst (λ k. IsLeafFor o.opening.machine
          (leaf_share (replay o x.log).machine.whole.parts k) at.cached.leaf) at.number_is
          ((leaves_at o origin course).leaves at.slot at.cached at.there) in record {
            leaf = at.cached.leaf;
            stands = stands;
            keys_are = at.keys_are;
            durable = up_to at.cached.leaf.entries
                ((replay o x.log).machine.whole.parts.leaves range.number).pending
                (replay o x.log).machine.whole.parts.records.newest.number
                stands.entries
                (map_some at.cached.leaf.entries
                (λ e. FromEach (world cache_facts backing_facts v) (IsDurableTo e.last))
                (λ e. e.last ≤ (replay o x.log).machine.whole.parts.records.newest.number)
                (λ e known. durable_at e.last known o origin course) at.durable);
          }

      ready_change : IsReadyChange o.opening.machine (replay o x.log).machine.whole.parts sp.spine
          plan may.keys
      ready_change = record {
        tree = tree;
        stands = (spine_at o origin course).spine;
        fits = may.fits;
        both = may.both;
        ready = (ready_at o origin course).ready;
        gone = to_go;
        same = may.same;
      }

      pub given : IsGiven x o sp.spine plan may.keys c v.first g may.at may.taker may.put slot bytes
      given = record {
        ready = ready_change;
        holds = (ready_at o origin course).holds;
        is_change = opening_at (λ o. IsChangeBy o.opening.machine sp.spine plan c) may.change o
            origin course;
        divided = opening_at (λ o. IsLayoutOf g o.opening.machine.layout) may.divided o origin course;
        take = may.takes;
        slot_is = opening_at (λ o. inner_slot o.opening.machine may.taker ≡ slot) may.slot_is o
            origin course;
        points = opening_at (λ o. All (PointsTo g o) may.put) may.points o origin course;
        set_ready = ready_set;
        named = named_at o origin course;
      }

  -- ---- it may

  pub may_ok : MayDo cache_facts backing_facts v (parent_by g may.taker may.put slot c bytes)
  may_ok = may_each cache_facts backing_facts v cached
      (parent_by g may.taker may.put slot c bytes) (λ o x origin course at.
      let since = at.since in (
        may_write x o origin course sp.spine plan may.keys c v.first g may.at may.taker may.put slot bytes
            (given x since o origin course)
            (low cache_facts backing_facts v works.seat) (at.late unheard),
        tt,
        tt,
      ))

  pub may_err : MayDo cache_facts backing_facts v (lost_by g may.taker may.put slot c bytes)
  may_err = may_each cache_facts backing_facts v cached
      (lost_by g may.taker may.put slot c bytes) (λ o x origin course at.
      let since = at.since in (
        may_lose x o origin course sp.spine plan may.keys c v.first g may.at may.taker may.put slot bytes
            (given x since o origin course)
            (low cache_facts backing_facts v works.seat) (at.late unheard),
        tt,
        tt,
      ))

  -- ---- the parts that it changes are in hand

  leaf_part : v.run ≡ p.run → (k : ℕ) → 6 ≤ k
      → any_in (length v.run.start - 6) (k - 6) c.gone.items ≡ true → Holds v.parts k
  leaf_part run k low_ found =
      let one = any_found (length v.run.start - 6) (k - 6) c.gone.items found in
      let range = going_at one.0 one.1 in
      let at = (is_going range.0 range.1).its_part in
      let count = ap (λ (q : Run (CorePart C B)). length q.start) run in
      let part_ = at ∙ ap (λ n. 6 + n) (ap (λ g. g % (length p.run.start - 6)) range.2
      ∙ ap (λ a. one.0 % (a - 6)) (sym count) ∙ one.2) in
      subst (λ n. Holds v.parts n) (omega (arith, part_, low_)) leaves_held

  by_parts : v.run ≡ p.run → (k : ℕ) → (if k == 0 then true else (if k == 1 then false
      else (if k == 2 then false else (if k == 3 then false else (if k == 4 then true
      else (if k == 5 then false
      else any_in (length v.run.start - 6) (k - 6) c.gone.items)))))) ≡ true → Holds v.parts k
  by_parts run k on = elim (by_number k 0 true _ on) [
    | inl a ↦ subst (λ q. Holds v.parts q) (sym a.0) spine_held
    | inr a ↦ elim (by_number k 1 false _ a.1) [
      | inl b ↦ absurd (off_is_not_on b.1)
      | inr b ↦ elim (by_number k 2 false _ b.1) [
        | inl d ↦ absurd (off_is_not_on d.1)
        | inr d ↦ elim (by_number k 3 false _ d.1) [
          | inl e ↦ absurd (off_is_not_on e.1)
          | inr e ↦ elim (by_number k 4 true _ e.1) [
            | inl f ↦ subst (λ q. Holds v.parts q) (sym f.0) cache_held
            | inr f ↦ elim (by_number k 5 false _ f.1) [
              | inl n ↦ absurd (off_is_not_on n.1)
              | inr n ↦ leaf_part run k (above k a.0 b.0 d.0 e.0 f.0 n.0) n.1
            ]
          ]
        ]
      ]
    ]
  ]

  pub holds_ok : v.run ≡ p.run → (k : ℕ) → changes (length v.run.start)
      (by v.first (parent_by g may.taker may.put slot c bytes)) k ≡ true → Holds v.parts k
  holds_ok run k on = by_parts run k on

  pub holds_err : v.run ≡ p.run → (k : ℕ) → changes (length v.run.start)
      (by v.first (lost_by g may.taker may.put slot c bytes)) k ≡ true → Holds v.parts k
  holds_err run k on = by_parts run k on

  -- ---- what it leaves

  abbrev others : Hand C B
  others = record h { spine = None; leaves = None; cache = None }

  others_held : (k : ℕ) → Holds (numbers others) k → Holds (numbers h) k
  others_held k = more_parts 5 h.backing _ _ k (λ holds.
      behind_part 4 h.cache _ k (more_parts 3 h.journal _ _ k
      (more_parts 2 h.buckets _ _ k (more_parts 1 h.flight _ _ k (λ none. absurd none))) holds))

  others_before : StandIn cache_facts backing_facts others (world cache_facts backing_facts v)
  others_before = record {
    spine = tt;
    leaves = tt;
    flight = works.stand.flight;
    buckets = works.stand.buckets;
    journal = works.stand.journal;
    cache = tt;
    backing = works.stand.backing;
  }

  module _ (d : Deed) (unchanged : (k : ℕ) → (k ≡ 1) ⊎ ((k ≡ 2) ⊎ ((k ≡ 3) ⊎ (k ≡ 5)))
      → changes (length v.run.start) (by v.first d) k ≡ false)
      (w : View cache_facts backing_facts)
      (did : Did cache_facts backing_facts (Some d) v w)
      (kept : Kept (m cache_facts backing_facts) v w
      (changes (length v.run.start) (by v.first d))) where
    others_unchanged : (k : ℕ) → Holds (numbers others) k
        → changes (length v.run.start) (by v.first d) k ≡ false
    others_unchanged k holds = elim (in_part 5 h.backing _ k holds) [
      | inl five ↦ unchanged k (inr (inr (inr five)))
      | inr more ↦ elim (in_part 3 h.journal _ k more) [
        | inl three ↦ unchanged k (inr (inr (inl three)))
        | inr more ↦ elim (in_part 2 h.buckets _ k more) [
          | inl two ↦ unchanged k (inr (inl two))
          | inr more ↦ elim (in_part 1 h.flight [] k more) [
            | inl one ↦ unchanged k (inl one)
            | inr none ↦ absurd none
          ]
        ]
      ]
    ]

    pub works_by : (now : SpinePart) (new : C) → IsSpinePart now (world cache_facts backing_facts w)
        → AreLeaves (l.part - 6) l.cache (world cache_facts backing_facts w)
        → IsCache {C = C} {B = B} cache_facts backing_facts new (world cache_facts backing_facts w)
        → Works cache_facts backing_facts p w (record h { spine = Some now; cache = Some new })
    works_by now new spine leaves device =
        let stand = stand_kept cache_facts backing_facts v w others
        (changes (length v.run.start) (by v.first d)) kept
        (λ k holds. subst (λ ks. Holds ks k) (sym works.parts) (others_held k holds))
        others_unchanged others_before in record {
          run = kept.same.run ∙ works.run;
          seat = did.seat;
          parts = kept.parts ∙ works.parts
              ∙ ap (λ (o : Option SpinePart). with_part 5 h.backing (with_part 4 h.cache
              (with_part 3 h.journal (with_part 2 h.buckets (with_part 1 h.flight
              (with_leaves h.leaves (with_part 0 o []))))))) may.is_spine
              ∙ ap (λ (o : Option C). with_part 5 h.backing (with_part 4 o
              (with_part 3 h.journal (with_part 2 h.buckets (with_part 1 h.flight
              (with_leaves h.leaves (0 ∷ []))))))) cache_is;
          stand = record {
            spine = spine;
            leaves = subst (λ (o : Option LeafHand). IfSome o (λ q. (6 ≤ q.part)
                × AreLeaves (q.part - 6) q.cache (world cache_facts backing_facts w)))
                (sym may.are_leaves) (leaves_now.0, leaves);
            flight = stand.flight;
            buckets = stand.buckets;
            journal = stand.journal;
            cache = device;
            backing = stand.backing;
          };
        }

    -- the device behind a commit that changed it
    committed : (new : C) → ((x : World)
        → IsCache {C = C} {B = B} cache_facts backing_facts old x
        → IsCache {C = C} {B = B} cache_facts backing_facts new (after x (by v.first d)))
        → IsCache {C = C} {B = B} cache_facts backing_facts new (world cache_facts backing_facts w)
    committed new step = subst (IsCache {C = C} {B = B} cache_facts backing_facts new)
        (sym did.is.state)
        (step did.is.before (held (m cache_facts backing_facts) (framed cache_facts backing_facts) v
        did.is.before 4 (part.Cache old) works.seat.seat did.is.since cache_held (refl, cache_now)).1)

    leaves_behind : ((o : Origin) → IsOrigin did.is.before o → IsCourseOf o did.is.before.log
        → AreLeavesOf o.opening.machine
        (core.after o.opening (replay o did.is.before.log) (by v.first d)).machine.whole.parts
        did.is.before.begun.leaf_parts (l.part - 6) l.cache)
        → AreLeaves (l.part - 6) l.cache (world cache_facts backing_facts w)
    leaves_behind makes = subst (λ n. FromEach (world cache_facts backing_facts w)
        (λ o st. AreLeavesOf o.opening.machine st.machine.whole.parts n (l.part - 6) l.cache))
        (ap (λ (x : World). x.begun.leaf_parts) (sym did.is.state))
        (known_committed cache_facts backing_facts v w d
        (λ o st. AreLeavesOf o.opening.machine st.machine.whole.parts
        did.is.before.begun.leaf_parts (l.part - 6) l.cache) did makes)

  -- ---- what the seat has behind it, where the set was written

  off_one : (d : Deed) (k a : ℕ) → k ≡ a → changes (length v.run.start) (by v.first d) a ≡ false
      → changes (length v.run.start) (by v.first d) k ≡ false
  off_one d k a same off = subst (λ n. changes (length v.run.start) (by v.first d) n ≡ false)
      (sym same) off

  ok_unchanged : (k : ℕ) → (k ≡ 1) ⊎ ((k ≡ 2) ⊎ ((k ≡ 3) ⊎ (k ≡ 5)))
      → changes (length v.run.start)
      (by v.first (parent_by g may.taker may.put slot c bytes)) k ≡ false
  ok_unchanged k which = elim which [
    | inl e ↦ off_one (parent_by g may.taker may.put slot c bytes) k 1 e refl
    | inr more ↦ elim more [
      | inl e ↦ off_one (parent_by g may.taker may.put slot c bytes) k 2 e refl
      | inr more ↦ elim more [
        | inl e ↦ off_one (parent_by g may.taker may.put slot c bytes) k 3 e refl
        | inr e ↦ off_one (parent_by g may.taker may.put slot c bytes) k 5 e refl
      ]
    ]
  ]

  err_unchanged : (k : ℕ) → (k ≡ 1) ⊎ ((k ≡ 2) ⊎ ((k ≡ 3) ⊎ (k ≡ 5)))
      → changes (length v.run.start)
      (by v.first (lost_by g may.taker may.put slot c bytes)) k ≡ false
  err_unchanged k which = elim which [
    | inl e ↦ off_one (lost_by g may.taker may.put slot c bytes) k 1 e refl
    | inr more ↦ elim more [
      | inl e ↦ off_one (lost_by g may.taker may.put slot c bytes) k 2 e refl
      | inr more ↦ elim more [
        | inl e ↦ off_one (lost_by g may.taker may.put slot c bytes) k 3 e refl
        | inr e ↦ off_one (lost_by g may.taker may.put slot c bytes) k 5 e refl
      ]
    ]
  ]

  never_off : true ≡ false → ⊥
  never_off e = cc

  module _ (w : View cache_facts backing_facts) (new : C)
      (did : Did cache_facts backing_facts
      (Some (parent_by g may.taker may.put slot c bytes)) v w)
      (kept : Kept (m cache_facts backing_facts) v w (changes (length v.run.start)
      (by v.first (parent_by g may.taker may.put slot c bytes))))
      (good : IsWritten (parent_place may.taker) (parent_values g may.taker may.put bytes)
      (cache_facts old) (cache_facts new)) (done : Unit {0})
      (counts : IsCounted {E = Failed} (Ok done) (cache_facts old) (cache_facts new)) (now : Spine)
      (more : HasMoreIn {E = Failed} (Ok done) may.taker may.put sp.spine now) where
    abbrev ok_deed : Deed
    ok_deed = parent_by g may.taker may.put slot c bytes

    abbrev before : World
    before = did.is.before

    abbrev now_part : SpinePart
    now_part = record sp { spine = now }

    same_root : (now.root.ptr ≡ sp.spine.root.ptr) × (now.root.end ≡ sp.spine.root.end)
    same_root = root_same sp.spine.root now.root more.next may.taker sp.spine.below now.below more.at
        more.there more.more.ptr more.more.end more.nodes

    given_at : (o : Origin) → IsOrigin before o → IsCourseOf o before.log
        → IsGiven before o sp.spine plan may.keys c v.first g may.at may.taker may.put slot bytes
    given_at o origin course = given before did.is.since o origin course

    spine_ok : IsSpinePart now_part (world cache_facts backing_facts w)
    spine_ok = known_committed cache_facts backing_facts v w ok_deed
        (λ o st. IsSpinePartOf o.opening.machine st.machine now_part) did (λ o origin course.
        let its = given_at o origin course in
        let same = then_is before o origin course sp.spine plan may.keys c v.first g may.at may.taker
        may.put slot bytes its in record {
          spine = subst (λ (y : known.State). IsSpineOf o.opening.machine y.whole.parts now)
              (sym same)
              (spine_then before o origin course sp.spine plan may.keys c v.first g may.at may.taker
              may.put slot bytes its now more.next more.at more.there more.more more.nodes
              (ap (λ (y : Spine). y.leaves) more.only) same_root.1);
          next_seq = (spine_at before did.is.since o origin course).next_seq
              ∙ sym (ap (λ (y : known.State). y.next_seq) same);
          rest = λ off. absurd (never_off (sym may.changing ∙ off));
        })

    leaves_ok : AreLeaves (l.part - 6) l.cache (world cache_facts backing_facts w)
    leaves_ok = leaves_behind ok_deed ok_unchanged w did kept (λ o origin course.
        let its = given_at o origin course in
        subst (λ (y : known.State). AreLeavesOf o.opening.machine y.whole.parts
        before.begun.leaf_parts (l.part - 6) l.cache)
        (sym (then_is before o origin course sp.spine plan may.keys c v.first g may.at may.taker
        may.put slot bytes its))
        (leaves_then before o origin course sp.spine plan may.keys c v.first g may.at may.taker
        may.put slot bytes its before.begun.leaf_parts (l.part - 6) l.cache
        (λ k m its_part. held_in k m) (leaves_at before did.is.since o origin course)))

    cache_ok : IsCache {C = C} {B = B} cache_facts backing_facts new
        (world cache_facts backing_facts w)
    cache_ok = committed ok_deed ok_unchanged w did kept new (λ x on. record {
      stands = subst (StandsFor (cache_facts new))
          (write_model x.cache (parent_place may.taker)
          (parent_values g may.taker may.put bytes) x.held)
          (write_stands (cache_facts old) (cache_facts new) (model x.cache x.held) on.stands
          (parent_place may.taker) (parent_values g may.taker may.put bytes) good counts);
    })

    pub works_ok : Works cache_facts backing_facts p w
        (record h { spine = Some now_part; cache = Some new })
    works_ok = works_by ok_deed ok_unchanged w did kept now_part new spine_ok leaves_ok cache_ok

    pub knows_ok : FromEach (world cache_facts backing_facts w)
        (IsBySet v.first plan c slot (with_children may.put may.taker.children))
    knows_ok = known_committed cache_facts backing_facts v w ok_deed
        (IsBySet v.first plan c slot (with_children may.put may.taker.children)) did
        (λ o origin course. known_then before o origin course sp.spine plan may.keys c v.first g
        may.at may.taker may.put slot bytes (given_at o origin course))

    pub named_ok : FromEach (world cache_facts backing_facts w) (NamesThis now.root)
    named_ok = known_committed cache_facts backing_facts v w ok_deed (NamesThis now.root) did
        (λ o origin course. subst (λ t. NamesFrom 0 (o.opening.machine.flow.books.bucket t.offset)
        (core.after o.opening (replay o before.log) (by v.first ok_deed)).machine.whole.parts.records)
        (sym same_root.0)
        (named_then before o origin course sp.spine plan may.keys c v.first g may.at may.taker
        may.put slot bytes (given_at o origin course)))

    pub written_ok : (h2 : Hand C B)
        → h2 ≡ record h { spine = Some now_part; cache = Some new } → Fits now plan
        → HasWrittenParent cache_facts backing_facts plan slot c h h2 v w
    written_ok h2 same fits = record {
      spine = sp;
      is_spine = may.is_spine;
      at = may.at;
      taker = may.taker;
      put = may.put;
      takes = may.takes;
      bytes = bytes;
      set = set;
      did = did;
      now = now;
      done = done;
      more = more;
      is = same ∙ ap (λ (o : Option C). record h { spine = Some now_part; cache = o })
          (sym (ap (λ (x : Hand C B). x.cache) same));
      fits = fits;
      knows = knows_ok;
      named = named_ok;
    }

    pub places_ok : KeepsPlaces cache_facts backing_facts v w
    places_ok = keeps_deed cache_facts backing_facts v w ok_deed works.seat refl did

  -- ---- and where its write failed

  module _ (w : View cache_facts backing_facts) (new : C)
      (did : Did cache_facts backing_facts
      (Some (lost_by g may.taker may.put slot c bytes)) v w)
      (kept : Kept (m cache_facts backing_facts) v w (changes (length v.run.start)
      (by v.first (lost_by g may.taker may.put slot c bytes))))
      (bad : IsFailedWrite (parent_place may.taker) (parent_values g may.taker may.put bytes)
      (cache_facts old) (cache_facts new)) (failed_ : Failed)
      (counts : IsCounted {E = Failed} (Err failed_) (cache_facts old) (cache_facts new)) where
    abbrev err_deed : Deed
    err_deed = lost_by g may.taker may.put slot c bytes

    abbrev before_ : World
    before_ = did.is.before

    given_then : (o : Origin) → IsOrigin before_ o → IsCourseOf o before_.log
        → IsGiven before_ o sp.spine plan may.keys c v.first g may.at may.taker may.put slot bytes
    given_then o origin course = given before_ did.is.since o origin course

    spine_err : IsSpinePart sp (world cache_facts backing_facts w)
    spine_err = known_committed cache_facts backing_facts v w err_deed
        (λ o st. IsSpinePartOf o.opening.machine st.machine sp) did (λ o origin course.
        let its = given_then o origin course in
        let same = lost_is before_ o origin course sp.spine plan may.keys c v.first g may.at may.taker
        may.put slot bytes its in record {
          spine = subst (λ (y : known.State). IsSpineOf o.opening.machine y.whole.parts sp.spine)
              (sym same)
              (spine_lost before_ o origin course sp.spine plan may.keys c v.first g may.at may.taker
              may.put slot bytes its);
          next_seq = (spine_at before_ did.is.since o origin course).next_seq
              ∙ sym (ap (λ (y : known.State). y.next_seq) same);
          rest = λ off. absurd (never_off (sym may.changing ∙ off));
        })

    leaves_err : AreLeaves (l.part - 6) l.cache (world cache_facts backing_facts w)
    leaves_err = leaves_behind err_deed err_unchanged w did kept (λ o origin course.
        let its = given_then o origin course in
        subst (λ (y : known.State). AreLeavesOf o.opening.machine y.whole.parts
        before_.begun.leaf_parts (l.part - 6) l.cache)
        (sym (lost_is before_ o origin course sp.spine plan may.keys c v.first g may.at may.taker
        may.put slot bytes its))
        (leaves_lost before_ o origin course sp.spine plan may.keys c v.first g may.at may.taker
        may.put slot bytes its before_.begun.leaf_parts (l.part - 6) l.cache
        (λ k m its_part. held_in k m) (leaves_at before_ did.is.since o origin course)))

    cache_err : IsCache {C = C} {B = B} cache_facts backing_facts new
        (world cache_facts backing_facts w)
    cache_err = committed err_deed err_unchanged w did kept new (λ x on. record {
      stands = subst (StandsFor (cache_facts new))
          (failed_model x.cache (parent_place may.taker)
          (parent_values g may.taker may.put bytes) x.held)
          (failed_write_stands (cache_facts old) (cache_facts new) (model x.cache x.held) on.stands
          (parent_place may.taker) (parent_values g may.taker may.put bytes) bad counts);
    })

    pub works_err : Works cache_facts backing_facts p w
        (record h { spine = Some sp; cache = Some new })
    works_err = works_by err_deed err_unchanged w did kept sp new spine_err leaves_err cache_err

    pub lost_err : (h2 : Hand C B) → h2 ≡ record h { spine = Some sp; cache = Some new }
        → HasLostParent cache_facts backing_facts plan slot c h h2 v w
    lost_err h2 same = record {
      spine = sp;
      is_spine = may.is_spine;
      at = may.at;
      taker = may.taker;
      put = may.put;
      takes = may.takes;
      bytes = bytes;
      set = set;
      did = did;
      is = same
          ∙ ap (λ (o : Option SpinePart). record h { spine = o; cache = Some new })
          (sym may.is_spine)
          ∙ ap (λ (o : Option C). record h { cache = o })
          (sym (ap (λ (x : Hand C B). x.cache) same));
    }

    pub places_err : KeepsPlaces cache_facts backing_facts v w
    places_err = keeps_deed cache_facts backing_facts v w err_deed works.seat refl did
