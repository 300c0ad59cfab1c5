-- A seat that installs a change: that it may, and what it leaves in hand.
use Rattle.std.proofs.Common.{◌≡◌, ◌≢◌, ◌⊎◌, inl, inr, ℕ, zero, suc, ◌+◌, ◌-◌, ◌%◌, ◌≤◌, Bool, true, false, List, [], ◌∷◌, length, Option, Some, None, refl, sym, ap, ◌∙◌, subst, arith}
use Rattle.std.specs.Prelude.{◌==◌, ◌||◌, IfSome, Vec, if◌then◌else◌}
use Rattle.std.specs.declared.alloc.Global.{Global}
use Rattle.std.proofs.lemmas.Bool.{lt-ltb}
use Rattle.bc_append.specs.Durable.{IsDurableTo}
use Rattle.bc_append.proofs.Lasting.{law_lasts}
use Rattle.bc_cache.specs.Slots.{NodeCache}
use Rattle.bc_change.specs.Goes.{IsChangeBy, numbers}
use Rattle.bc_change.specs.bc_hand.Seats.{Did, MayDo, StandIn, Works, by, kinds, numbers as held_numbers, with_part, world}
use Rattle.bc_change.specs.bc_hand.declared.hand.Hand.{Hand}
use Rattle.bc_change.specs.bc_hand.declared.hand.LeafHand.{LeafHand}
use Rattle.bc_change.specs.bc_machine.Containers.{inner_slot}
use Rattle.bc_change.specs.bc_machine.Standing.{begun_stays, origin_before}
use Rattle.bc_change.specs.bc_machine.World.{AreBuckets, AreLeaves, Begun, CanFollow, FromEach, IsSeenFrom, IsSpinePart, Origin, World, any_in, are_plain, changes, data_of, opening}
use Rattle.bc_change.specs.bc_machine.declared.part.BucketsPart.{BucketsPart}
use Rattle.bc_change.specs.bc_machine.declared.part.CorePart.{CorePart}
use Rattle.bc_change.specs.bc_machine.declared.part.CorePart.TheVariants as part
use Rattle.bc_change.specs.bc_machine.declared.part.SpinePart.{SpinePart}
use Rattle.bc_change.proofs.Lists.{in_map}
use Rattle.bc_change.proofs.Seated.{holds_leaves, holds_spine, same_some}
use Rattle.bc_change.proofs.Staying.{by_root_since}
use Rattle.bc_change.proofs.of_bc_deed.May.{low}
use Rattle.bc_change.proofs.of_bc_hand.Knowing.{View, framed, is_plain_at, m}
use Rattle.bc_change.proofs.of_bc_hand.Lending.{stand_kept}
use Rattle.bc_disk.specs.Disk.{DiskFacts}
use Rattle.bc_events.specs.declared.event.Change.{Change}
use Rattle.bc_events.specs.declared.event.Deed.{Deed}
use Rattle.bc_events.specs.declared.event.Deed.TheVariants as deed
use Rattle.bc_facts.proofs.Stood.{in_contains}
use Rattle.bc_image.specs.Children.{with_children}
use Rattle.bc_inner.specs.Inner.{Inner}
use Rattle.bc_key.specs.declared.key.Key.{Key}
use Rattle.bc_meta.specs.Facts.{In}
use Rattle.bc_meta.proofs.Lists.{by_test}
use Rattle.bc_parent_set.specs.BySet.{IsMadeSet, NamesThis}
use Rattle.bc_parent_set.proofs.Keeping.{law_by_set, law_stays}
use Rattle.bc_parts.specs.Seat.{Holds, PartsView, Run}
use Rattle.bc_seats.specs.Seats.{Kept, Since}
use Rattle.bc_seats.proofs.Knowing.{held, lasts, still}
use Rattle.bc_spine.specs.Exchange.{going}
use Rattle.bc_spine.specs.declared.leaf.LeafRange.{LeafRange}
use Rattle.bc_tree.specs.declared.plan.Plan.{Plan}
use Rattle.bc_install.specs.Buckets.{HasBucketsWith}
use Rattle.bc_install.specs.Ended.{AreEndsOf, ByNewRoot, ByNodeSet, How, IsMadeByRoot, IsMadeBySet, IsMadeSo, leaves_of}
use Rattle.bc_install.specs.Installed.{AreBroughtIn, AreTakenOut, HasTreeWith}
use Rattle.bc_install.specs.Step.{HasInstalled, IsPutIn, MayInstall}
use Rattle.bc_install.proofs.Bucketed.{law_buckets}
use Rattle.bc_install.proofs.Ended.{law_leaves, law_may, law_tree}
use Rattle.bc_install.proofs.Coming.{leaves_with}

-- ---- what is in hand

behind_part : {A : Type 0} (n : ℕ) (o : Option A) (ks : List ℕ) (k : ℕ) → Holds ks k
    → Holds (with_part n o ks) k
behind_part n None ks k h = h
behind_part n (Some a) ks k h = inr h

here_part : {A : Type 0} (n : ℕ) (o : Option A) (a : A) (ks : List ℕ) → o ≡ Some a
    → Holds (with_part n o ks) n
here_part n None a ks is = absurd (cc)
here_part n (Some b) a ks is = inl refl

holds_buckets : {C B : Type 0} (h : Hand C B) (b : BucketsPart) → h.buckets ≡ Some b
    → Holds (held_numbers h) 2
holds_buckets h b is = behind_part 5 h.backing _ 2 (behind_part 4 h.cache _ 2
    (behind_part 3 h.journal _ 2 (here_part 2 h.buckets b _ is)))

in_part : {A : Type 0} (n : ℕ) (o : Option A) (ks : List ℕ) (k : ℕ) → Holds (with_part n o ks) k
    → (k ≡ n) ⊎ Holds ks k
in_part n None ks k h = inr h
in_part n (Some a) ks k (inl is) = inl is
in_part n (Some a) ks k (inr h) = inr h

more_parts : {A : Type 0} (n : ℕ) (o : Option A) (xs ys : List ℕ) (k : ℕ)
    → (Holds xs k → Holds ys k) → Holds (with_part n o xs) k → Holds (with_part n o ys) k
more_parts n None xs ys k f h = f h
more_parts n (Some a) xs ys k f (inl is) = inl is
more_parts n (Some a) xs ys k f (inr h) = inr (f h)

-- a leaf of a list that lies in a part
any_found : (count part : ℕ) (ks : List ℕ) → any_in count part ks ≡ true
    → (g : ℕ) × In g ks × (g % count ≡ part)
any_found count part [] on = absurd (cc)
any_found count part (k ∷ ks) on = by_test (k % count) part
    (λ b. (b || any_in count part ks) ≡ true → (g : ℕ) × In g (k ∷ ks) × (g % count ≡ part))
    (λ here _. (k, inl refl, here))
    (λ _ later. let one = any_found count part ks later in (one.0, inr one.1, one.2)) on

-- the numbers of parts that a deed changes
by_number : (k a : ℕ) (b rest : Bool) → (if k == a then b else rest) ≡ true
    → ((k ≡ a) × (b ≡ true)) ⊎ ((k ≢ a) × (rest ≡ true))
by_number k a b rest = by_test k a (λ t. (if t then b else rest) ≡ true
    → ((k ≡ a) × (b ≡ true)) ⊎ ((k ≢ a) × (rest ≡ true)))
    (λ is on. inl (is, on)) (λ ne on. inr (ne, on))

off_is_not_on : false ≡ true → ⊥
off_is_not_on on = cc

above : (k : ℕ) → k ≢ 0 → k ≢ 1 → k ≢ 2 → k ≢ 3 → k ≢ 4 → k ≢ 5 → 6 ≤ k
above zero a b c d e f = absurd (a refl)
above (suc zero) a b c d e f = absurd (b refl)
above (suc (suc zero)) a b c d e f = absurd (c refl)
above (suc (suc (suc zero))) a b c d e f = absurd (d refl)
above (suc (suc (suc (suc zero)))) a b c d e f = absurd (e refl)
above (suc (suc (suc (suc (suc zero))))) a b c d e f = absurd (f refl)
above (suc (suc (suc (suc (suc (suc k)))))) a b c d e f = omega arith

module _ {C B : Type 0} (cache_facts : C → DiskFacts) (backing_facts : B → DiskFacts)
    (p : PartsView (CorePart C B)) (v : View cache_facts backing_facts) (h : Hand C B)
    (works : Works cache_facts backing_facts p v h)
    (cached : are_plain cache_facts backing_facts v.run.start ≡ false)
    (plan : Plan) (first : ℕ) (c : Change) (come gone : Vec ℕ Global)
    (may : MayInstall h (length p.run.start) v.first first plan c come gone
    (world cache_facts backing_facts v)) where
  abbrev sp : SpinePart
  sp = may.at.spine

  abbrev l : LeafHand
  l = may.at.leaves

  abbrev b : BucketsPart
  b = may.at.buckets

  abbrev d : Deed
  d = deed.Install c come gone

  spine_held : Holds v.parts 0
  spine_held = subst (λ ks. Holds ks 0) (sym works.parts) (holds_spine h sp may.at.is_spine)

  leaves_held : Holds v.parts l.part
  leaves_held = subst (λ ks. Holds ks l.part) (sym works.parts)
      (holds_leaves h l may.at.are_leaves)

  buckets_held : Holds v.parts 2
  buckets_held = subst (λ ks. Holds ks 2) (sym works.parts)
      (holds_buckets h b may.at.are_buckets)

  spine_now : IsSpinePart sp (world cache_facts backing_facts v)
  spine_now = subst (λ (o : Option SpinePart). IfSome o
      (λ q. IsSpinePart q (world cache_facts backing_facts v))) may.at.is_spine works.stand.spine

  leaves_now : (6 ≤ l.part) × AreLeaves (l.part - 6) l.cache (world cache_facts backing_facts v)
  leaves_now = subst (λ (o : Option LeafHand). IfSome o (λ q. (6 ≤ q.part)
      × AreLeaves (q.part - 6) q.cache (world cache_facts backing_facts v))) may.at.are_leaves
      works.stand.leaves

  buckets_now : AreBuckets b (world cache_facts backing_facts v)
  buckets_now = subst (λ (o : Option BucketsPart). IfSome o
      (λ q. AreBuckets q (world cache_facts backing_facts v))) may.at.are_buckets
      works.stand.buckets

  -- a leaf that goes, by its number
  going_at : (k : ℕ) → In k c.gone.items → (g : LeafRange)
      × In g (going sp.spine.leaves plan.leaves) × (g.number ≡ k)
  going_at k m = in_map (λ (x : LeafRange). x.number) (going sp.spine.leaves plan.leaves) k
      (subst (λ (ks : List ℕ). In k ks) may.gone_are m)

  -- ---- in a state in which the deed may come

  module _ (x : World) (since : Since (m cache_facts backing_facts) v x) where
    spine_at : IsSpinePart sp x
    spine_at = (held (m cache_facts backing_facts) (framed cache_facts backing_facts) v x 0
        (part.Spine sp) works.seat.seat since spine_held (refl, spine_now)).1

    leaves_at : AreLeaves (l.part - 6) l.cache x
    leaves_at = (held (m cache_facts backing_facts) (framed cache_facts backing_facts) v x l.part
        (part.Leaves l.cache) works.seat.seat since leaves_held leaves_now).1

    buckets_at : AreBuckets b x
    buckets_at = (held (m cache_facts backing_facts) (framed cache_facts backing_facts) v x 2
        (part.Buckets b) works.seat.seat since buckets_held (refl, buckets_now)).1

    -- what is said of the opening alone
    fixed_at : (P : Origin → Type 0)
        → FromEach (world cache_facts backing_facts v) (λ o st. P o) → FromEach x (λ o st. P o)
    fixed_at P known = lasts (m cache_facts backing_facts) v x (λ y. FromEach y (λ o st. P o))
        (λ y e on before. λ o is course. before o (origin_before y e o is) course.2) since known

    made_root : (root : Inner) (number slot : ℕ)
        → FromEach (world cache_facts backing_facts v)
        (IsMadeByRoot v.first sp.spine plan root c number slot)
        → FromEach x (IsMadeByRoot v.first sp.spine plan root c number slot)
    made_root root number slot known o is course = record {
      change = fixed_at (λ o. IsChangeBy o.opening.machine sp.spine plan c)
          (λ o is course. (known o is course).change) o is course;
      by_root = by_root_since cache_facts backing_facts v spine_held works.seat.seat.live plan c
          number slot x since (λ o is course. (known o is course).by_root) o is course;
      slot_is = fixed_at (λ o. inner_slot o.opening.machine root ≡ slot)
          (λ o is course. (known o is course).slot_is) o is course;
      made = lasts (m cache_facts backing_facts) v x (λ y. FromEach y (IsDurableTo number))
          (λ y e on before. law_lasts y e number before) since
          (λ o is course. (known o is course).made) o is course;
    }

    made_set : (taker : Inner) (put : List Key) (slot : ℕ)
        → FromEach (world cache_facts backing_facts v)
        (IsMadeBySet v.first sp.spine plan taker put c slot)
        → FromEach x (IsMadeBySet v.first sp.spine plan taker put c slot)
    made_set taker put slot known o is course = record {
      change = fixed_at (λ o. IsChangeBy o.opening.machine sp.spine plan c)
          (λ o is course. (known o is course).change) o is course;
      by_set = still (m cache_facts backing_facts) v x
          (λ y. FromEach y (IsMadeSet v.first plan c slot (with_children put taker.children)))
          (λ y e on foreign before. law_by_set.made y e v.first plan c slot
          (with_children put taker.children) (foreign.1 0 spine_held)
          (inl (foreign.0 v.first (omega arith) works.seat.seat.live)) before) since
          (λ o is course. (known o is course).by_set) o is course;
      slot_is = fixed_at (λ o. inner_slot o.opening.machine taker ≡ slot)
          (λ o is course. (known o is course).slot_is) o is course;
      named = still (m cache_facts backing_facts) v x (λ y. FromEach y (NamesThis sp.spine.root))
          (λ y e on foreign before. law_stays y e sp.spine.root (foreign.1 0 spine_held) before) since
          (λ o is course. (known o is course).named) o is course;
    }

    made_so : (how : How) → FromEach (world cache_facts backing_facts v)
        (IsMadeSo v.first sp.spine plan c how) → FromEach x (IsMadeSo v.first sp.spine plan c how)
    made_so (ByNewRoot root number slot) known = made_root root number slot known
    made_so (ByNodeSet at taker put slot) known = made_set taker put slot known

    made_at : FromEach x (IsMadeSo v.first sp.spine plan c may.how)
    made_at = made_so may.how may.made

    ends_at : FromEach x (λ o st. AreEndsOf o.opening.machine sp.spine plan come.items gone.items)
    ends_at = fixed_at (λ o. AreEndsOf o.opening.machine sp.spine plan come.items gone.items)
        may.ends

  -- ---- it may

  pub may_install : MayDo cache_facts backing_facts v d
  may_install x y at told =
      let seen = at.from (is_plain_at cache_facts backing_facts v x at.since ∙ cached) in
      go x y seen.0 seen.1 at.since (at.running refl)
    where
      go : (x y : World) (o : Origin) → IsSeenFrom o x y → Since (m cache_facts backing_facts) v x
          → (data_of y).halted ≡ false → CanFollow y (by v.first d)
      go x y o seen since = subst (λ (z : World). (data_of z).halted ≡ false
          → CanFollow z (by v.first d)) (sym seen.is)
          (λ running. let one = law_may x o seen.origin seen.course v.first sp plan c may.how
          come gone may.up (lt-ltb v.first 320 (low cache_facts backing_facts v works.seat)) running
          (spine_at x since o seen.origin seen.course).spine
          (made_at x since o seen.origin seen.course) (ends_at x since o seen.origin seen.course) in
          record { enabled = one.0; names = one.1; number = tt })

  -- the parts that it changes are in hand
  pub install_held : v.run ≡ p.run → (k : ℕ) → changes (length v.run.start) (by v.first d) k ≡ true
      → Holds v.parts k
  install_held run k on = elim (by_number k 0 true _ on) [
    | inl a ↦ subst (λ q. Holds v.parts q) (sym a.0) spine_held
    | inr a ↦ elim (by_number k 1 false _ a.1) [
      | inl e ↦ absurd (off_is_not_on e.1)
      | inr e ↦ elim (by_number k 2 true _ e.1) [
        | inl f ↦ subst (λ q. Holds v.parts q) (sym f.0) buckets_held
        | inr f ↦ elim (by_number k 3 false _ f.1) [
          | inl g ↦ absurd (off_is_not_on g.1)
          | inr g ↦ elim (by_number k 4 false _ g.1) [
            | inl i ↦ absurd (off_is_not_on i.1)
            | inr i ↦ elim (by_number k 5 false _ i.1) [
              | inl j ↦ absurd (off_is_not_on j.1)
              | inr j ↦ leaf_part k (above k a.0 e.0 f.0 g.0 i.0 j.0) j.1
            ]
          ]
        ]
      ]
    ]
  ]
    where
      leaf_part : (k : ℕ) → 6 ≤ k
          → any_in (length v.run.start - 6) (k - 6) c.gone.items ≡ true → Holds v.parts k
      leaf_part k low found =
          let one = any_found (length v.run.start - 6) (k - 6) c.gone.items found in
          let range = going_at one.0 one.1 in
          let at = may.its_part range.0
          (in_contains (going sp.spine.leaves plan.leaves) range.0 range.1) in
          let count = ap (λ (q : Run (CorePart C B)). length q.start) run in
          let part = at ∙ ap (λ n. 6 + n) (ap (λ g. g % (length p.run.start - 6)) range.2
          ∙ ap (λ a. one.0 % (a - 6)) (sym count) ∙ one.2) in
          subst (λ n. Holds v.parts n) (omega (arith, part, low)) leaves_held

  -- ---- what it leaves

  module _ (w : View cache_facts backing_facts)
      (did : Did cache_facts backing_facts (Some d) v w) (run : v.run ≡ p.run) (q : SpinePart)
      (without cache : NodeCache) (r : BucketsPart) (tree : HasTreeWith sp plan q)
      (out : AreTakenOut (numbers (going sp.spine.leaves plan.leaves)) l.cache without)
      (brought : AreBroughtIn (length p.run.start - 6) (l.part - 6) plan without cache)
      (buckets : HasBucketsWith first (leaves_of plan) come.items gone.items b r) where
    abbrev before : World
    before = did.is.before

    -- how many parts there are with leaves
    count_is : before.begun.leaf_parts ≡ length p.run.start - 6
    count_is = lasts (m cache_facts backing_facts) v before
        (λ y. y.begun.leaf_parts ≡ length p.run.start - 6) (λ y e on same. same) did.is.since
        (ap (λ (x : Begun). x.leaf_parts)
        (begun_stays (opening cache_facts backing_facts v.run.start) v.seen)
        ∙ ap (λ (r : Run (CorePart C B)). length r.start - 6) run)

    spine_behind : IsSpinePart q (world cache_facts backing_facts w)
    spine_behind = subst (λ x. IsSpinePart q x) (sym did.is.state)
        (law_tree before v.first sp q plan c may.how come gone may.up
        (made_at before did.is.since) (spine_at before did.is.since) tree)

    leaves_behind : AreLeaves (l.part - 6) cache (world cache_facts backing_facts w)
    leaves_behind = subst (λ x. AreLeaves (l.part - 6) cache x) (sym did.is.state)
        (law_leaves before v.first (l.part - 6) sp plan c may.how come gone
        l.cache cache may.up.both (made_at before did.is.since) (leaves_at before did.is.since)
        (leaves_with sp.spine plan before.begun.leaf_parts (l.part - 6) l.cache without cache out
        (subst (λ n. AreBroughtIn n (l.part - 6) plan without cache) (sym count_is) brought)))

    buckets_behind : AreBuckets r (world cache_facts backing_facts w)
    buckets_behind = let some = b.sized in
        subst (λ x. AreBuckets r x) (sym did.is.state)
        (law_buckets before v.first first sp plan c may.how come gone b r may.up
        may.proper (omega (arith, some))
        (fixed_at before did.is.since (λ o. o.opening.machine.before ≡ first) may.counts)
        (made_at before did.is.since) (spine_at before did.is.since)
        (ends_at before did.is.since) (buckets_at before did.is.since) buckets)

    -- ---- in hand

    abbrev others : Hand C B
    others = record h { spine = None; leaves = None; buckets = None }

    others_held : (k : ℕ) → Holds (held_numbers others) k → Holds (held_numbers h) k
    others_held k = more_parts 5 h.backing _ _ k (more_parts 4 h.cache _ _ k
        (more_parts 3 h.journal _ _ k (λ holds. behind_part 2 h.buckets _ k
        (more_parts 1 h.flight _ _ k (λ none. absurd none) holds))))

    others_unchanged : (k : ℕ) → Holds (held_numbers others) k
        → changes (length v.run.start) (by v.first d) k ≡ false
    others_unchanged k holds = elim (in_part 5 h.backing _ k holds) [
      | inl five ↦ off 5 five refl
      | inr more ↦ elim (in_part 4 h.cache _ k more) [
        | inl four ↦ off 4 four refl
        | inr more ↦ elim (in_part 3 h.journal _ k more) [
          | inl three ↦ off 3 three refl
          | inr more ↦ elim (in_part 1 h.flight [] k more) [
            | inl one ↦ off 1 one refl
            | inr none ↦ absurd none
          ]
        ]
      ]
    ]
      where
        off : (a : ℕ) → k ≡ a → changes (length v.run.start) (by v.first d) a ≡ false
            → changes (length v.run.start) (by v.first d) k ≡ false
        off a same at = subst (λ n. changes (length v.run.start) (by v.first d) n ≡ false)
            (sym same) at

    others_before : StandIn cache_facts backing_facts others (world cache_facts backing_facts v)
    others_before = record {
      spine = tt;
      leaves = tt;
      flight = works.stand.flight;
      buckets = tt;
      journal = works.stand.journal;
      cache = works.stand.cache;
      backing = works.stand.backing;
    }

    abbrev now : Hand C B
    now = record h {
      spine = Some q;
      leaves = Some (record l { cache = cache });
      buckets = Some r;
    }

    numbers_same : held_numbers h ≡ held_numbers now
    numbers_same = ap (λ (o : Option SpinePart). held_numbers (record h { spine = o })) may.at.is_spine
        ∙ ap (λ (o : Option LeafHand). held_numbers (record h { spine = Some sp; leaves = o }))
        may.at.are_leaves
        ∙ ap (λ (o : Option BucketsPart). held_numbers
        (record h { spine = Some sp; leaves = Some l; buckets = o })) may.at.are_buckets

    pub works_installed : Kept (m cache_facts backing_facts) v w
        (changes (length v.run.start) (by v.first d)) → Works cache_facts backing_facts p w now
    works_installed kept =
        let stand = stand_kept cache_facts backing_facts v w others
        (changes (length v.run.start) (by v.first d)) kept
        (λ k holds. subst (λ ks. Holds ks k) (sym works.parts) (others_held k holds))
        others_unchanged others_before in record {
          run = kept.same.run ∙ works.run;
          seat = did.seat;
          parts = kept.parts ∙ works.parts ∙ numbers_same;
          stand = record {
            spine = spine_behind;
            leaves = (leaves_now.0, leaves_behind);
            flight = stand.flight;
            buckets = buckets_behind;
            journal = stand.journal;
            cache = stand.cache;
            backing = stand.backing;
          };
        }

    pub kinds_same : kinds now ≡ kinds h
    kinds_same = sym (ap (λ (o : Option SpinePart). kinds (record h { spine = o })) may.at.is_spine
        ∙ ap (λ (o : Option LeafHand). kinds (record h { spine = Some sp; leaves = o }))
        may.at.are_leaves
        ∙ ap (λ (o : Option BucketsPart). kinds
        (record h { spine = Some sp; leaves = Some l; buckets = o })) may.at.are_buckets)

  -- of whatever was put into the parts
  module _ (w : View cache_facts backing_facts)
      (did : Did cache_facts backing_facts (Some d) v w) (run : v.run ≡ p.run) (k : Hand C B)
      (xs ys : List ℕ)
      (xs_are : xs ≡ come.items) (ys_are : ys ≡ gone.items)
      (put : IsPutIn (length p.run.start - 6) plan first xs ys h k) where
    same_spine : put.at.spine ≡ sp
    same_spine = same_some h.spine put.at.spine sp put.at.is_spine may.at.is_spine

    same_leaves : put.at.leaves ≡ l
    same_leaves = same_some h.leaves put.at.leaves l put.at.are_leaves may.at.are_leaves

    same_buckets : put.at.buckets ≡ b
    same_buckets = same_some h.buckets put.at.buckets b put.at.are_buckets may.at.are_buckets

    tree : HasTreeWith sp plan put.spine
    tree = subst (λ (s : SpinePart). HasTreeWith s plan put.spine) same_spine put.tree

    out : AreTakenOut (numbers (going sp.spine.leaves plan.leaves)) l.cache put.without
    out = subst (λ (s : SpinePart).
        AreTakenOut (numbers (going s.spine.leaves plan.leaves)) l.cache put.without) same_spine
        (subst (λ (x : LeafHand). AreTakenOut
        (numbers (going put.at.spine.spine.leaves plan.leaves)) x.cache put.without) same_leaves
        put.out)

    brought : AreBroughtIn (length p.run.start - 6) (l.part - 6) plan put.without put.cache
    brought = subst (λ (x : LeafHand). AreBroughtIn (length p.run.start - 6) (x.part - 6) plan
        put.without put.cache) same_leaves put.brought

    ends : HasBucketsWith first (leaves_of plan) come.items gone.items b put.part
    ends = subst (λ (x : BucketsPart). HasBucketsWith first (leaves_of plan) come.items gone.items x
        put.part) same_buckets
        (subst (λ (zs : List ℕ). HasBucketsWith first (leaves_of plan) come.items zs put.at.buckets
        put.part) ys_are
        (subst (λ (zs : List ℕ). HasBucketsWith first (leaves_of plan) zs ys put.at.buckets
        put.part) xs_are put.buckets))

    k_is : k ≡ record h {
      spine = Some put.spine;
      leaves = Some (record l { cache = put.cache });
      buckets = Some put.part;
    }
    k_is = put.is ∙ ap (λ (x : LeafHand). record h {
      spine = Some put.spine;
      leaves = Some (record x { cache = put.cache });
      buckets = Some put.part;
    }) same_leaves

    pub works_put : Kept (m cache_facts backing_facts) v w
        (changes (length v.run.start) (by v.first d)) → Works cache_facts backing_facts p w k
    works_put kept = subst (λ (x : Hand C B). Works cache_facts backing_facts p w x) (sym k_is)
        (works_installed w did run put.spine put.without put.cache put.part tree out brought
        ends kept)

    pub kinds_put : kinds k ≡ kinds h
    kinds_put = ap (λ (x : Hand C B). kinds x) k_is
        ∙ kinds_same w did run put.spine put.without put.cache put.part tree out brought ends

    pub has_installed : HasInstalled cache_facts backing_facts (length p.run.start - 6) plan c first
        come gone h k v w
    has_installed = record {
      put = subst (λ (zs : List ℕ). IsPutIn (length p.run.start - 6) plan first
          come.items zs h k) ys_are
          (subst (λ (zs : List ℕ). IsPutIn (length p.run.start - 6) plan first zs ys h k) xs_are put);
      did = did;
    }
