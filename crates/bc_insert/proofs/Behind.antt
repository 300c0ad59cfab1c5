-- What stands behind an event by which keys came into a leaf in hand.
use Rattle.std.proofs.Common.{◌≡◌, ◌≢◌, ◌⊎◌, inl, inr, ℕ, ◌-◌, ◌≤◌, false, List, [], ◌++◌, length, Option, Some, None, refl, sym, ap, ◌∙◌, subst}
use Rattle.std.specs.Prelude.{IfSome, reverse}
use Rattle.std.proofs.lemmas.List.{reverse-reverse}
use Rattle.bc_cache.specs.Slots.{IsSlotOf, NodeCache}
use Rattle.bc_cache.specs.declared.slots.Cached.{Cached}
use Rattle.bc_data.specs.Data as flow
use Rattle.bc_disk.specs.Disk.{DiskFacts}
use Rattle.bc_events.specs.Run as core
use Rattle.bc_events.specs.declared.event.Deed.{Deed}
use Rattle.bc_place.specs.bc_hand.Seats.{Did, StandIn, Works, by, numbers, with_leaves, with_part, world}
use Rattle.bc_place.specs.bc_hand.declared.hand.Hand.{Hand}
use Rattle.bc_place.specs.bc_hand.declared.hand.LeafHand.{LeafHand}
use Rattle.bc_place.proofs.of_bc_hand.Knowing.{View, framed, m}
use Rattle.bc_place.proofs.of_bc_hand.Lending.{stand_kept}
use Rattle.bc_journal.specs.Journal.{Journal, number_of}
use Rattle.bc_key.specs.declared.key.Key.{Key}
use Rattle.bc_keyed.specs.Came.{HaveCome, WereAdded}
use Rattle.bc_keyed.proofs.Came.{law_came}
use Rattle.bc_keyed.proofs.Course.{number_is, pending_up}
use Rattle.bc_keyed.proofs.Journal.{law_journal}
use Rattle.bc_keyed.proofs.Leaves.{law_leaves}
use Rattle.bc_known.specs.Acts as known
use Rattle.bc_known.specs.Acts.{Keyed}
use Rattle.bc_place.specs.bc_machine.Containers.{AreLeavesOf, IsJournalOf}
use Rattle.bc_place.specs.bc_machine.Standing.{needs_stay, origin_before}
use Rattle.bc_place.specs.bc_machine.World.{AreBuckets, AreLeaves, FromEach, IsCourseOf, IsJournal, IsOrigin, Origin, World, changes, replay, touches_flight}
use Rattle.bc_place.specs.bc_machine.declared.part.BucketsPart.{BucketsPart}
use Rattle.bc_place.specs.bc_machine.declared.part.CorePart.{CorePart}
use Rattle.bc_place.specs.bc_machine.declared.part.CorePart.TheVariants as part
use Rattle.bc_needs.specs.Needs.{NeedsFrom}
use Rattle.bc_parts.specs.Seat.{Holds, PartsView}
use Rattle.bc_seats.specs.Seats.{Kept}
use Rattle.bc_seats.proofs.Knowing.{held}
use Rattle.bc_shares.specs.Shares.{journal_share}
use Rattle.bc_insert.specs.Insert.{CanPutIn, HasAdded, HasPutIn}
use Rattle.bc_insert.proofs.InHand.{ComesInto, buckets_in_hand, free_role, has_buckets, has_journal, has_leaves, journal_in_hand, leaves_in}

-- ---- parts that no key changes

either_part : {A : Type 0} (n : ℕ) (o : Option A) (ks : List ℕ) (k : ℕ) → Holds (with_part n o ks) k
    → (k ≡ n) ⊎ Holds ks k
either_part n None ks k holds = inr holds
either_part n (Some a) ks k (inl is) = inl is
either_part n (Some a) ks k (inr holds) = inr holds

more : {A : Type 0} (n : ℕ) (o : Option A) (xs ys : List ℕ) (k : ℕ) → (Holds xs k → Holds ys k)
    → Holds (with_part n o xs) k → Holds (with_part n o ys) k
more n None xs ys k f holds = f holds
more n (Some a) xs ys k f (inl is) = inl is
more n (Some a) xs ys k f (inr holds) = inr (f holds)

over_part : {A : Type 0} (n : ℕ) (o : Option A) (ks : List ℕ) (k : ℕ) → Holds ks k
    → Holds (with_part n o ks) k
over_part n None ks k holds = holds
over_part n (Some a) ks k holds = inr holds

over_leaves : (o : Option LeafHand) (ks : List ℕ) (k : ℕ) → Holds ks k → Holds (with_leaves o ks) k
over_leaves None ks k holds = holds
over_leaves (Some l) ks k holds = inr holds

some_turned : (keys : List Key) → keys ≢ [] → reverse keys ≢ []
some_turned keys some none = some (sym (reverse-reverse keys) ∙ ap reverse none)

module _ {C B : Type 0} (h : Hand C B) where
  -- what is in hand beside leaves, buckets and journal
  abbrev rest : Hand C B
  rest = record h { leaves = None; buckets = None; journal = None }

  rest_held : (k : ℕ) → Holds (numbers rest) k → Holds (numbers h) k
  rest_held k = more 5 h.backing _ _ k (more 4 h.cache _ _ k (λ holds.
      over_part 3 h.journal _ k (over_part 2 h.buckets _ k (more 1 h.flight _ _ k
      (λ low. over_leaves h.leaves _ k low) holds))))

  rest_unchanged : (n number i : ℕ) (d : Deed) → ComesInto number d → touches_flight d ≡ false
      → (k : ℕ) → Holds (numbers rest) k → changes n (by i d) k ≡ false
  rest_unchanged n number i d into still k holds = elim (either_part 5 h.backing _ k holds) [
    | inl five ↦ off 5 k five into.backing
    | inr more ↦ elim (either_part 4 h.cache _ k more) [
      | inl four ↦ off 4 k four into.cache
      | inr more ↦ elim (either_part 1 h.flight _ k more) [
        | inl one ↦ off 1 k one still
        | inr more ↦ elim (either_part 0 h.spine [] k more) [
          | inl none ↦ off 0 k none into.spine
          | inr out ↦ absurd out
        ]
      ]
    ]
  ]
    where
      off : (a k : ℕ) → k ≡ a → changes n (by i d) a ≡ false → changes n (by i d) k ≡ false
      off a k is at = subst (λ b. changes n (by i d) b ≡ false) (sym is) at

  same_numbers : (l : LeafHand) (j j2 : Journal) (b b2 : BucketsPart) (cache : NodeCache)
      → h.leaves ≡ Some l → h.journal ≡ Some j → h.buckets ≡ Some b → numbers (record h {
        leaves = Some (record l { cache = cache });
        journal = Some j2;
        buckets = Some b2;
      }) ≡ numbers h
  same_numbers l j j2 b b2 cache leaves journal buckets =
      ap (λ o. with_part 5 h.backing (with_part 4 h.cache (with_part 3 (Some j2)
      (with_part 2 (Some b2) (with_part 1 h.flight (with_leaves o (with_part 0 h.spine [])))))))
      (sym leaves)
      ∙ ap (λ o. with_part 5 h.backing (with_part 4 h.cache (with_part 3 o
      (with_part 2 (Some b2) (with_part 1 h.flight (with_leaves h.leaves (with_part 0 h.spine
      [])))))))
      (sym journal)
      ∙ ap (λ o. with_part 5 h.backing (with_part 4 h.cache (with_part 3 h.journal
      (with_part 2 o (with_part 1 h.flight (with_leaves h.leaves (with_part 0 h.spine [])))))))
      (sym buckets)

module _ {C B : Type 0} (cache_facts : C → DiskFacts) (backing_facts : B → DiskFacts)
    (p : PartsView (CorePart C B)) (v : View cache_facts backing_facts) (h : Hand C B)
    (works : Works cache_facts backing_facts p v h) (number slot : ℕ) (cached : Cached)
    (keys : List Key) (can : CanPutIn h (length p.run.start) slot number cached keys)
    (only : IsSlotOf can.leaves.cache.slots number slot) (d : Deed) (into : ComesInto number d)
    (act : Origin → known.State → flow.Act)
    (comes : (o : Origin) (st : core.State) → (core.after o.opening st (by v.first d)).machine
    ≡ known.after o.opening.machine st.machine v.first
    (Keyed (act o st.machine) number (reverse keys)))
    (w : View cache_facts backing_facts) (did : Did cache_facts backing_facts (Some d) v w) where
  abbrev part_number : ℕ
  part_number = can.leaves.part - 6

  pub leaves_before : AreLeaves part_number can.leaves.cache did.is.before
  leaves_before = (held (m cache_facts backing_facts) (framed cache_facts backing_facts) v
      did.is.before can.leaves.part (part.Leaves can.leaves.cache) works.seat.seat did.is.since
      (has_leaves cache_facts backing_facts p v h works number slot cached keys can)
      (leaves_in cache_facts backing_facts p v h works number slot cached keys can)).1

  pub buckets_before : AreBuckets can.buckets did.is.before
  buckets_before = (held (m cache_facts backing_facts) (framed cache_facts backing_facts) v
      did.is.before 2 (part.Buckets can.buckets) works.seat.seat did.is.since
      (has_buckets cache_facts backing_facts p v h works number slot cached keys can)
      (refl, buckets_in_hand cache_facts backing_facts p v h works number slot cached keys can)).1

  pub journal_before : IsJournal can.journal did.is.before
  journal_before = (held (m cache_facts backing_facts) (framed cache_facts backing_facts) v
      did.is.before 3 (part.Journal can.journal) works.seat.seat did.is.since
      (has_journal cache_facts backing_facts p v h works number slot cached keys can)
      (refl, journal_in_hand cache_facts backing_facts p v h works number slot cached keys can)).1

  abbrev before : Origin → core.State
  before o = replay o did.is.before.log

  abbrev then_ : Origin → core.State
  then_ o = core.after o.opening (before o) (by v.first d)

  -- what each opening says behind the deed
  pub behind : (Q : Origin → core.State → Type 0)
      → ((o : Origin) → IsOrigin did.is.before o → IsCourseOf o did.is.before.log → Q o (then_ o))
      → FromEach (world cache_facts backing_facts w) Q
  behind Q makes = subst (λ x. FromEach x Q) (sym did.is.state)
      (λ o is course. makes o (origin_before did.is.before (by v.first d) o is) course.2)

  -- and what the keys made of the machine
  pub made : (o : Origin) (Q : known.State → Type 0)
      → Q (known.after o.opening.machine (before o).machine v.first
      (Keyed (act o (before o).machine) number (reverse keys))) → Q (then_ o).machine
  made o Q h = subst Q (sym (comes o (before o))) h

  module _ (cache : NodeCache) (added : HasAdded can.leaves.cache slot cached keys
      (number_of can.journal) cache) where
    pub leaves_behind : AreLeaves part_number cache (world cache_facts backing_facts w)
    leaves_behind = subst (λ n. FromEach (world cache_facts backing_facts w)
        (λ o st. AreLeavesOf o.opening.machine st.machine.whole.parts n part_number cache))
        (ap (λ (x : World). x.begun.leaf_parts) (sym did.is.state))
        (behind (λ o st. AreLeavesOf o.opening.machine st.machine.whole.parts
        did.is.before.begun.leaf_parts part_number cache) (λ o origin course.
        (let st = (before o).machine in
        let own = leaves_before o origin course in
        let tree = (own.leaves slot cached can.can.there).at.role in
        let come : HaveCome cached.number (reverse keys) st.whole.parts
        (then_ o).machine.whole.parts =
        made o (λ x. HaveCome cached.number (reverse keys) st.whole.parts x.whole.parts)
        (subst (λ n. HaveCome n (reverse keys) st.whole.parts
        (known.after o.opening.machine st v.first
        (Keyed (act o st) number (reverse keys))).whole.parts) (sym can.can.number_is)
        (law_came o.opening.machine st v.first (act o st) number (reverse keys))) in
        let next = number_is o origin.sound did.is.before.log course can.journal
        (journal_before.stands o origin course) in
        subst (λ (c : NodeCache). AreLeavesOf o.opening.machine (then_ o).machine.whole.parts
        did.is.before.begun.leaf_parts part_number c) (sym added.is)
        (law_leaves o.opening.machine st.whole.parts (then_ o).machine.whole.parts
        did.is.before.begun.leaf_parts part_number can.leaves.cache slot cached keys added.leaf come
        own (record {
          there = can.can.there;
          only = λ i c at same. only.only i (record {
            cached = c;
            there = at;
            number_is = same ∙ can.can.number_is;
          });
          free = free_role st.whole.parts did.is.before.begun.leaf_parts part_number
              o.opening.machine can.leaves.cache slot number cached own can.can.there
              can.can.number_is only can.free;
          up = pending_up o origin.sound did.is.before.log course cached.number tree;
          added = subst (λ n. WereAdded keys n cached.leaf added.leaf) next added.added;
        })))))

  pub journal_behind : keys ≢ [] → IsJournal (record can.journal { waiting = can.journal.waiting ++ keys })
      (world cache_facts backing_facts w)
  journal_behind some = record {
    stands = behind (λ o st. IsJournalOf o.opening.machine (journal_share st.machine)
        (record can.journal { waiting = can.journal.waiting ++ keys })) (λ o origin course.
        made o (λ x. IsJournalOf o.opening.machine (journal_share x)
        (record can.journal { waiting = can.journal.waiting ++ keys }))
        (subst (λ l. IsJournalOf o.opening.machine (journal_share
        (known.after o.opening.machine (before o).machine v.first
        (Keyed (act o (before o).machine) number (reverse keys))))
        (record can.journal { waiting = can.journal.waiting ++ l })) (reverse-reverse keys)
        (law_journal o.opening.machine (before o).machine v.first (act o (before o).machine)
        number (reverse keys) can.journal (some_turned keys some)
        (journal_before.stands o origin course))));
    needs = subst (λ x. FromEach x (λ o st. NeedsFrom can.journal.needed st)) (sym did.is.state)
        (needs_stay can.journal.needed did.is.before (by v.first d) journal_before.needs);
  }

  -- with the keys put in, and buckets that stand for the state too
  pub works_behind : touches_flight d ≡ false → keys ≢ [] → (between new : Hand C B) → HasPutIn h between slot cached keys
      → (b : BucketsPart) → new ≡ record between { buckets = Some b }
      → AreBuckets b (world cache_facts backing_facts w)
      → Kept (m cache_facts backing_facts) v w (changes (length v.run.start) (by v.first d))
      → Works cache_facts backing_facts p w new
  works_behind still some between new put b new_is on kept =
      subst (λ (x : Hand C B). Works cache_facts backing_facts p w x)
      (sym (new_is ∙ ap (λ (x : Hand C B). record x { buckets = Some b }) put.is)) (record {
        run = kept.same.run ∙ works.run;
        seat = did.seat;
        parts = kept.parts ∙ works.parts
            ∙ sym (same_numbers h put.leaves put.journal
            (record put.journal { waiting = put.journal.waiting ++ keys }) can.buckets b put.cache
            put.was put.was_journal can.are_buckets);
        stand = record {
          spine = others.spine;
          leaves = (
            subst (λ (l : LeafHand). 6 ≤ l.part) same_leaves (leaves_in cache_facts backing_facts p v
                h works number slot cached keys can).0,
            subst (λ (l : LeafHand). AreLeaves (l.part - 6) put.cache
                (world cache_facts backing_facts w)) same_leaves
                (leaves_behind put.cache (subst (λ (l : LeafHand). HasAdded l.cache slot cached keys
                (number_of can.journal) put.cache) (sym same_leaves)
                (subst (λ (j : Journal). HasAdded put.leaves.cache slot cached keys (number_of j)
                put.cache) (sym same_journal) put.added))),
          );
          flight = others.flight;
          buckets = on;
          journal = subst (λ (j : Journal). IsJournal (record j { waiting = j.waiting ++ keys })
              (world cache_facts backing_facts w)) same_journal (journal_behind some);
          cache = others.cache;
          backing = others.backing;
        };
      })
    where
      one : {A : Type 0} (o : Option A) (a b : A) → o ≡ Some a → o ≡ Some b → a ≡ b
      one o a b x y = cc

      same_leaves : can.leaves ≡ put.leaves
      same_leaves = one h.leaves can.leaves put.leaves can.is put.was

      same_journal : can.journal ≡ put.journal
      same_journal = one h.journal can.journal put.journal can.is_journal put.was_journal

      before_it : StandIn cache_facts backing_facts (rest h) (world cache_facts backing_facts v)
      before_it = record {
        spine = works.stand.spine;
        leaves = tt;
        flight = works.stand.flight;
        buckets = tt;
        journal = tt;
        cache = works.stand.cache;
        backing = works.stand.backing;
      }

      others : StandIn cache_facts backing_facts (rest h) (world cache_facts backing_facts w)
      others = stand_kept cache_facts backing_facts v w (rest h)
          (changes (length v.run.start) (by v.first d)) kept
          (λ k holds. subst (λ ks. Holds ks k) (sym works.parts) (rest_held h k holds))
          (λ k holds. rest_unchanged h (length v.run.start) number v.first d into still k
          holds) before_it
