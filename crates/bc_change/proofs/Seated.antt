-- A seat that seals an entry with a new root: that it may, and what it leaves in hand.
use Rattle.std.proofs.Common.{◌≡◌, ◌≢◌, ◌⊎◌, inl, inr, ℕ, zero, suc, ◌+◌, ◌-◌, ◌%◌, ◌≤◌, Bool, true, false, List, [], ◌∷◌, length, Option, Some, None, refl, sym, ap, ◌∙◌, subst, arith}
use Rattle.std.specs.Prelude.{◌==◌, ◌||◌, Contains, IfSome, Vec, if◌then◌else◌}
use Rattle.std.specs.declared.alloc.Global.{Global}
use Rattle.bc_disk.specs.Disk.{DiskFacts}
use Rattle.bc_disk.specs.declared.geometry.Geometry.{Geometry}
use Rattle.bc_events.specs.Run as core
use Rattle.bc_events.specs.declared.event.Change.{Change}
use Rattle.bc_events.specs.declared.event.Deed.{Deed}
use Rattle.bc_events.specs.declared.event.Deed.TheVariants as deed
use Rattle.bc_events.specs.declared.event.Event.{Event}
use Rattle.bc_facts.specs.Seen.{entry_rest}
use Rattle.bc_facts.proofs.Stood.{in_contains}
use Rattle.bc_entry.specs.bc_hand.Seats.{Did, MayDo, StandIn, Works, by, numbers, with_leaves, with_part, world}
use Rattle.bc_entry.specs.bc_hand.declared.hand.Hand.{Hand}
use Rattle.bc_entry.specs.bc_hand.declared.hand.LeafHand.{LeafHand}
use Rattle.bc_entry.proofs.of_bc_hand.Knowing.{View, framed, is_plain_at, m}
use Rattle.bc_entry.proofs.of_bc_hand.Lending.{stand_kept}
use Rattle.bc_entry.proofs.of_bc_deed.May.{low}
use Rattle.bc_inner.specs.Inner.{Inner}
use Rattle.bc_journal.specs.Journal.{IsJournal as IsGoodJournal, IsSealed, Journal}
use Rattle.bc_journal.specs.Sealed.{Sealed}
use Rattle.bc_journal.specs.declared.heads.Heads.{Heads}
use Rattle.bc_journal.specs.declared.place.Numbers.{Numbers}
use Rattle.bc_leaves.specs.Parts.{AllUpTo, Pending}
use Rattle.bc_entry.specs.bc_machine.Containers.{AreEntriesOf, AreLeavesOf, IsHeldIn, IsJournalOf, IsLeafFor, IsSpinePartOf}
use Rattle.bc_entry.specs.bc_machine.Standing.{origin_before}
use Rattle.bc_entry.specs.bc_machine.World.{AreLeaves, CanFollow, FromEach, IsCourseOf, IsJournal, IsOrigin, IsSeenFrom, IsSpinePart, Origin, World, any_in, are_plain, changes, data_of, replay}
use Rattle.bc_entry.specs.bc_machine.declared.part.CorePart.{CorePart}
use Rattle.bc_entry.specs.bc_machine.declared.part.CorePart.TheVariants as part
use Rattle.bc_entry.specs.bc_machine.declared.part.SpinePart.{SpinePart}
use Rattle.bc_meta.specs.Facts.{In}
use Rattle.bc_meta.proofs.Lists.{by_test}
use Rattle.bc_needs.specs.Needs.{NeedsFrom}
use Rattle.bc_node.specs.declared.pending.Entries.{Entries}
use Rattle.bc_nodes_known.proofs.Law.{law_said, law_still}
use Rattle.bc_parts.specs.Seat.{Holds, PartsView, Run}
use Rattle.bc_seats.specs.Seats.{Kept, Since}
use Rattle.bc_seats.proofs.Knowing.{held, still}
use Rattle.bc_shares.specs.Shares.{journal_share, leaf_share}
use Rattle.bc_shares.specs.Touched.{touches_journal}
use Rattle.bc_spine.specs.Exchange.{going}
use Rattle.bc_spine.specs.declared.leaf.LeafRange.{LeafRange}
use Rattle.bc_tree.specs.declared.plan.Plan.{Plan}
use Rattle.bc_entry.specs.Entry.{IsFixedEntry}
use Rattle.bc_entry.specs.Seal.{begun_by}
use Rattle.bc_entry.proofs.Holding.{holds_journal, known_since, needs_committed, some_is}
use Rattle.bc_entry.proofs.Sealing.{goes_to, has_place}
use Rattle.bc_change.specs.Goes.{IsChangeBy}
use Rattle.bc_change.specs.Ready.{IsLeafToGo, IsReadyChange, IsReadyFor, IsTree}
use Rattle.bc_change.specs.Root.{HasSealedRoot, IsGoing, MaySealRoot, NamesNext}
use Rattle.bc_change.specs.Under.{IsByRoot}
use Rattle.bc_change.proofs.Keeping.{law_ready}
use Rattle.bc_change.proofs.Lists.{in_map}
use Rattle.bc_change.proofs.Sealed.{IsLeft, enabled, left, sealing}

-- ---- what is in hand

behind_part : {A : Type 0} (n : ℕ) (o : Option A) (ks : List ℕ) (k : ℕ) → Holds ks k
    → Holds (with_part n o ks) k
behind_part n None ks k h = h
behind_part n (Some a) ks k h = inr h

here_part : {A : Type 0} (n : ℕ) (o : Option A) (a : A) (ks : List ℕ) → o ≡ Some a
    → Holds (with_part n o ks) n
here_part n None a ks is = absurd (cc)
here_part n (Some b) a ks is = inl refl

behind_leaves : (o : Option LeafHand) (ks : List ℕ) (k : ℕ) → Holds ks k
    → Holds (with_leaves o ks) k
behind_leaves None ks k h = h
behind_leaves (Some l) ks k h = inr h

here_leaves : (o : Option LeafHand) (l : LeafHand) (ks : List ℕ) → o ≡ Some l
    → Holds (with_leaves o ks) l.part
here_leaves None l ks is = absurd (cc)
here_leaves (Some x) l ks is = let e : x ≡ l = cc in inl (ap (λ (y : LeafHand). y.part) (sym e))

pub holds_spine : {C B : Type 0} (h : Hand C B) (p : SpinePart) → h.spine ≡ Some p
    → Holds (numbers h) 0
holds_spine h p is = behind_part 5 h.backing _ 0 (behind_part 4 h.cache _ 0
    (behind_part 3 h.journal _ 0 (behind_part 2 h.buckets _ 0 (behind_part 1 h.flight _ 0
    (behind_leaves h.leaves (with_part 0 h.spine []) 0 (here_part 0 h.spine p [] is))))))

pub holds_leaves : {C B : Type 0} (h : Hand C B) (l : LeafHand) → h.leaves ≡ Some l
    → Holds (numbers h) l.part
holds_leaves h l is = behind_part 5 h.backing _ l.part (behind_part 4 h.cache _ l.part
    (behind_part 3 h.journal _ l.part (behind_part 2 h.buckets _ l.part
    (behind_part 1 h.flight _ l.part (here_leaves h.leaves l (with_part 0 h.spine []) is)))))

in_part : {A : Type 0} (n : ℕ) (o : Option A) (ks : List ℕ) (k : ℕ) → Holds (with_part n o ks) k
    → (k ≡ n) ⊎ Holds ks k
in_part n None ks k h = inr h
in_part n (Some a) ks k (inl is) = inl is
in_part n (Some a) ks k (inr h) = inr h

more_parts : {A : Type 0} (n : ℕ) (o : Option A) (xs ys : List ℕ) (k : ℕ)
    → (Holds xs k → Holds ys k) → Holds (with_part n o xs) k → Holds (with_part n o ys) k
more_parts n None xs ys k f h = f h
more_parts n (Some a) xs ys k f (inl is) = inl is
more_parts n (Some a) xs ys k f (inr h) = inr (f h)

-- a leaf of a list that lies in a part
any_found : (count part : ℕ) (ks : List ℕ) → any_in count part ks ≡ true
    → (g : ℕ) × In g ks × (g % count ≡ part)
any_found count part [] on = absurd (cc)
any_found count part (k ∷ ks) on = by_test (k % count) part
    (λ b. (b || any_in count part ks) ≡ true → (g : ℕ) × In g (k ∷ ks) × (g % count ≡ part))
    (λ here _. (k, inl refl, here))
    (λ _ later. let one = any_found count part ks later in (one.0, inr one.1, one.2)) on

-- the numbers of parts that a deed changes
by_number : (k a : ℕ) (b rest : Bool) → (if k == a then b else rest) ≡ true
    → ((k ≡ a) × (b ≡ true)) ⊎ ((k ≢ a) × (rest ≡ true))
by_number k a b rest = by_test k a (λ t. (if t then b else rest) ≡ true
    → ((k ≡ a) × (b ≡ true)) ⊎ ((k ≢ a) × (rest ≡ true)))
    (λ is on. inl (is, on)) (λ ne on. inr (ne, on))

off_is_not_on : false ≡ true → ⊥
off_is_not_on on = cc

above : (k : ℕ) → k ≢ 0 → k ≢ 1 → k ≢ 2 → k ≢ 3 → k ≢ 4 → k ≢ 5 → 6 ≤ k
above zero a b c d e f = absurd (a refl)
above (suc zero) a b c d e f = absurd (b refl)
above (suc (suc zero)) a b c d e f = absurd (c refl)
above (suc (suc (suc zero))) a b c d e f = absurd (d refl)
above (suc (suc (suc (suc zero)))) a b c d e f = absurd (e refl)
above (suc (suc (suc (suc (suc zero))))) a b c d e f = absurd (f refl)
above (suc (suc (suc (suc (suc (suc k)))))) a b c d e f = omega arith

-- what others leave of it
names_kept : (g : Geometry) (heads : Heads) (root : Inner) (slot : ℕ) (o : Origin) (st : core.State)
    (e : Event) → core.IsEnabled o.opening st e → touches_journal e.deed ≡ false
    → NamesNext g heads root slot o st → NamesNext g heads root slot o (core.after o.opening st e)
names_kept g heads root slot o st e on off h = record {
  slot_is = h.slot_is;
  bucket = h.bucket;
  word = h.word;
  level = h.level;
}

-- what is pending is durable
up_to_durable : (entries : Option Entries) (xs : List Pending) (n d : ℕ) → AreEntriesOf entries xs
    → IfSome entries (λ e. e.last ≤ d) → d ≡ n → AllUpTo n xs
up_to_durable None xs n d are few same y m = absurd (subst (λ (ys : List Pending). In y ys) are m)
up_to_durable (Some e) xs n d are few same y m =
    let up = are.2 y m in omega (arith, up, few, same)

module _ {C B : Type 0} (cache_facts : C → DiskFacts) (backing_facts : B → DiskFacts)
    (p : PartsView (CorePart C B)) (v : View cache_facts backing_facts) (h : Hand C B)
    (works : Works cache_facts backing_facts p v h)
    (cached : are_plain cache_facts backing_facts v.run.start ≡ false)
    (plan : Plan) (heads : Heads) (slot : ℕ) (c : Change)
    (may : MaySealRoot h (length p.run.start) v.first plan heads slot c
    (world cache_facts backing_facts v)) (tree : IsTree may.can.spine.spine)
    (good : IsGoodJournal may.can.journal) where
  abbrev sp : SpinePart
  sp = may.can.spine

  abbrev l : LeafHand
  l = may.can.leaves

  abbrev j : Journal
  j = may.can.journal

  spine_held : Holds v.parts 0
  spine_held = subst (λ ks. Holds ks 0) (sym works.parts) (holds_spine h sp may.can.is_spine)

  leaves_held : Holds v.parts l.part
  leaves_held = subst (λ ks. Holds ks l.part) (sym works.parts)
      (holds_leaves h l may.can.are_leaves)

  journal_held : Holds v.parts 3
  journal_held = subst (λ ks. Holds ks 3) (sym works.parts)
      (holds_journal h (some_is h.journal j may.can.is_journal))

  spine_now : IsSpinePart sp (world cache_facts backing_facts v)
  spine_now = subst (λ (o : Option SpinePart). IfSome o
      (λ q. IsSpinePart q (world cache_facts backing_facts v))) may.can.is_spine works.stand.spine

  leaves_now : (6 ≤ l.part) × AreLeaves (l.part - 6) l.cache (world cache_facts backing_facts v)
  leaves_now = subst (λ (o : Option LeafHand). IfSome o (λ q. (6 ≤ q.part)
      × AreLeaves (q.part - 6) q.cache (world cache_facts backing_facts v))) may.can.are_leaves
      works.stand.leaves

  journal_now : IsJournal j (world cache_facts backing_facts v)
  journal_now = subst (λ (o : Option Journal). IfSome o
      (λ q. IsJournal q (world cache_facts backing_facts v))) may.can.is_journal works.stand.journal

  -- a leaf that goes, by its number
  going_at : (k : ℕ) → In k c.gone.items → (g : LeafRange)
      × In g (going sp.spine.leaves plan.leaves) × (g.number ≡ k)
  going_at k m = in_map (λ (x : LeafRange). x.number) (going sp.spine.leaves plan.leaves) k
      (subst (λ (ks : List ℕ). In k ks) may.gone m)

  is_going : (g : LeafRange) → In g (going sp.spine.leaves plan.leaves)
      → IsGoing l (length p.run.start) j may.keys g
  is_going g m = may.can.gone g (in_contains (going sp.spine.leaves plan.leaves) g m)

  held_in : (k : ℕ) → In k c.gone.items → IsHeldIn l.cache.slots k
  held_in k m = let one = going_at k m in let at = is_going one.0 one.1 in
      (at.slot, at.cached, at.there, at.number_is ∙ one.2, at.held)

  -- ---- in a state in which the deed may come

  module _ (x : World) (since : Since (m cache_facts backing_facts) v x) where
    spine_at : IsSpinePart sp x
    spine_at = (held (m cache_facts backing_facts) (framed cache_facts backing_facts) v x 0
        (part.Spine sp) works.seat.seat since spine_held (refl, spine_now)).1

    leaves_at : AreLeaves (l.part - 6) l.cache x
    leaves_at = (held (m cache_facts backing_facts) (framed cache_facts backing_facts) v x l.part
        (part.Leaves l.cache) works.seat.seat since leaves_held leaves_now).1

    journal_at : IsJournal j x
    journal_at = (held (m cache_facts backing_facts) (framed cache_facts backing_facts) v x 3
        (part.Journal j) works.seat.seat since journal_held (refl, journal_now)).1

    ready_at : FromEach x (IsReadyFor v.first plan)
    ready_at = still (m cache_facts backing_facts) v x (λ y. FromEach y (IsReadyFor v.first plan))
        (λ y e on foreign before. law_ready y e v.first plan
        (foreign.0 v.first (omega arith) works.seat.seat.live) (foreign.1 0 spine_held) before) since
        may.ready

    names_at : FromEach x (NamesNext j.ring.geometry heads may.root slot)
    names_at = known_since cache_facts backing_facts v x
        (NamesNext j.ring.geometry heads may.root slot) journal_held
        (names_kept j.ring.geometry heads may.root slot) since may.names

    change_at : FromEach x (λ o st. IsChangeBy o.opening.machine sp.spine plan c)
    change_at = known_since cache_facts backing_facts v x
        (λ o st. IsChangeBy o.opening.machine sp.spine plan c) journal_held
        (λ o st e on off h. h) since may.change

    module _ (o : Origin) (origin : IsOrigin x o) (course : IsCourseOf o x.log) where
      to_go : (range : LeafRange) → Contains (going sp.spine.leaves plan.leaves) range
          → IsLeafToGo o.opening.machine (replay o x.log).machine.whole.parts may.keys range
      to_go range m =
          let at = may.can.gone range m in
          let stands = subst (λ k. IsLeafFor o.opening.machine
          (leaf_share (replay o x.log).machine.whole.parts k) at.cached.leaf) at.number_is
          ((leaves_at o origin course).leaves at.slot at.cached at.there) in
          let durable = ap (λ (n : Numbers). n.seq) (journal_at.stands o origin course).durable in
          record {
            leaf = at.cached.leaf;
            stands = stands;
            keys_are = at.keys_are;
            durable = up_to_durable at.cached.leaf.entries
                ((replay o x.log).machine.whole.parts.leaves range.number).pending
                (replay o x.log).machine.whole.parts.records.newest.number j.durable.seq
                stands.entries at.durable durable;
          }

      ready_change : IsReadyChange o.opening.machine (replay o x.log).machine.whole.parts sp.spine
          plan may.keys
      ready_change = record {
        tree = tree;
        stands = (spine_at o origin course).spine;
        fits = may.can.fits;
        both = may.can.both;
        ready = (ready_at o origin course).ready;
        gone = to_go;
        same = may.can.same;
      }

  -- ---- it may

  pub may_seal_root : (rest : Vec ℕ Global)
      → MayDo cache_facts backing_facts v (sealing j (begun_by j) rest slot c)
  may_seal_root rest x y at told =
      let seen = at.from (is_plain_at cache_facts backing_facts v x at.since ∙ cached) in
      go x y seen.0 seen.1 at.since (at.running refl)
    where
      go : (x y : World) (o : Origin) → IsSeenFrom o x y → Since (m cache_facts backing_facts) v x
          → (data_of y).halted ≡ false
          → CanFollow y (by v.first (sealing j (begun_by j) rest slot c))
      go x y o seen since = subst (λ (z : World). (data_of z).halted ≡ false
          → CanFollow z (by v.first (sealing j (begun_by j) rest slot c))) (sym seen.is)
          (λ running. let place = has_place j may.seals in
          let known = ready_at x since o seen.origin seen.course in record {
            enabled = enabled o seen.origin.sound seen.origin.cached x.log seen.course j good may.seals
                ((journal_at x since).stands o seen.origin seen.course) sp plan may.keys c v.first
                (ready_change x since o seen.origin seen.course) known.holds
                (change_at x since o seen.origin seen.course) may.root may.brings heads slot
                (names_at x since o seen.origin seen.course) may.prio (law_said x o seen.origin seen.course)
                (law_still x o seen.origin seen.course) rest (begun_by j) place.0
                (goes_to j place.0 good place.1) (low cache_facts backing_facts v works.seat)
                ((journal_at x since).needs o seen.origin seen.course).needs running;
            names = tt;
            number = tt;
          })

  -- by whatever numbers these are
  pub may_seal_root_at : (n : ℕ) (begun : Option ℕ) → n ≡ j.needed → begun ≡ begun_by j
      → (rest : Vec ℕ Global) → MayDo cache_facts backing_facts v
      (deed.Seal n begun rest (Some (record { inner = slot; change = c })) None)
  may_seal_root_at n begun n_is begun_is rest = subst
      (λ k. MayDo cache_facts backing_facts v
      (deed.Seal k begun rest (Some (record { inner = slot; change = c })) None)) (sym n_is)
      (subst (λ (b : Option ℕ). MayDo cache_facts backing_facts v
      (deed.Seal j.needed b rest (Some (record { inner = slot; change = c })) None)) (sym begun_is)
      (may_seal_root rest))

  -- the parts that it changes are in hand
  pub changed_held : (n : ℕ) (begun : Option ℕ) (rest : Vec ℕ Global) → v.run ≡ p.run → (k : ℕ)
      → changes (length v.run.start) (by v.first
      (deed.Seal n begun rest (Some (record { inner = slot; change = c })) None)) k ≡ true
      → Holds v.parts k
  changed_held n begun rest run k on = elim (by_number k 0 true _ on) [
    | inl a ↦ subst (λ q. Holds v.parts q) (sym a.0) spine_held
    | inr a ↦ elim (by_number k 1 false _ a.1) [
      | inl b ↦ absurd (off_is_not_on b.1)
      | inr b ↦ elim (by_number k 2 false _ b.1) [
        | inl d ↦ absurd (off_is_not_on d.1)
        | inr d ↦ elim (by_number k 3 true _ d.1) [
          | inl e ↦ subst (λ q. Holds v.parts q) (sym e.0) journal_held
          | inr e ↦ elim (by_number k 4 false _ e.1) [
            | inl f ↦ absurd (off_is_not_on f.1)
            | inr f ↦ elim (by_number k 5 false _ f.1) [
              | inl g ↦ absurd (off_is_not_on g.1)
              | inr g ↦ leaf_part k (above k a.0 b.0 d.0 e.0 f.0 g.0) g.1
            ]
          ]
        ]
      ]
    ]
  ]
    where
      leaf_part : (k : ℕ) → 6 ≤ k
          → any_in (length v.run.start - 6) (k - 6) c.gone.items ≡ true → Holds v.parts k
      leaf_part k low found =
          let one = any_found (length v.run.start - 6) (k - 6) c.gone.items found in
          let range = going_at one.0 one.1 in
          let at = (is_going range.0 range.1).its_part in
          let count = ap (λ (q : Run (CorePart C B)). length q.start) run in
          let part = at ∙ ap (λ n. 6 + n) (ap (λ g. g % (length p.run.start - 6)) range.2
          ∙ ap (λ a. one.0 % (a - 6)) (sym count) ∙ one.2) in
          subst (λ n. Holds v.parts n) (omega (arith, part, low)) leaves_held

  -- ---- what it leaves

  module _ (w : View cache_facts backing_facts) (rest : Vec ℕ Global) (s : Sealed) (new : Journal)
      (is : IsSealed j heads s new) (rest_is : rest.items ≡ entry_rest s.entry)
      (did : Did cache_facts backing_facts (Some (sealing j (begun_by j) rest slot c)) v w) where
    abbrev d : Deed
    d = sealing j (begun_by j) rest slot c

    abbrev before : World
    before = did.is.before

    -- what each opening says behind it
    behind : (Q : Origin → core.State → Type 0)
        → ((o : Origin) → IsOrigin before o → IsCourseOf o before.log
        → Q o (core.after o.opening (replay o before.log) (by v.first d)))
        → FromEach (world cache_facts backing_facts w) Q
    behind Q makes = subst (λ x. FromEach x Q) (sym did.is.state)
        (λ o is course. makes o (origin_before before (by v.first d) o is) course.2)

    left_at : (o : Origin) (origin : IsOrigin before o) (course : IsCourseOf o before.log)
        → IsLeft o before.log sp plan c v.first slot s new
        (core.after o.opening (replay o before.log) (by v.first d))
    left_at o origin course =
        let since = did.is.since in
        left o origin.sound origin.cached before.log course j good may.seals
        ((journal_at before since).stands o origin course) sp plan may.keys c v.first
        (ready_change before since o origin course) (ready_at before since o origin course).holds
        (change_at before since o origin course) may.root may.brings heads slot
        (names_at before since o origin course) may.prio (law_said before o origin course)
        (law_still before o origin course) rest may.can.changing
        (spine_at before since o origin course).next_seq s new is rest_is (begun_by j)
        (goes_to j s.place good is.place)

    spine_behind : IsSpinePart sp (world cache_facts backing_facts w)
    spine_behind = behind (λ o st. IsSpinePartOf o.opening.machine st.machine sp)
        (λ o origin course. (left_at o origin course).spine)

    leaves_behind : AreLeaves (l.part - 6) l.cache (world cache_facts backing_facts w)
    leaves_behind = subst (λ n. FromEach (world cache_facts backing_facts w)
        (λ o st. AreLeavesOf o.opening.machine st.machine.whole.parts n (l.part - 6) l.cache))
        (ap (λ (x : World). x.begun.leaf_parts) (sym did.is.state))
        (behind (λ o st. AreLeavesOf o.opening.machine st.machine.whole.parts
        before.begun.leaf_parts (l.part - 6) l.cache) (λ o origin course.
        (left_at o origin course).leaves before.begun.leaf_parts (l.part - 6) l.cache
        (λ k m its. held_in k m) (leaves_at before did.is.since o origin course)))

    journal_behind : IsJournal new (world cache_facts backing_facts w)
    journal_behind = record {
      stands = behind (λ o st. IsJournalOf o.opening.machine (journal_share st.machine) new)
          (λ o origin course. (left_at o origin course).journal);
      needs = subst (λ n. FromEach (world cache_facts backing_facts w) (λ o st. NeedsFrom n st))
          (sym (ap (λ (k : Journal). k.needed) is.journal))
          (needs_committed cache_facts backing_facts v w d j.needed did
          (journal_at before did.is.since).needs);
    }

    pub fixed_behind : FromEach (world cache_facts backing_facts w) (IsFixedEntry s)
    fixed_behind = behind (IsFixedEntry s) (λ o origin course. (left_at o origin course).fixed)

    pub under_behind : FromEach (world cache_facts backing_facts w)
        (IsByRoot v.first plan c s.entry.seq slot)
    under_behind = behind (IsByRoot v.first plan c s.entry.seq slot)
        (λ o origin course. (left_at o origin course).under)

    -- ---- in hand

    abbrev others : Hand C B
    others = record h { spine = None; leaves = None; journal = None }

    others_held : (k : ℕ) → Holds (numbers others) k → Holds (numbers h) k
    others_held k = more_parts 5 h.backing _ _ k (more_parts 4 h.cache _ _ k (λ holds.
        behind_part 3 h.journal _ k (more_parts 2 h.buckets _ _ k (more_parts 1 h.flight _ _ k
        (λ none. absurd none)) holds)))

    others_unchanged : (k : ℕ) → Holds (numbers others) k
        → changes (length v.run.start) (by v.first d) k ≡ false
    others_unchanged k holds = elim (in_part 5 h.backing _ k holds) [
      | inl five ↦ off 5 five refl
      | inr more ↦ elim (in_part 4 h.cache _ k more) [
        | inl four ↦ off 4 four refl
        | inr more ↦ elim (in_part 2 h.buckets _ k more) [
          | inl two ↦ off 2 two refl
          | inr more ↦ elim (in_part 1 h.flight [] k more) [
            | inl one ↦ off 1 one refl
            | inr none ↦ absurd none
          ]
        ]
      ]
    ]
      where
        off : (a : ℕ) → k ≡ a → changes (length v.run.start) (by v.first d) a ≡ false
            → changes (length v.run.start) (by v.first d) k ≡ false
        off a same at = subst (λ b. changes (length v.run.start) (by v.first d) b ≡ false)
            (sym same) at

    others_before : StandIn cache_facts backing_facts others (world cache_facts backing_facts v)
    others_before = record {
      spine = tt;
      leaves = tt;
      flight = works.stand.flight;
      buckets = works.stand.buckets;
      journal = tt;
      cache = works.stand.cache;
      backing = works.stand.backing;
    }

    pub works_sealed : Kept (m cache_facts backing_facts) v w
        (changes (length v.run.start) (by v.first d))
        → Works cache_facts backing_facts p w (record h { journal = Some new })
    works_sealed kept =
        let stand = stand_kept cache_facts backing_facts v w others
        (changes (length v.run.start) (by v.first d)) kept
        (λ k holds. subst (λ ks. Holds ks k) (sym works.parts) (others_held k holds))
        others_unchanged others_before in record {
          run = kept.same.run ∙ works.run;
          seat = did.seat;
          parts = kept.parts ∙ works.parts
              ∙ ap (λ (o : Option Journal). with_part 5 h.backing (with_part 4 h.cache
              (with_part 3 o (with_part 2 h.buckets (with_part 1 h.flight
              (with_leaves h.leaves (with_part 0 h.spine []))))))) may.can.is_journal;
          stand = record {
            spine = subst (λ (o : Option SpinePart). IfSome o
                (λ q. IsSpinePart q (world cache_facts backing_facts w))) (sym may.can.is_spine)
                spine_behind;
            leaves = subst (λ (o : Option LeafHand). IfSome o (λ q. (6 ≤ q.part)
                × AreLeaves (q.part - 6) q.cache (world cache_facts backing_facts w)))
                (sym may.can.are_leaves) (leaves_now.0, leaves_behind);
            flight = stand.flight;
            buckets = stand.buckets;
            journal = journal_behind;
            cache = stand.cache;
            backing = stand.backing;
          };
        }

-- ---- by whatever numbers these are

pub some_of : {A : Type 0} (P : A → Type 0) (o : Option A) (a : A) → o ≡ Some a → IfSome o P → P a
some_of {A} P o a is h = subst (λ (x : Option A). IfSome x P) is h

pub same_some : {A : Type 0} (o : Option A) (a b : A) → o ≡ Some a → o ≡ Some b → a ≡ b
same_some o a b is at = let both : Some a ≡ Some b = sym is ∙ at in cc

module _ {C B : Type 0} (cache_facts : C → DiskFacts) (backing_facts : B → DiskFacts)
    (v w : View cache_facts backing_facts) (j : Journal) (rest : Vec ℕ Global) (slot : ℕ)
    (c : Change) where
  abbrev sealing_at : ℕ → Option ℕ → Deed
  sealing_at n begun = deed.Seal n begun rest (Some (record { inner = slot; change = c })) None

  pub did_sealing : (n : ℕ) (begun : Option ℕ) → n ≡ j.needed → begun ≡ begun_by j
      → Did cache_facts backing_facts (Some (sealing_at n begun)) v w
      → Did cache_facts backing_facts (Some (sealing j (begun_by j) rest slot c)) v w
  did_sealing n begun n_is begun_is did = subst (λ (b : Option ℕ).
      Did cache_facts backing_facts (Some (sealing_at j.needed b)) v w) begun_is
      (subst (λ k. Did cache_facts backing_facts (Some (sealing_at k begun)) v w) n_is did)

  pub kept_sealing : (n : ℕ) (begun : Option ℕ) → n ≡ j.needed → begun ≡ begun_by j
      → Kept (m cache_facts backing_facts) v w
      (changes (length v.run.start) (by v.first (sealing_at n begun)))
      → Kept (m cache_facts backing_facts) v w
      (changes (length v.run.start) (by v.first (sealing j (begun_by j) rest slot c)))
  kept_sealing n begun n_is begun_is kept = subst (λ (b : Option ℕ).
      Kept (m cache_facts backing_facts) v w
      (changes (length v.run.start) (by v.first (sealing_at j.needed b)))) begun_is
      (subst (λ k. Kept (m cache_facts backing_facts) v w
      (changes (length v.run.start) (by v.first (sealing_at k begun)))) n_is kept)

  pub has_sealed_root : (heads : Heads) (s : Sealed) (new : Journal) → IsSealed j heads s new
      → rest.items ≡ entry_rest s.entry
      → Did cache_facts backing_facts (Some (sealing j (begun_by j) rest slot c)) v w
      → HasSealedRoot cache_facts backing_facts j s slot c v w
  has_sealed_root heads s new is rest_is did = record {
    rest = rest;
    rest_is = rest_is;
    did = subst (λ n. Did cache_facts backing_facts (Some (sealing_at n (begun_by j))) v w)
        (sym (ap (λ x. x.last_seq) is.entry)) did;
  }
