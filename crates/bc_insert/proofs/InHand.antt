-- Leaf, buckets and journal in hand for keys that come in, and the parts that such an event changes.
use Rattle.std.proofs.Common.{◌≡◌, ◌≢◌, ◌⊎◌, inl, inr, ℕ, zero, suc, ◌-◌, ◌%◌, ◌<◌, ◌≤◌, Bool, true, false, List, [], ◌∷◌, length, Option, Some, None, refl, sym, ap, ◌∙◌, subst, arith}
use Rattle.std.specs.Prelude.{◌==◌, if◌then◌else◌, slice_get}
use Rattle.std.proofs.lemmas.List.Elements.{All-head, All-tail}
use Rattle.bc_books.specs.Index.{latest}
use Rattle.bc_cache.specs.Slots.{IsSlotOf, NodeCache}
use Rattle.bc_cache.specs.declared.slots.Cached.{Cached}
use Rattle.bc_disk.specs.Disk.{DiskFacts}
use Rattle.bc_disk.specs.declared.disk.Device.TheVariants.{Backing, Cache}
use Rattle.bc_events.specs.Columns.{call_by}
use Rattle.bc_events.specs.declared.event.Deed.{Deed}
use Rattle.bc_place.specs.bc_hand.Seats.{Works, by, numbers, with_leaves, with_part, world}
use Rattle.bc_place.specs.bc_hand.declared.hand.Hand.{Hand}
use Rattle.bc_place.specs.bc_hand.declared.hand.LeafHand.{LeafHand}
use Rattle.bc_place.proofs.of_bc_hand.Knowing.{View}
use Rattle.bc_image.specs.Sound.{LiesWithin}
use Rattle.bc_journal.specs.Journal.{Journal}
use Rattle.bc_key.specs.declared.key.Key.{Key}
use Rattle.bc_known.specs.Acts as known
use Rattle.bc_leaves.specs.Frame.{AllWithin}
use Rattle.bc_leaves.specs.Parts.{Coming, Draft, Free, Leaving, NoNode, Role}
use Rattle.bc_leaves.specs.Parts as parts
use Rattle.bc_sight.proofs.of_bc_looks.Law.{law_keys, law_slots}
use Rattle.bc_place.specs.bc_machine.Containers.{AreLeavesOf, IsInTree, IsLeafFor}
use Rattle.bc_place.specs.bc_machine.World.{AreBuckets, AreLeaves, IsCourseOf, IsJournal, IsOrigin, Origin, World, changes, is_call_of, lies_in, replay, touches_flight, touches_leaves}
use Rattle.bc_place.specs.bc_machine.declared.part.CorePart.{CorePart}
use Rattle.bc_meta.proofs.Lists.{by_test}
use Rattle.bc_node.specs.Leaf.{AreWithin}
use Rattle.bc_parts.specs.Seat.{Holds, PartsView}
use Rattle.bc_shares.specs.Shares.{books_of, leaf_share}
use Rattle.bc_shares.specs.Touched.{touches_buckets, touches_journal, touches_spine}
use Rattle.bc_sight.specs.Sight.{said_in}
use Rattle.bc_sight.proofs.Looking.{holds_buckets, some_of}
use Rattle.bc_whole.specs.State as whole
use Rattle.bc_whole.specs.Together.{ref_of}
use Rattle.bc_insert.specs.Insert.{CanPutIn}

-- ---- parts in hand

behind : {A : Type 0} (n : ℕ) (o : Option A) (ks : List ℕ) (k : ℕ) → Holds ks k
    → Holds (with_part n o ks) k
behind n None ks k h = h
behind n (Some a) ks k h = inr h

here : {A : Type 0} (n : ℕ) (o : Option A) (a : A) (ks : List ℕ) → o ≡ Some a
    → Holds (with_part n o ks) n
here n None a ks is = absurd (cc)
here n (Some b) a ks is = inl refl

here_leaves : (o : Option LeafHand) (l : LeafHand) (ks : List ℕ) → o ≡ Some l
    → Holds (with_leaves o ks) l.part
here_leaves None l ks is = absurd (cc)
here_leaves (Some x) l ks is = let e : x ≡ l = cc in inl (ap (λ (y : LeafHand). y.part) (sym e))

pub holds_leaves : {C B : Type 0} (h : Hand C B) (l : LeafHand) → h.leaves ≡ Some l
    → Holds (numbers h) l.part
holds_leaves h l is = behind 5 h.backing _ l.part (behind 4 h.cache _ l.part
    (behind 3 h.journal _ l.part (behind 2 h.buckets _ l.part (behind 1 h.flight _ l.part
    (here_leaves h.leaves l (with_part 0 h.spine []) is)))))

pub holds_journal : {C B : Type 0} (h : Hand C B) (j : Journal) → h.journal ≡ Some j
    → Holds (numbers h) 3
holds_journal h j is = behind 5 h.backing _ 3 (behind 4 h.cache _ 3 (here 3 h.journal j
    (with_part 2 h.buckets (with_part 1 h.flight (with_leaves h.leaves (with_part 0 h.spine []))))
    is))

-- the parts that keys change
by_number : (k a : ℕ) (b rest : Bool) → (if k == a then b else rest) ≡ true
    → ((k ≡ a) × (b ≡ true)) ⊎ ((k ≢ a) × (rest ≡ true))
by_number k a b rest = by_test k a (λ t. (if t then b else rest) ≡ true
    → ((k ≡ a) × (b ≡ true)) ⊎ ((k ≢ a) × (rest ≡ true)))
    (λ is on. inl (is, on)) (λ ne on. inr (ne, on))

off_is_not_on : false ≡ true → ⊥
off_is_not_on on = cc

above : (k : ℕ) → k ≢ 0 → k ≢ 1 → k ≢ 2 → k ≢ 3 → k ≢ 4 → k ≢ 5 → 6 ≤ k
above zero a b c d e f = absurd (a refl)
above (suc zero) a b c d e f = absurd (b refl)
above (suc (suc zero)) a b c d e f = absurd (c refl)
above (suc (suc (suc zero))) a b c d e f = absurd (d refl)
above (suc (suc (suc (suc zero)))) a b c d e f = absurd (e refl)
above (suc (suc (suc (suc (suc zero))))) a b c d e f = absurd (f refl)
above (suc (suc (suc (suc (suc (suc k)))))) a b c d e f = omega arith

abbrev Changed : (n number k : ℕ) → Type 0
Changed n number k = (k ≡ 2) ⊎ ((k ≡ 3) ⊎ ((6 ≤ k) × (number % (n - 6) ≡ k - 6)))

-- The deed changes buckets, journal and the part that has this leaf, and no other part but the
-- claims.
pub record ComesInto (number : ℕ) (d : Deed) : Type 0 where
  pub spine : touches_spine d ≡ false
  pub cache : is_call_of Cache (call_by d) ≡ false
  pub backing : is_call_of Backing (call_by d) ≡ false
  pub leaves : (count part : ℕ) → touches_leaves count part d ≡ lies_in count part number

yes_no : (b : Bool) → b ≡ true → b ≡ false → ⊥
yes_no b on off = absurd (cc)

pub changed_parts : (n number i : ℕ) (d : Deed) → ComesInto number d → (k : ℕ)
    → changes n (by i d) k ≡ true → ((k ≡ 1) × (touches_flight d ≡ true)) ⊎ Changed n number k
changed_parts n number i d into k on = elim (by_number k 0 (touches_spine d) _ on) [
  | inl a ↦ absurd (yes_no _ a.1 into.spine)
  | inr a ↦ elim (by_number k 1 (touches_flight d) _ a.1) [
    | inl b ↦ inl b
    | inr b ↦ elim (by_number k 2 (touches_buckets d) _ b.1) [
      | inl c ↦ inr (inl c.0)
      | inr c ↦ elim (by_number k 3 (touches_journal d) _ c.1) [
        | inl e ↦ inr (inr (inl e.0))
        | inr e ↦ elim (by_number k 4 (is_call_of Cache (call_by d)) _ e.1) [
          | inl f ↦ absurd (yes_no _ f.1 into.cache)
          | inr f ↦ elim (by_number k 5 (is_call_of Backing (call_by d)) _ f.1) [
            | inl g ↦ absurd (yes_no _ g.1 into.backing)
            | inr g ↦ inr (inr (inr (
              above k a.0 b.0 c.0 e.0 f.0 g.0,
              its_rest (sym (into.leaves (n - 6) (k - 6)) ∙ g.1),
            )))
          ]
        ]
      ]
    ]
  ]
]
  where
    its_rest : (number % (n - 6) == k - 6) ≡ true → number % (n - 6) ≡ k - 6
    its_rest = by_test (number % (n - 6)) (k - 6) (λ b. b ≡ true → number % (n - 6) ≡ k - 6)
        (λ same _. same) (λ _ off. absurd (off_is_not_on off))

-- ---- a leaf that no change moves

pub free_role : (a : parts.State) (count part : ℕ) (w : whole.Opening) (cache : NodeCache)
    (slot number : ℕ) (cached : Cached) → AreLeavesOf w a count part cache
    → slice_get cache.slots slot ≡ Some (Some cached) → cached.number ≡ number
    → IsSlotOf cache.slots number slot → cached.held ≡ false
    → (a.leaves cached.number).role ≡ Free
free_role a count part w cache slot number cached h there is only free =
    go (a.leaves cached.number).role refl (h.leaves slot cached there).at.role
  where
    unheld : (i : ℕ) (c : Cached) → slice_get cache.slots i ≡ Some (Some c)
        → c.number ≡ cached.number → c.held ≡ true → ⊥
    unheld i c at same held =
        let e = only.only i (record { cached = c; there = at; number_is = same ∙ is }) in
        one c (slice_get cache.slots slot)
        (subst (λ m. slice_get cache.slots m ≡ Some (Some c)) e at) there held
      where
        one : (c : Cached) (o : Option (Option Cached)) → o ≡ Some (Some c)
            → o ≡ Some (Some cached) → c.held ≡ true → ⊥
        one c o a b held = let same : c ≡ cached = cc in
            let off : cached.held ≡ true = ap (λ (x : Cached). x.held) (sym same) ∙ held in
            let both : true ≡ false = sym off ∙ free in cc

    go : (r : Role) → (a.leaves cached.number).role ≡ r
        → IsInTree (a.leaves cached.number).role → (a.leaves cached.number).role ≡ Free
    go NoNode e tree = absurd (subst IsInTree e tree)
    go Draft e tree = absurd (subst IsInTree e tree)
    go Coming e tree = absurd (subst IsInTree e tree)
    go Free e tree = e
    go Leaving e tree =
        let one = h.leaving cached.number (h.rest slot cached there) e in
        absurd (unheld one.0 one.1 one.2 one.3 one.4)

module _ {C B : Type 0} (cache_facts : C → DiskFacts) (backing_facts : B → DiskFacts)
    (p : PartsView (CorePart C B)) (v : View cache_facts backing_facts) (h : Hand C B)
    (works : Works cache_facts backing_facts p v h) (number slot : ℕ) (cached : Cached)
    (keys : List Key) (can : CanPutIn h (length p.run.start) slot number cached keys) where
  pub leaves_in : (6 ≤ can.leaves.part)
      × AreLeaves (can.leaves.part - 6) can.leaves.cache (world cache_facts backing_facts v)
  leaves_in = some_of (λ l. (6 ≤ l.part)
      × AreLeaves (l.part - 6) l.cache (world cache_facts backing_facts v)) h.leaves can.leaves
      can.is works.stand.leaves

  pub buckets_in_hand : AreBuckets can.buckets (world cache_facts backing_facts v)
  buckets_in_hand = some_of (λ b. AreBuckets b (world cache_facts backing_facts v)) h.buckets
      can.buckets can.are_buckets works.stand.buckets

  pub journal_in_hand : IsJournal can.journal (world cache_facts backing_facts v)
  journal_in_hand = some_of (λ j. IsJournal j (world cache_facts backing_facts v)) h.journal
      can.journal can.is_journal works.stand.journal

  pub has_leaves : Holds v.parts can.leaves.part
  has_leaves = subst (λ ks. Holds ks can.leaves.part) (sym works.parts)
      (holds_leaves h can.leaves can.is)

  pub has_buckets : Holds v.parts 2
  has_buckets = subst (λ ks. Holds ks 2) (sym works.parts)
      (holds_buckets h can.buckets can.are_buckets)

  pub has_journal : Holds v.parts 3
  has_journal = subst (λ ks. Holds ks 3) (sym works.parts)
      (holds_journal h can.journal can.is_journal)

  its_held : (n k : ℕ) → n ≡ length p.run.start → Changed n number k → Holds v.parts k
  its_held n k is changed = elim changed [
    | inl two ↦ subst (λ m. Holds v.parts m) (sym two) has_buckets
    | inr (inl three) ↦ subst (λ m. Holds v.parts m) (sym three) has_journal
    | inr (inr at) ↦ subst (λ m. Holds v.parts m) (its_part at.0 at.1) has_leaves
  ]
    where
      its_part : 6 ≤ k → number % (n - 6) ≡ k - 6 → can.leaves.part ≡ k
      its_part low at = let part = can.its_part in
          let same = ap (λ m. number % (m - 6)) is in
          omega (arith, part, low, at, same)

  pub holds_changed : (d : Deed) → ComesInto number d → touches_flight d ≡ false → (n : ℕ)
      → n ≡ length p.run.start → (k : ℕ) → changes n (by v.first d) k ≡ true → Holds v.parts k
  holds_changed d into off n is k on = elim (changed_parts n number v.first d into k on) [
    | inl one ↦ absurd (yes_no _ one.1 off)
    | inr rest ↦ its_held n k is rest
  ]

  -- with the claims in hand too
  pub holds_all_changed : (d : Deed) → ComesInto number d → Holds v.parts 1 → (n : ℕ)
      → n ≡ length p.run.start → (k : ℕ) → changes n (by v.first d) k ≡ true → Holds v.parts k
  holds_all_changed d into claims n is k on = elim (changed_parts n number v.first d into k on) [
    | inl one ↦ subst (λ m. Holds v.parts m) (sym one.0) claims
    | inr rest ↦ its_held n k is rest
  ]

  -- ---- what the leaf in hand says of a state

  module _ (only : IsSlotOf can.leaves.cache.slots number slot) (x : World) (o : Origin)
      (origin : IsOrigin x o) (course : IsCourseOf o x.log)
      (leaves : AreLeaves (can.leaves.part - 6) can.leaves.cache x) where
    abbrev w : whole.Opening
    w = o.opening.machine

    abbrev st : known.State
    st = (replay o x.log).machine

    abbrev own : AreLeavesOf w st.whole.parts x.begun.leaf_parts (can.leaves.part - 6)
        can.leaves.cache
    own = leaves o origin course

    pub leaf : IsLeafFor w (leaf_share st.whole.parts cached.number) cached.leaf
    leaf = own.leaves slot cached can.can.there

    pub role : (st.whole.parts.leaves cached.number).role ≡ Free
    role = free_role st.whole.parts x.begun.leaf_parts (can.leaves.part - 6) w can.leaves.cache
        slot number cached own can.can.there can.can.number_is only can.free

    pub role_there : (st.whole.parts.leaves number).role ≡ Free
    role_there = subst (λ n. (st.whole.parts.leaves n).role ≡ Free) can.can.number_is role

    in_leaf : (s : ℕ) → cached.leaf.from ≤ s → s < cached.leaf.end
        → parts.InRange (st.whole.parts.leaves cached.number) s
    in_leaf s low high =
        let first = leaf.at.first in
        let end = leaf.at.end_is in (omega (arith, first, low), omega (arith, end, high))

    pub slot_is : (s : ℕ) → cached.leaf.from ≤ s → s < cached.leaf.end
        → (books_of st).index.leaf s ≡ number
    slot_is s low high = law_slots x o origin course cached.number s leaf.at.role
        (in_leaf s low high) ∙ can.can.number_is

    pub says : (s : ℕ) → cached.leaf.from ≤ s → s < cached.leaf.end
        → ref_of (latest (books_of st).index s) ≡ said_in cached.leaf s
    says s low high = sym (law_keys x o origin course cached.number s leaf.at.role
        (in_leaf s low high)) ∙ sym (leaf.keys s low high)

    -- keys within the leaf in hand are within that of the state
    pub all_in_leaf : (xs : List Key) → AreWithin cached.leaf.from cached.leaf.end xs
        → AllWithin st.whole.parts number xs
    all_in_leaf xs all = subst (λ n. AllWithin st.whole.parts n xs) can.can.number_is (each xs all)
      where
        each : (xs : List Key) → AreWithin cached.leaf.from cached.leaf.end xs
            → AllWithin st.whole.parts cached.number xs
        each [] all = tt
        each (k ∷ xs) all =
            let first = leaf.at.first in
            let end = leaf.at.end_is in
            let here = All-head (LiesWithin 0 cached.leaf.from cached.leaf.end) k xs all in
            let low = here.0 in
            let high = here.1 in (
              (omega (arith, first, low), omega (arith, end, high)),
              each xs (All-tail (LiesWithin 0 cached.leaf.from cached.leaf.end) k xs all),
            )
