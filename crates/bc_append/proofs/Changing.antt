-- The parts that a set of a leaf changes: the cache device, and the part that has the leaf.
use Rattle.std.proofs.Common.{◌≡◌, ◌≢◌, ◌⊎◌, inl, inr, ℕ, zero, suc, ◌+◌, ◌-◌, ◌%◌, ◌<◌, ◌≤◌, Bool, true, false, List, [], ◌∷◌, Option, Some, None, refl, sym, ap, ◌∙◌, subst, arith}
use Rattle.std.specs.Prelude.{◌==◌, IfSome, if◌then◌else◌}
use Rattle.bc_cache.specs.Slots.{NodeCache}
use Rattle.bc_disk.specs.Disk.{DiskFacts}
use Rattle.bc_disk.specs.declared.disk.Device.TheVariants.{Backing, Cache}
use Rattle.bc_events.specs.Columns.{call_by}
use Rattle.bc_events.specs.declared.event.Deed.{Deed}
use Rattle.bc_append.proofs.Held.{holds_leaves}
use Rattle.bc_place.proofs.of_bc_hand.Knowing.{View, m}
use Rattle.bc_place.proofs.of_bc_hand.Lending.{stand_kept}
use Rattle.bc_place.specs.bc_hand.Seats.{IsCoreSeat, StandIn, Works, by, numbers, with_leaves, with_part, world}
use Rattle.bc_place.specs.bc_hand.declared.hand.Hand.{Hand}
use Rattle.bc_place.specs.bc_hand.declared.hand.LeafHand.{LeafHand}
use Rattle.bc_place.specs.bc_machine.World.{AreLeaves, IsCache, changes, is_call_of, lies_in, touches_flight, touches_leaves}
use Rattle.bc_place.specs.bc_machine.declared.part.CorePart.{CorePart}
use Rattle.bc_meta.proofs.Lists.{by_test}
use Rattle.bc_parts.specs.Seat.{Holds, PartsView}
use Rattle.bc_seats.specs.Seats.{Kept}
use Rattle.bc_shares.specs.Touched.{touches_buckets, touches_journal, touches_spine}

-- The deed is a call of the cache device that changes this leaf, and no other part.
pub record SetsLeaf (number : ℕ) (d : Deed) : Type 0 where
  pub spine : touches_spine d ≡ false
  pub flight : touches_flight d ≡ false
  pub buckets : touches_buckets d ≡ false
  pub journal : touches_journal d ≡ false
  pub backing : is_call_of Backing (call_by d) ≡ false
  pub leaves : (count part : ℕ) → touches_leaves count part d ≡ lies_in count part number

by_number : (k a : ℕ) (b rest : Bool) → (if k == a then b else rest) ≡ true
    → ((k ≡ a) × (b ≡ true)) ⊎ ((k ≢ a) × (rest ≡ true))
by_number k a b rest = by_test k a (λ t. (if t then b else rest) ≡ true
    → ((k ≡ a) × (b ≡ true)) ⊎ ((k ≢ a) × (rest ≡ true)))
    (λ is on. inl (is, on)) (λ ne on. inr (ne, on))

above : (k : ℕ) → k ≢ 0 → k ≢ 1 → k ≢ 2 → k ≢ 3 → k ≢ 4 → k ≢ 5 → 6 ≤ k
above zero a b c d e f = absurd (a refl)
above (suc zero) a b c d e f = absurd (b refl)
above (suc (suc zero)) a b c d e f = absurd (c refl)
above (suc (suc (suc zero))) a b c d e f = absurd (d refl)
above (suc (suc (suc (suc zero)))) a b c d e f = absurd (e refl)
above (suc (suc (suc (suc (suc zero))))) a b c d e f = absurd (f refl)
above (suc (suc (suc (suc (suc (suc k)))))) a b c d e f = omega arith

yes_no : (b : Bool) → b ≡ true → b ≡ false → ⊥
yes_no b on off = absurd (cc)

not_true : (b : Bool) → (b ≡ true → ⊥) → b ≡ false
not_true false off = refl
not_true true off = absurd (off refl)

off_is_not_on : false ≡ true → ⊥
off_is_not_on on = cc

changed_parts : (n number i : ℕ) (d : Deed) → SetsLeaf number d → (k : ℕ)
    → changes n (by i d) k ≡ true → (k ≡ 4) ⊎ (k ≡ 6 + number % (n - 6))
changed_parts n number i d into k on = elim (by_number k 0 (touches_spine d) _ on) [
  | inl a ↦ absurd (yes_no _ a.1 into.spine)
  | inr a ↦ elim (by_number k 1 (touches_flight d) _ a.1) [
    | inl b ↦ absurd (yes_no _ b.1 into.flight)
    | inr b ↦ elim (by_number k 2 (touches_buckets d) _ b.1) [
      | inl c ↦ absurd (yes_no _ c.1 into.buckets)
      | inr c ↦ elim (by_number k 3 (touches_journal d) _ c.1) [
        | inl e ↦ absurd (yes_no _ e.1 into.journal)
        | inr e ↦ elim (by_number k 4 (is_call_of Cache (call_by d)) _ e.1) [
          | inl f ↦ inl f.0
          | inr f ↦ elim (by_number k 5 (is_call_of Backing (call_by d)) _ f.1) [
            | inl g ↦ absurd (yes_no _ g.1 into.backing)
            | inr g ↦ inr (let high = above k a.0 b.0 c.0 e.0 f.0 g.0 in
                let same = its_rest (sym (into.leaves (n - 6) (k - 6)) ∙ g.1) in
                omega (arith, high, same))
          ]
        ]
      ]
    ]
  ]
]
  where
    its_rest : (number % (n - 6) == k - 6) ≡ true → number % (n - 6) ≡ k - 6
    its_rest = by_test (number % (n - 6)) (k - 6) (λ b. b ≡ true → number % (n - 6) ≡ k - 6)
        (λ same _. same) (λ _ off. absurd (off_is_not_on off))

-- ---- parts in hand

more : {A : Type 0} (n : ℕ) (o : Option A) (xs ys : List ℕ) (k : ℕ) → (Holds xs k → Holds ys k)
    → Holds (with_part n o xs) k → Holds (with_part n o ys) k
more n None xs ys k f holds = f holds
more n (Some a) xs ys k f (inl is) = inl is
more n (Some a) xs ys k f (inr holds) = inr (f holds)

over_leaves : (o : Option LeafHand) (ks : List ℕ) (k : ℕ) → Holds ks k → Holds (with_leaves o ks) k
over_leaves None ks k holds = holds
over_leaves (Some l) ks k holds = inr holds

either_part : {A : Type 0} (n : ℕ) (o : Option A) (ks : List ℕ) (k : ℕ) → Holds (with_part n o ks) k
    → (k ≡ n) ⊎ Holds ks k
either_part n None ks k holds = inr holds
either_part n (Some a) ks k (inl is) = inl is
either_part n (Some a) ks k (inr holds) = inr holds

other_part : (k n l : ℕ) → k ≡ n → n ≢ 4 → n < 6 → 6 ≤ l → (k ≢ 4) × (k ≢ l)
other_part k n l is ne small high = ((λ four. ne (sym is ∙ four)), (λ at. omega (arith, is, at, small, high)))

module _ {C B : Type 0} (h : Hand C B) where
  -- what is in hand beside leaves and cache device
  abbrev rest : Hand C B
  rest = record h { leaves = None; cache = None }

  rest_held : (c : C) (k : ℕ) → Holds (numbers rest) k
      → Holds (numbers (record h { cache = Some c })) k
  rest_held c k = more 5 h.backing _ _ k (λ holds. inr (more 3 h.journal _ _ k
      (more 2 h.buckets _ _ k (more 1 h.flight _ _ k (λ low. over_leaves h.leaves _ k low))) holds))

  rest_other : (l k : ℕ) → 6 ≤ l → Holds (numbers rest) k → (k ≢ 4) × (k ≢ l)
  rest_other l k high holds = elim (either_part 5 h.backing _ k holds) [
    | inl five ↦ other_part k 5 l five (λ e. cc) (omega arith) high
    | inr more ↦ elim (either_part 3 h.journal _ k more) [
      | inl three ↦ other_part k 3 l three (λ e. cc) (omega arith) high
      | inr more ↦ elim (either_part 2 h.buckets _ k more) [
        | inl two ↦ other_part k 2 l two (λ e. cc) (omega arith) high
        | inr more ↦ elim (either_part 1 h.flight _ k more) [
          | inl one ↦ other_part k 1 l one (λ e. cc) (omega arith) high
          | inr more ↦ elim (either_part 0 h.spine [] k more) [
            | inl none ↦ other_part k 0 l none (λ e. cc) (omega arith) high
            | inr out ↦ absurd out
          ]
        ]
      ]
    ]
  ]

  same_numbers : (l : LeafHand) (old new : C) (cache : NodeCache) → h.leaves ≡ Some l
      → numbers (record h { cache = Some old }) ≡ numbers (record h {
        leaves = Some (record l { cache = cache });
        cache = Some new;
      })
  same_numbers l old new cache is = ap (λ (o : Option LeafHand). with_part 5 h.backing
      (4 ∷ with_part 3 h.journal (with_part 2 h.buckets (with_part 1 h.flight
      (with_leaves o (with_part 0 h.spine [])))))) is

module _ {C B : Type 0} (cache_facts : C → DiskFacts) (backing_facts : B → DiskFacts)
    (p : PartsView (CorePart C B)) (v : View cache_facts backing_facts) (h : Hand C B) (old : C)
    (works : Works cache_facts backing_facts p v (record h { cache = Some old })) (l : LeafHand)
    (is : h.leaves ≡ Some l) where
  pub leaves_in : (6 ≤ l.part) × AreLeaves (l.part - 6) l.cache (world cache_facts backing_facts v)
  leaves_in = subst (λ (o : Option LeafHand). IfSome o (λ l. (6 ≤ l.part)
      × AreLeaves (l.part - 6) l.cache (world cache_facts backing_facts v))) is works.stand.leaves

  pub has_leaves : Holds v.parts l.part
  has_leaves = subst (λ ks. Holds ks l.part) (sym works.parts)
      (holds_leaves (record h { cache = Some old }) l is)

  over : {A : Type 0} (n : ℕ) (o : Option A) (ks : List ℕ) (k : ℕ) → Holds ks k
      → Holds (with_part n o ks) k
  over n None ks k holds = holds
  over n (Some a) ks k holds = inr holds

  pub has_cache : Holds v.parts 4
  has_cache = subst (λ ks. Holds ks 4) (sym works.parts) (over 5 h.backing _ 4 (inl refl))

  module _ (number n : ℕ) (its : l.part ≡ 6 + number % (n - 6)) (d : Deed)
      (into : SetsLeaf number d) where
    pub holds_changed : (k : ℕ) → changes n (by v.first d) k ≡ true → Holds v.parts k
    holds_changed k on = elim (changed_parts n number v.first d into k on) [
      | inl four ↦ subst (Holds v.parts) (sym four) has_cache
      | inr at ↦ subst (Holds v.parts) (its ∙ sym at) has_leaves
    ]

    others_off : (k : ℕ) → k ≢ 4 → k ≢ l.part → changes n (by v.first d) k ≡ false
    others_off k four leaves = not_true (changes n (by v.first d) k)
        (λ on. elim (changed_parts n number v.first d into k on) [
          | inl at ↦ four at
          | inr at ↦ leaves (at ∙ sym its)
        ])

    -- The parts that it changed stand anew, and the others as before.
    pub works_behind : (w : View cache_facts backing_facts) (new : C) (cache : NodeCache)
        → IsCoreSeat cache_facts backing_facts w
        → Kept (m cache_facts backing_facts) v w (changes n (by v.first d))
        → AreLeaves (l.part - 6) cache (world cache_facts backing_facts w)
        → IsCache {C = C} {B = B} cache_facts backing_facts new (world cache_facts backing_facts w)
        → Works cache_facts backing_facts p w (record h {
          leaves = Some (record l { cache = cache });
          cache = Some new;
        })
    works_behind w new cache seat kept leaves device = record {
      run = kept.same.run ∙ works.run;
      seat = seat;
      parts = kept.parts ∙ works.parts ∙ same_numbers h l old new cache is;
      stand = record {
        spine = others.spine;
        leaves = (leaves_in.0, leaves);
        flight = others.flight;
        buckets = others.buckets;
        journal = others.journal;
        cache = device;
        backing = others.backing;
      };
    }
      where
        before : StandIn cache_facts backing_facts (rest h) (world cache_facts backing_facts v)
        before = record {
          spine = works.stand.spine;
          leaves = tt;
          flight = works.stand.flight;
          buckets = works.stand.buckets;
          journal = works.stand.journal;
          cache = tt;
          backing = works.stand.backing;
        }

        others : StandIn cache_facts backing_facts (rest h) (world cache_facts backing_facts w)
        others = stand_kept cache_facts backing_facts v w (rest h) (changes n (by v.first d)) kept
            (λ k holds. subst (λ ks. Holds ks k) (sym works.parts) (rest_held h old k holds))
            (λ k holds. let apart = rest_other h l.part k leaves_in.0 holds in
            others_off k apart.0 apart.1) before
