-- The parts that the write of a new node changes: the tree, for the number that the next one gets, and
-- the cache device.
use Rattle.std.proofs.Common.{◌≡◌, ◌≢◌, ◌⊎◌, inl, inr, ℕ, ◌-◌, ◌≤◌, Bool, true, false, List, [], ◌∷◌, Option, Some, None, refl, sym, ap, ◌∙◌, subst, arith}
use Rattle.std.specs.Prelude.{◌==◌, IfSome, if◌then◌else◌}
use Rattle.bc_disk.specs.Disk.{DiskFacts}
use Rattle.bc_disk.specs.declared.disk.Device.TheVariants.{Backing, Cache}
use Rattle.bc_events.specs.Columns.{call_by}
use Rattle.bc_events.specs.declared.event.Deed.{Deed}
use Rattle.bc_held.proofs.of_bc_hand.Knowing.{View, m}
use Rattle.bc_held.proofs.of_bc_hand.Lending.{stand_kept}
use Rattle.bc_held.specs.bc_hand.Seats.{IsCoreSeat, StandIn, Works, by, numbers, with_leaves, with_part, world}
use Rattle.bc_held.specs.bc_hand.declared.hand.Hand.{Hand}
use Rattle.bc_held.specs.bc_hand.declared.hand.LeafHand.{LeafHand}
use Rattle.bc_held.specs.bc_machine.World.{AreLeaves, IsCache, IsSpinePart, changes, is_call_of, touches_flight, touches_leaves}
use Rattle.bc_held.specs.bc_machine.declared.part.CorePart.{CorePart}
use Rattle.bc_held.specs.bc_machine.declared.part.SpinePart.{SpinePart}
use Rattle.bc_meta.proofs.Lists.{by_test}
use Rattle.bc_parts.specs.Seat.{Holds, PartsView}
use Rattle.bc_seats.specs.Seats.{Kept}
use Rattle.bc_shares.specs.Touched.{touches_buckets, touches_journal}

-- the deed changes no other part
pub record WritesNode (d : Deed) : Type 0 where
  pub flight : touches_flight d ≡ false
  pub buckets : touches_buckets d ≡ false
  pub journal : touches_journal d ≡ false
  pub backing : is_call_of Backing (call_by d) ≡ false
  pub leaves : (count part : ℕ) → touches_leaves count part d ≡ false

by_number : (k a : ℕ) (b rest : Bool) → (if k == a then b else rest) ≡ true
    → ((k ≡ a) × (b ≡ true)) ⊎ ((k ≢ a) × (rest ≡ true))
by_number k a b rest = by_test k a (λ t. (if t then b else rest) ≡ true
    → ((k ≡ a) × (b ≡ true)) ⊎ ((k ≢ a) × (rest ≡ true)))
    (λ is on. inl (is, on)) (λ ne on. inr (ne, on))

yes_no : (b : Bool) → b ≡ true → b ≡ false → ⊥
yes_no b on off = absurd (cc)

not_true : (b : Bool) → (b ≡ true → ⊥) → b ≡ false
not_true false off = refl
not_true true off = absurd (off refl)

changed_parts : (n i : ℕ) (d : Deed) → WritesNode d → (k : ℕ) → changes n (by i d) k ≡ true
    → (k ≡ 0) ⊎ (k ≡ 4)
changed_parts n i d into k on = elim (by_number k 0 _ _ on) [
  | inl a ↦ inl a.0
  | inr a ↦ elim (by_number k 1 (touches_flight d) _ a.1) [
    | inl b ↦ absurd (yes_no _ b.1 into.flight)
    | inr b ↦ elim (by_number k 2 (touches_buckets d) _ b.1) [
      | inl c ↦ absurd (yes_no _ c.1 into.buckets)
      | inr c ↦ elim (by_number k 3 (touches_journal d) _ c.1) [
        | inl e ↦ absurd (yes_no _ e.1 into.journal)
        | inr e ↦ elim (by_number k 4 (is_call_of Cache (call_by d)) _ e.1) [
          | inl f ↦ inr f.0
          | inr f ↦ elim (by_number k 5 (is_call_of Backing (call_by d)) _ f.1) [
            | inl g ↦ absurd (yes_no _ g.1 into.backing)
            | inr g ↦ absurd (yes_no _ g.1 (into.leaves (n - 6) (k - 6)))
          ]
        ]
      ]
    ]
  ]
]

-- ---- parts in hand

more : {A : Type 0} (n : ℕ) (o : Option A) (xs ys : List ℕ) (k : ℕ) → (Holds xs k → Holds ys k)
    → Holds (with_part n o xs) k → Holds (with_part n o ys) k
more n None xs ys k f holds = f holds
more n (Some a) xs ys k f (inl is) = inl is
more n (Some a) xs ys k f (inr holds) = inr (f holds)

more_leaves : (o : Option LeafHand) (xs ys : List ℕ) (k : ℕ) → (Holds xs k → Holds ys k)
    → Holds (with_leaves o xs) k → Holds (with_leaves o ys) k
more_leaves None xs ys k f holds = f holds
more_leaves (Some l) xs ys k f (inl is) = inl is
more_leaves (Some l) xs ys k f (inr holds) = inr (f holds)

over : {A : Type 0} (n : ℕ) (o : Option A) (ks : List ℕ) (k : ℕ) → Holds ks k
    → Holds (with_part n o ks) k
over n None ks k holds = holds
over n (Some a) ks k holds = inr holds

either_part : {A : Type 0} (n : ℕ) (o : Option A) (ks : List ℕ) (k : ℕ) → Holds (with_part n o ks) k
    → (k ≡ n) ⊎ Holds ks k
either_part n None ks k holds = inr holds
either_part n (Some a) ks k (inl is) = inl is
either_part n (Some a) ks k (inr holds) = inr holds

either_leaves : (o : Option LeafHand) (ks : List ℕ) (k : ℕ) → IfSome o (λ l. 6 ≤ l.part)
    → Holds (with_leaves o ks) k → (6 ≤ k) ⊎ Holds ks k
either_leaves None ks k high holds = inr holds
either_leaves (Some l) ks k high (inl is) = inl (omega (arith, is, high))
either_leaves (Some l) ks k high (inr holds) = inr holds

far : (k n : ℕ) → k ≡ n → n ≢ 0 → n ≢ 4 → (k ≢ 0) × (k ≢ 4)
far k n is first fourth = ((λ e. first (sym is ∙ e)), (λ e. fourth (sym is ∙ e)))

module _ {C B : Type 0} (h : Hand C B) where
  -- what is in hand beside the tree and the cache device
  abbrev rest : Hand C B
  rest = record h { spine = None; cache = None }

  rest_held : (c : C) (k : ℕ) → Holds (numbers rest) k
      → Holds (numbers (record h { cache = Some c })) k
  rest_held c k = more 5 h.backing _ _ k (λ holds. inr (more 3 h.journal _ _ k
      (more 2 h.buckets _ _ k (more 1 h.flight _ _ k (more_leaves h.leaves _ _ k
      (λ none. absurd none)))) holds))

  rest_other : (k : ℕ) → IfSome h.leaves (λ l. 6 ≤ l.part) → Holds (numbers rest) k
      → (k ≢ 0) × (k ≢ 4)
  rest_other k high holds = elim (either_part 5 h.backing _ k holds) [
    | inl five ↦ far k 5 five (λ e. cc) (λ e. cc)
    | inr more ↦ elim (either_part 3 h.journal _ k more) [
      | inl three ↦ far k 3 three (λ e. cc) (λ e. cc)
      | inr more ↦ elim (either_part 2 h.buckets _ k more) [
        | inl two ↦ far k 2 two (λ e. cc) (λ e. cc)
        | inr more ↦ elim (either_part 1 h.flight _ k more) [
          | inl one ↦ far k 1 one (λ e. cc) (λ e. cc)
          | inr more ↦ elim (either_leaves h.leaves [] k high more) [
            | inl six ↦ ((λ e. omega (arith, six, e)), (λ e. omega (arith, six, e)))
            | inr out ↦ absurd out
          ]
        ]
      ]
    ]
  ]

  same_numbers : (p q : SpinePart) (old new : C) → h.spine ≡ Some p
      → numbers (record h { cache = Some old })
      ≡ numbers (record h { spine = Some q; cache = Some new })
  same_numbers p q old new is = ap (λ (o : Option SpinePart). with_part 5 h.backing
      (4 ∷ with_part 3 h.journal (with_part 2 h.buckets (with_part 1 h.flight
      (with_leaves h.leaves (with_part 0 o [])))))) is

high_leaves : (o : Option LeafHand) (P : LeafHand → Type 0)
    → IfSome o (λ l. (6 ≤ l.part) × P l) → IfSome o (λ l. 6 ≤ l.part)
high_leaves None P all = tt
high_leaves (Some l) P all = all.0

module _ {C B : Type 0} (cache_facts : C → DiskFacts) (backing_facts : B → DiskFacts)
    (p : PartsView (CorePart C B)) (v : View cache_facts backing_facts) (h : Hand C B) (old : C)
    (works : Works cache_facts backing_facts p v (record h { cache = Some old })) (sp : SpinePart)
    (is : h.spine ≡ Some sp) where
  pub spine_there : IsSpinePart sp (world cache_facts backing_facts v)
  spine_there = subst (λ (o : Option SpinePart). IfSome o
      (λ x. IsSpinePart x (world cache_facts backing_facts v))) is works.stand.spine

  pub has_cache : Holds v.parts 4
  has_cache = subst (λ ks. Holds ks 4) (sym works.parts) (over 5 h.backing _ 4 (inl refl))

  spine_of : (o : Option SpinePart) → o ≡ Some sp → Holds (with_part 0 o []) 0
  spine_of None e = absurd (cc)
  spine_of (Some x) e = inl refl

  over_leaves : (o : Option LeafHand) (ks : List ℕ) (k : ℕ) → Holds ks k
      → Holds (with_leaves o ks) k
  over_leaves None ks k holds = holds
  over_leaves (Some l) ks k holds = inr holds

  pub has_spine : Holds v.parts 0
  has_spine = subst (λ ks. Holds ks 0) (sym works.parts)
      (over 5 h.backing _ 0 (inr (over 3 h.journal _ 0 (over 2 h.buckets _ 0
      (over 1 h.flight _ 0 (over_leaves h.leaves _ 0 (spine_of h.spine is)))))))

  module _ (n : ℕ) (d : Deed) (into : WritesNode d) where
    pub holds_changed : (k : ℕ) → changes n (by v.first d) k ≡ true → Holds v.parts k
    holds_changed k on = elim (changed_parts n v.first d into k on) [
      | inl none ↦ subst (Holds v.parts) (sym none) has_spine
      | inr four ↦ subst (Holds v.parts) (sym four) has_cache
    ]

    others_off : (k : ℕ) → k ≢ 0 → k ≢ 4 → changes n (by v.first d) k ≡ false
    others_off k first fourth = not_true (changes n (by v.first d) k)
        (λ on. elim (changed_parts n v.first d into k on) [
          | inl at ↦ first at
          | inr at ↦ fourth at
        ])

    -- The parts that it changed stand anew, and the others as before.
    pub works_behind : (w : View cache_facts backing_facts) (new : C) (next : SpinePart)
        → IsCoreSeat cache_facts backing_facts w
        → Kept (m cache_facts backing_facts) v w (changes n (by v.first d))
        → IsSpinePart next (world cache_facts backing_facts w)
        → IsCache {C = C} {B = B} cache_facts backing_facts new (world cache_facts backing_facts w)
        → Works cache_facts backing_facts p w (record h { spine = Some next; cache = Some new })
    works_behind w new next seat kept tree device = record {
      run = kept.same.run ∙ works.run;
      seat = seat;
      parts = kept.parts ∙ works.parts ∙ same_numbers h sp next old new is;
      stand = record {
        spine = tree;
        leaves = others.leaves;
        flight = others.flight;
        buckets = others.buckets;
        journal = others.journal;
        cache = device;
        backing = others.backing;
      };
    }
      where
        before : StandIn cache_facts backing_facts (rest h) (world cache_facts backing_facts v)
        before = record {
          spine = tt;
          leaves = works.stand.leaves;
          flight = works.stand.flight;
          buckets = works.stand.buckets;
          journal = works.stand.journal;
          cache = tt;
          backing = works.stand.backing;
        }

        others : StandIn cache_facts backing_facts (rest h) (world cache_facts backing_facts w)
        others = stand_kept cache_facts backing_facts v w (rest h) (changes n (by v.first d)) kept
            (λ k holds. subst (λ ks. Holds ks k) (sym works.parts) (rest_held h old k holds))
            (λ k holds. let apart = rest_other h k
            (high_leaves h.leaves (λ l. AreLeaves (l.part - 6) l.cache
            (world cache_facts backing_facts v)) works.stand.leaves) holds in
            others_off k apart.0 apart.1) before
