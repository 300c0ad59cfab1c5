-- Buckets and journal in hand, as a step takes both and puts both back.
use Rattle.std.proofs.Common.{◌≡◌, ◌≢◌, ◌⊎◌, inl, inr, ℕ, ◌-◌, ◌≤◌, ◌==◌, ◌||◌, false, List, [], Option, None, Some, refl, sym, ap, ◌∙◌, subst, arith}
use Rattle.std.specs.Prelude.{Err, IfOk, IfSome, Ok, OnOk, Result}
use Rattle.bc_alloc.proofs.Times.{by_test}
use Rattle.bc_chain.proofs.of_bc_hand.Knowing.{View, m}
use Rattle.bc_chain.proofs.of_bc_hand.Lending.{stand_kept}
use Rattle.bc_chain.specs.bc_hand.Seats.{IsCoreSeat, StandIn, Works, numbers, with_leaves, with_part, world}
use Rattle.bc_chain.specs.bc_hand.declared.hand.Hand.{Hand}
use Rattle.bc_chain.specs.bc_hand.declared.hand.LeafHand.{LeafHand}
use Rattle.bc_chain.specs.bc_machine.World.{AreBuckets, AreLeaves, IsJournal}
use Rattle.bc_chain.specs.bc_machine.declared.part.BucketsPart.{BucketsPart}
use Rattle.bc_chain.specs.bc_machine.declared.part.CorePart.{CorePart}
use Rattle.bc_disk.specs.Disk.{DiskFacts}
use Rattle.bc_journal.specs.Journal.{Journal}
use Rattle.bc_parts.specs.Seat.{Holds, PartsView}
use Rattle.bc_seats.specs.Seats.{Kept}

pub same_some : {A : Type 0} (o : Option A) (a b : A) → o ≡ Some a → o ≡ Some b → a ≡ b
same_some o a b is at = let both : Some a ≡ Some b = sym is ∙ at in cc

pub three_ok : {A E : Type 0} {P R S : A → Type 0} {Q : Type 0} (x : Result A E)
    → ((a : A) → P a → Q → R a → S a) → IfOk x P → OnOk x Q → IfOk x R → IfOk x S
three_ok (Ok a) f p q r = f a p q r
three_ok (Err e) f p q r = tt

-- ---- numbers of parts

behind_part : {A : Type 0} (n : ℕ) (o : Option A) (ks : List ℕ) (k : ℕ) → Holds ks k
    → Holds (with_part n o ks) k
behind_part n None ks k h = h
behind_part n (Some a) ks k h = inr h

here_part : {A : Type 0} (n : ℕ) (o : Option A) (a : A) (ks : List ℕ) → o ≡ Some a
    → Holds (with_part n o ks) n
here_part n None a ks is = absurd (cc)
here_part n (Some b) a ks is = inl refl

in_part : {A : Type 0} (n : ℕ) (o : Option A) (ks : List ℕ) (k : ℕ) → Holds (with_part n o ks) k
    → (k ≡ n) ⊎ Holds ks k
in_part n None ks k h = inr h
in_part n (Some a) ks k (inl is) = inl is
in_part n (Some a) ks k (inr h) = inr h

in_leaves : (o : Option LeafHand) (ks : List ℕ) (k : ℕ) → Holds (with_leaves o ks) k
    → ((l : LeafHand) × (o ≡ Some l) × (k ≡ l.part)) ⊎ Holds ks k
in_leaves None ks k h = inr h
in_leaves (Some l) ks k (inl is) = inl (l, refl, is)
in_leaves (Some l) ks k (inr h) = inr h

more_parts : {A : Type 0} (n : ℕ) (o : Option A) (xs ys : List ℕ) (k : ℕ)
    → (Holds xs k → Holds ys k) → Holds (with_part n o xs) k → Holds (with_part n o ys) k
more_parts n None xs ys k f h = f h
more_parts n (Some a) xs ys k f (inl is) = inl is
more_parts n (Some a) xs ys k f (inr h) = inr (f h)

-- neither the buckets nor the journal
neither : (k a : ℕ) → k ≡ a → a ≢ 2 → a ≢ 3 → ((k == 2) || (k == 3)) ≡ false
neither k a is two three = by_test k 2 (λ b. (b || (k == 3)) ≡ false)
    (λ here. absurd (two (sym is ∙ here)))
    (λ no. by_test k 3 (λ b. b ≡ false) (λ here. absurd (three (sym is ∙ here))) (λ no. refl))

pub holds_three : {C B : Type 0} (h : Hand C B) (b : BucketsPart) (j : Journal) (c : C)
    → h.buckets ≡ Some b → h.journal ≡ Some j → h.cache ≡ Some c
    → Holds (numbers h) 2 × Holds (numbers h) 3 × Holds (numbers h) 4
holds_three h b j c buckets journal cache = (
  behind_part 5 h.backing _ 2 (behind_part 4 h.cache _ 2 (behind_part 3 h.journal _ 2
      (here_part 2 h.buckets b _ buckets))),
  behind_part 5 h.backing _ 3 (behind_part 4 h.cache _ 3 (here_part 3 h.journal j _ journal)),
  behind_part 5 h.backing _ 4 (here_part 4 h.cache c _ cache),
)

module _ {C B : Type 0} (cache_facts : C → DiskFacts) (backing_facts : B → DiskFacts)
    (p : PartsView (CorePart C B)) (v w : View cache_facts backing_facts) (h : Hand C B)
    (b new : BucketsPart) (j next : Journal) (are_buckets : h.buckets ≡ Some b)
    (is_journal : h.journal ≡ Some j) (works : Works cache_facts backing_facts p v h)
    (seat : IsCoreSeat cache_facts backing_facts w)
    (kept : Kept (m cache_facts backing_facts) v w (λ k. (k == 2) || (k == 3)))
    (buckets : AreBuckets new (world cache_facts backing_facts w))
    (journal : IsJournal next (world cache_facts backing_facts w)) where
  abbrev others : Hand C B
  others = record h { buckets = None; journal = None }

  others_held : (k : ℕ) → Holds (numbers others) k → Holds (numbers h) k
  others_held k = more_parts 5 h.backing _ _ k (more_parts 4 h.cache _ _ k (λ holds.
      behind_part 3 h.journal _ k (behind_part 2 h.buckets _ k holds)))

  others_kept : (k : ℕ) → Holds (numbers others) k → ((k == 2) || (k == 3)) ≡ false
  others_kept k holds = elim (in_part 5 h.backing _ k holds) [
    | inl five ↦ neither k 5 five (λ is. absurd (cc)) (λ is. absurd (cc))
    | inr more ↦ elim (in_part 4 h.cache _ k more) [
      | inl four ↦ neither k 4 four (λ is. absurd (cc)) (λ is. absurd (cc))
      | inr more ↦ elim (in_part 1 h.flight _ k more) [
        | inl one ↦ neither k 1 one (λ is. absurd (cc)) (λ is. absurd (cc))
        | inr more ↦ elim (in_leaves h.leaves _ k more) [
          | inl at ↦ leaf at.0 at.1 at.2
          | inr more ↦ elim (in_part 0 h.spine [] k more) [
            | inl none ↦ neither k 0 none (λ is. absurd (cc)) (λ is. absurd (cc))
            | inr none ↦ absurd none
          ]
        ]
      ]
    ]
  ]
    where
      leaf : (l : LeafHand) → h.leaves ≡ Some l → k ≡ l.part → ((k == 2) || (k == 3)) ≡ false
      leaf l is at =
          let low = (subst (λ (o : Option LeafHand). IfSome o (λ l. (6 ≤ l.part)
          × AreLeaves (l.part - 6) l.cache (world cache_facts backing_facts v))) is
          works.stand.leaves).0 in
          neither k l.part at (λ is. omega (arith, low, is)) (λ is. omega (arith, low, is))

  others_before : StandIn cache_facts backing_facts others (world cache_facts backing_facts v)
  others_before = record {
    spine = works.stand.spine;
    leaves = works.stand.leaves;
    flight = works.stand.flight;
    buckets = tt;
    journal = tt;
    cache = works.stand.cache;
    backing = works.stand.backing;
  }

  pub works_both : Works cache_facts backing_facts p w
      (record h { buckets = Some new; journal = Some next })
  works_both =
      let stand = stand_kept cache_facts backing_facts v w others (λ k. (k == 2) || (k == 3)) kept
      (λ k holds. subst (λ ks. Holds ks k) (sym works.parts) (others_held k holds)) others_kept
      others_before in record {
        run = kept.same.run ∙ works.run;
        seat = seat;
        parts = kept.parts ∙ works.parts
            ∙ ap (λ (o : Option Journal). with_part 5 h.backing (with_part 4 h.cache (with_part 3 o
            (with_part 2 h.buckets (with_part 1 h.flight (with_leaves h.leaves
            (with_part 0 h.spine []))))))) is_journal
            ∙ ap (λ (o : Option BucketsPart). with_part 5 h.backing (with_part 4 h.cache
            (with_part 3 (Some j) (with_part 2 o (with_part 1 h.flight (with_leaves h.leaves
            (with_part 0 h.spine []))))))) are_buckets;
        stand = record {
          spine = stand.spine;
          leaves = stand.leaves;
          flight = stand.flight;
          buckets = buckets;
          journal = journal;
          cache = stand.cache;
          backing = stand.backing;
        };
      }
