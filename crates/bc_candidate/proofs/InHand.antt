-- Claims and buckets in hand, as a deed that changes both leaves them.
use Rattle.std.proofs.Common.{arith, ◌≡◌, ◌≢◌, inl, inr, ℕ, Bool, true, false, List, [], Option, Some, None, refl, sym, ap, ◌∙◌, subst, if◌then◌else◌}
use Rattle.std.specs.Prelude.{◌==◌, ◌||◌, IfSome}
use Rattle.bc_disk.specs.Disk.{DiskFacts}
use Rattle.bc_flight.specs.Flight.{InFlight}
use Rattle.bc_parts.specs.Seat.{Holds, PartsView}
use Rattle.bc_place.proofs.of_bc_hand.Knowing.{View, m}
use Rattle.bc_place.proofs.of_bc_hand.Lending.{leaves_high, not_behind, not_behind_leaves, stand_kept}
use Rattle.bc_place.specs.bc_hand.Seats.{IsCoreSeat, StandIn, Works, numbers, with_leaves, with_part, world}
use Rattle.bc_place.specs.bc_hand.declared.hand.Hand.{Hand}
use Rattle.bc_place.specs.bc_machine.Frame.{by_test}
use Rattle.bc_place.specs.bc_machine.World.{AreBuckets, IsFlight, World}
use Rattle.bc_place.specs.bc_machine.declared.part.BucketsPart.{BucketsPart}
use Rattle.bc_place.specs.bc_machine.declared.part.CorePart.{CorePart}
use Rattle.bc_seats.specs.Seats.{Kept}

-- the parts that such a deed changes
pub both_changed : (k : ℕ) → (if k == 0 then false else (if k == 1 then true
    else (if k == 2 then true else (if k == 3 then false else (if k == 4 then false
    else (if k == 5 then false else false)))))) ≡ (k == 1 || k == 2)
both_changed k = by_test k 0 (λ b. (if b then false else rest) ≡ (k == 1 || k == 2))
    (λ is. subst (λ n. false ≡ (n == 1 || n == 2)) (sym is) refl) (λ ne. one (k == 1) (k == 2))
  where
    rest : Bool
    rest = if k == 1 then true else (if k == 2 then true else (if k == 3 then false
        else (if k == 4 then false else (if k == 5 then false else false))))

    off : (a b c : Bool) → (if a then false else (if b then false else
        (if c then false else false)))
        ≡ false
    off true b c = refl
    off false true c = refl
    off false false true = refl
    off false false false = refl

    one : (a b : Bool) → (if a then true else (if b then true else (if k == 3 then false
        else (if k == 4 then false else (if k == 5 then false else false))))) ≡ (a || b)
    one true b = refl
    one false true = refl
    one false false = off (k == 3) (k == 4) (k == 5)

pub other_two : (k : ℕ) → k ≢ 1 → k ≢ 2 → (k == 1 || k == 2) ≡ false
other_two k a b = by_test k 1 (λ t. (t || k == 2) ≡ false) (λ is. absurd (a is))
    (λ no. by_test k 2 (λ t. t ≡ false) (λ is. absurd (b is)) (λ no. refl))

-- who holds the two, holds each that it changes
pub holds_both : (parts : List ℕ) (changed : ℕ → Bool)
    → ((k : ℕ) → changed k ≡ (k == 1 || k == 2)) → Holds parts 1 → Holds parts 2 → (k : ℕ)
    → changed k ≡ true → Holds parts k
holds_both parts changed same one two k on = by_test k 1
    (λ t. (t || k == 2) ≡ true → Holds parts k)
    (λ is _. subst (Holds parts) (sym is) one)
    (λ no. by_test k 2 (λ t. t ≡ true → Holds parts k) (λ is _. subst (Holds parts) (sym is) two)
    (λ no off. absurd (cc))) (sym (same k) ∙ on)

more : {A : Type 0} (n : ℕ) (o : Option A) (xs ys : List ℕ) (k : ℕ) → (Holds xs k → Holds ys k)
    → Holds (with_part n o xs) k → Holds (with_part n o ys) k
more n None xs ys k f h = f h
more n (Some a) xs ys k f (inl is) = inl is
more n (Some a) xs ys k f (inr h) = inr (f h)

module _ {C B : Type 0} where
  abbrev with_both : Hand C B → Option InFlight → Option BucketsPart → Hand C B
  with_both h f b = record h { flight = f; buckets = b }

  -- the same parts are in hand
  both_in_hand : (h : Hand C B) (f g : InFlight) (b d : BucketsPart) → h.flight ≡ Some f
      → h.buckets ≡ Some b → numbers h ≡ numbers (with_both h (Some g) (Some d))
  both_in_hand h f g b d is_f is_b =
      ap (λ o. numbers (record h { flight = o })) is_f
      ∙ ap (λ o. numbers (record h { flight = Some f; buckets = o })) is_b

  fewer : (h : Hand C B) (g : InFlight) (d : BucketsPart) (k : ℕ)
      → Holds (numbers (with_both h None None)) k
      → Holds (numbers (with_both h (Some g) (Some d))) k
  fewer h g d k = more 5 h.backing _ _ k (more 4 h.cache _ _ k (more 3 h.journal _ _ k
      (λ holds. inr (inr holds))))

module _ {C B : Type 0} (cache_facts : C → DiskFacts) (backing_facts : B → DiskFacts) where
  without_both : (h : Hand C B) (x : World) → StandIn cache_facts backing_facts h x
      → StandIn cache_facts backing_facts (with_both h None None) x
  without_both h x stand = record {
    spine = stand.spine;
    leaves = stand.leaves;
    flight = tt;
    buckets = tt;
    journal = stand.journal;
    cache = stand.cache;
    backing = stand.backing;
  }

  no_flight : (h : Hand C B) (x : World) → StandIn cache_facts backing_facts (with_both h None None)
      x
      → Holds (numbers (with_both h None None)) 1 → ⊥
  no_flight h x stand = not_behind 5 1 h.backing _ (λ is. cc) (not_behind 4 1 h.cache _ (λ is. cc)
      (not_behind 3 1 h.journal _ (λ is. cc)
      (not_behind_leaves 1 h.leaves _
      (leaves_high cache_facts backing_facts (with_both h None None) x stand) (omega arith)
      (not_behind 0 1 h.spine [] (λ is. cc) (λ n. n)))))

  no_buckets : (h : Hand C B) (x : World) → StandIn cache_facts backing_facts
      (with_both h None None) x
      → Holds (numbers (with_both h None None)) 2 → ⊥
  no_buckets h x stand = not_behind 5 2 h.backing _ (λ is. cc) (not_behind 4 2 h.cache _ (λ is. cc)
      (not_behind 3 2 h.journal _ (λ is. cc)
      (not_behind_leaves 2 h.leaves _
      (leaves_high cache_facts backing_facts (with_both h None None) x stand) (omega arith)
      (not_behind 0 2 h.spine [] (λ is. cc) (λ n. n)))))

  pub works_both : (p : PartsView (CorePart C B)) (v w : View cache_facts backing_facts)
      (h : Hand C B) (f g : InFlight) (b d : BucketsPart) → h.flight ≡ Some f → h.buckets ≡ Some b
      → Works cache_facts backing_facts p v h → IsCoreSeat cache_facts backing_facts w
      → Kept (m cache_facts backing_facts) v w (λ k. k == 1 || k == 2)
      → IsFlight g (world cache_facts backing_facts w) → AreBuckets d
      (world cache_facts backing_facts w)
      → Works cache_facts backing_facts p w (with_both h (Some g) (Some d))
  works_both p v w h f g b d is_f is_b works seat kept on_f on_b =
      let same = both_in_hand h f g b d is_f is_b in
      let rest = without_both h (world cache_facts backing_facts v) works.stand in
      let stand = stand_kept cache_facts backing_facts v w (with_both h None None)
      (λ k. k == 1 || k == 2) kept
      (λ k holds. subst (λ ks. Holds ks k) (sym (works.parts ∙ same)) (fewer h g d k holds))
      (λ k holds. other_two k
      (λ is. no_flight h (world cache_facts backing_facts v) rest
      (subst (λ n. Holds (numbers (with_both h None None)) n) is holds))
      (λ is. no_buckets h (world cache_facts backing_facts v) rest
      (subst (λ n. Holds (numbers (with_both h None None)) n) is holds))) rest in
      record {
        run = kept.same.run ∙ works.run;
        seat = seat;
        parts = kept.parts ∙ works.parts ∙ same;
        stand = record {
          spine = stand.spine;
          leaves = stand.leaves;
          flight = on_f;
          buckets = on_b;
          journal = stand.journal;
          cache = stand.cache;
          backing = stand.backing;
        };
      }

-- ---- what is in hand, stands

pub one_there : {A : Type 0} (o : Option A) (a b : A) → o ≡ Some a → o ≡ Some b → a ≡ b
one_there o a b is at = let both : Some a ≡ Some b = sym is ∙ at in cc

some_of : {A : Type 0} (P : A → Type 0) (o : Option A) (a : A) → o ≡ Some a → IfSome o P → P a
some_of P (Some b) a is h = let e : b ≡ a = cc in subst P e h
some_of P None a is h = absurd (cc)

here : {A : Type 0} (n : ℕ) (o : Option A) (a : A) (ks : List ℕ) → o ≡ Some a
    → Holds (with_part n o ks) n
here n None a ks is = absurd (cc)
here n (Some b) a ks is = inl refl

behind : {A : Type 0} (n : ℕ) (o : Option A) (ks : List ℕ) (k : ℕ) → Holds ks k
    → Holds (with_part n o ks) k
behind n None ks k h = h
behind n (Some a) ks k h = inr h

module _ {C B : Type 0} (cache_facts : C → DiskFacts) (backing_facts : B → DiskFacts)
    (p : PartsView (CorePart C B)) (v : View cache_facts backing_facts) (h : Hand C B)
    (works : Works cache_facts backing_facts p v h) where
  pub flight_in : (f : InFlight) → h.flight ≡ Some f
      → Holds v.parts 1 × IsFlight f (world cache_facts backing_facts v)
  flight_in f is = (
    subst (λ ks. Holds ks 1) (sym works.parts) (behind 5 h.backing _ 1 (behind 4 h.cache _ 1
        (behind 3 h.journal _ 1 (behind 2 h.buckets _ 1
        (here 1 h.flight f (with_leaves h.leaves (with_part 0 h.spine [])) is))))),
    some_of (λ g. IsFlight g (world cache_facts backing_facts v)) h.flight f is works.stand.flight,
  )

  pub buckets_in : (b : BucketsPart) → h.buckets ≡ Some b
      → Holds v.parts 2 × AreBuckets b (world cache_facts backing_facts v)
  buckets_in b is = (
    subst (λ ks. Holds ks 2) (sym works.parts) (behind 5 h.backing _ 2 (behind 4 h.cache _ 2
        (behind 3 h.journal _ 2 (here 2 h.buckets b
        (with_part 1 h.flight (with_leaves h.leaves (with_part 0 h.spine []))) is)))),
    some_of (λ g. AreBuckets g (world cache_facts backing_facts v)) h.buckets b is
        works.stand.buckets,
  )
