-- Parts in hand, taken, lent and given back.
use Rattle.std.proofs.Common.{◌≡◌, ◌≢◌, inl, inr, ℕ, ◌<◌, ◌≤◌, Bool, false, List, [], ◌∷◌, Option, Some, None, refl, sym, ap, ◌∙◌, subst, arith}
use Rattle.std.specs.Prelude.{IfSome, ◌==◌, not, if◌then◌else◌}
use Rattle.bc_disk.specs.Disk.{DiskFacts}
use Rattle.bc_flight.specs.Flight.{InFlight}
use Rattle.bc_parts.specs.Seat.{PartsView, Holds, without}
use Rattle.bc_seats.specs.Seats.{IsSeat, Since, Waited, Kept}
use Rattle.bc_seats.proofs.Knowing.{held}
use Rattle.bc_machine.specs.declared.part.BackingPart.{BackingPart}
use Rattle.bc_machine.specs.declared.part.CorePart.{CorePart}
use Rattle.bc_machine.specs.declared.part.CorePart.TheVariants as part
use Rattle.bc_machine.specs.World.{World, StandsAs, IsFlight, IsBacking}
use Rattle.bc_machine.specs.Frame.{by_test}
use Rattle.bc_hand.specs.declared.hand.Hand.{Hand}
use Rattle.bc_hand.specs.declared.hand.LeafHand.{LeafHand}
use Rattle.bc_hand.specs.Seats.{world, IsCoreSeat, with_part, with_leaves, numbers, HasNoneBehindFlight, StandIn, Works}
use Rattle.bc_hand.proofs.Knowing.{View, m, framed, seat_waited}

pub if_some : {A : Type 0} {P Q : A → Type 0} (o : Option A) → ((a : A) → o ≡ Some a → P a → Q a)
    → IfSome o P → IfSome o Q
if_some None f h = tt
if_some (Some a) f h = f a refl h

pub if_none : {A : Type 0} (P : A → Type 0) (o : Option A) → o ≡ None → IfSome o P
if_none P None is = tt
if_none P (Some a) is = absurd (cc)

-- ---- numbers

behind : {A : Type 0} (n : ℕ) (o : Option A) (ks : List ℕ) (k : ℕ) → Holds ks k
    → Holds (with_part n o ks) k
behind n None ks k h = h
behind n (Some a) ks k h = inr h

first : {A : Type 0} (n : ℕ) (o : Option A) (a : A) (ks : List ℕ) → o ≡ Some a
    → Holds (with_part n o ks) n
first n None a ks is = absurd (cc)
first n (Some b) a ks is = inl refl

behind_leaves : (o : Option LeafHand) (ks : List ℕ) (k : ℕ) → Holds ks k → Holds (with_leaves o ks) k
behind_leaves None ks k h = h
behind_leaves (Some l) ks k h = inr h

first_leaves : (o : Option LeafHand) (l : LeafHand) (ks : List ℕ) → o ≡ Some l
    → Holds (with_leaves o ks) l.part
first_leaves None l ks is = absurd (cc)
first_leaves (Some x) l ks is = let e : x ≡ l = cc in inl (ap (λ (y : LeafHand). y.part) (sym e))

pub not_behind : {A : Type 0} (n k : ℕ) (o : Option A) (ks : List ℕ) → k ≢ n → (Holds ks k → ⊥)
    → Holds (with_part n o ks) k → ⊥
not_behind n k None ks ne off h = off h
not_behind n k (Some a) ks ne off (inl is) = ne is
not_behind n k (Some a) ks ne off (inr h) = off h

pub not_behind_leaves : (k : ℕ) (o : Option LeafHand) (ks : List ℕ) → IfSome o (λ l. 6 ≤ l.part) → k < 6
    → (Holds ks k → ⊥) → Holds (with_leaves o ks) k → ⊥
not_behind_leaves k None ks low few off h = off h
not_behind_leaves k (Some l) ks low few off (inl is) = absurd (omega arith)
not_behind_leaves k (Some l) ks low few off (inr h) = off h

-- what is left out is another number
pub passes : {A : Type 0} (n k : ℕ) (o : Option A) (ks : List ℕ) → (n == k) ≡ false
    → without k (with_part n o ks) ≡ with_part n o (without k ks)
passes n k None ks off = refl
passes n k (Some a) ks off = ap (λ b. if not b then n ∷ without k ks else without k ks) off

pub passes_leaves : (k : ℕ) (o : Option LeafHand) (ks : List ℕ) → IfSome o (λ l. 6 ≤ l.part) → k < 6
    → without k (with_leaves o ks) ≡ with_leaves o (without k ks)
passes_leaves k None ks low few = refl
passes_leaves k (Some l) ks low few =
    ap (λ b. if not b then l.part ∷ without k ks else without k ks)
    (by_test l.part k (λ b. b ≡ false) (λ is. absurd (omega arith)) (λ ne. refl))

-- where no later part is in hand
above : {C B : Type 0} (h : Hand C B) (ks : List ℕ) → HasNoneBehindFlight h
    → with_part 5 h.backing (with_part 4 h.cache (with_part 3 h.journal (with_part 2 h.buckets ks))) ≡ ks
above h ks none = ap (λ o. with_part 5 o (with_part 4 h.cache (with_part 3 h.journal (with_part 2 h.buckets ks)))) none.backing
    ∙ ap (λ o. with_part 4 o (with_part 3 h.journal (with_part 2 h.buckets ks))) none.cache
    ∙ ap (λ o. with_part 3 o (with_part 2 h.buckets ks)) none.journal
    ∙ ap (λ o. with_part 2 o ks) none.buckets

-- ---- what is in hand

module _ {C B : Type 0} (cache_facts : C → DiskFacts) (backing_facts : B → DiskFacts) where
  abbrev IsIn : ℕ → CorePart C B → World → Type 0
  IsIn k p x = StandsAs cache_facts backing_facts k p x

  -- parts in hand that go on to stand, go on to stand in hand
  pub map_stand : (h : Hand C B) (x y : World) → ((k : ℕ) (p : CorePart C B) → Holds (numbers h) k → IsIn k p x → IsIn k p y)
      → StandIn cache_facts backing_facts h x → StandIn cache_facts backing_facts h y
  map_stand h x y f stand = record {
    spine = if_some h.spine (λ sp is on. (f 0 (part.Spine sp)
        (behind 5 h.backing _ 0 (behind 4 h.cache _ 0 (behind 3 h.journal _ 0 (behind 2 h.buckets _ 0
        (behind 1 h.flight _ 0 (behind_leaves h.leaves _ 0 (first 0 h.spine sp [] is)))))))
        (refl, on)).1) stand.spine;
    leaves = if_some h.leaves (λ l is on. f l.part (part.Leaves l.cache)
        (behind 5 h.backing _ l.part (behind 4 h.cache _ l.part (behind 3 h.journal _ l.part
        (behind 2 h.buckets _ l.part (behind 1 h.flight _ l.part
        (first_leaves h.leaves l (with_part 0 h.spine []) is)))))) on) stand.leaves;
    flight = if_some h.flight (λ a is on. (f 1 (part.Flight a)
        (behind 5 h.backing _ 1 (behind 4 h.cache _ 1 (behind 3 h.journal _ 1 (behind 2 h.buckets _ 1
        (first 1 h.flight a (with_leaves h.leaves (with_part 0 h.spine [])) is)))))
        (refl, on)).1) stand.flight;
    buckets = if_some h.buckets (λ a is on. (f 2 (part.Buckets a)
        (behind 5 h.backing _ 2 (behind 4 h.cache _ 2 (behind 3 h.journal _ 2
        (first 2 h.buckets a (with_part 1 h.flight (with_leaves h.leaves (with_part 0 h.spine []))) is))))
        (refl, on)).1) stand.buckets;
    journal = if_some h.journal (λ a is on. (f 3 (part.Journal a)
        (behind 5 h.backing _ 3 (behind 4 h.cache _ 3
        (first 3 h.journal a (with_part 2 h.buckets (with_part 1 h.flight (with_leaves h.leaves (with_part 0 h.spine [])))) is)))
        (refl, on)).1) stand.journal;
    cache = if_some h.cache (λ a is on. (f 4 (part.Cache a)
        (behind 5 h.backing _ 4
        (first 4 h.cache a (with_part 3 h.journal (with_part 2 h.buckets (with_part 1 h.flight (with_leaves h.leaves (with_part 0 h.spine []))))) is))
        (refl, on)).1) stand.cache;
    backing = if_some h.backing (λ a is on. (f 5 (part.Backing a)
        (first 5 h.backing a (with_part 4 h.cache (with_part 3 h.journal (with_part 2 h.buckets (with_part 1 h.flight (with_leaves h.leaves (with_part 0 h.spine [])))))) is)
        (refl, on)).1) stand.backing;
  }

  -- what is in hand goes on to stand while others act
  pub still_stand : (v : View cache_facts backing_facts) (x : World) (h : Hand C B)
      → IsCoreSeat cache_facts backing_facts v → v.parts ≡ numbers h
      → Since (m cache_facts backing_facts) v x
      → StandIn cache_facts backing_facts h (world cache_facts backing_facts v)
      → StandIn cache_facts backing_facts h x
  still_stand v x h seat parts since stand = map_stand h (world cache_facts backing_facts v) x
      (λ k p holds on. held (m cache_facts backing_facts) (framed cache_facts backing_facts) v x k p
      seat.seat since (subst (λ ks. Holds ks k) (sym parts) holds) on) stand

  -- behind a commit, but for what it changed
  pub stand_kept : (v w : View cache_facts backing_facts) (h : Hand C B) (changed : ℕ → Bool)
      → Kept (m cache_facts backing_facts) v w changed → ((k : ℕ) → Holds (numbers h) k → Holds v.parts k)
      → ((k : ℕ) → Holds (numbers h) k → changed k ≡ false)
      → StandIn cache_facts backing_facts h (world cache_facts backing_facts v)
      → StandIn cache_facts backing_facts h (world cache_facts backing_facts w)
  stand_kept v w h changed kept still off stand = map_stand h (world cache_facts backing_facts v)
      (world cache_facts backing_facts w) (λ k p holds on. kept.rest k p (still k holds) (off k holds) on) stand

  pub works_waited : (p : PartsView (CorePart C B)) (v w : View cache_facts backing_facts) (h : Hand C B)
      → Works cache_facts backing_facts p v h → IsSeat (m cache_facts backing_facts) w
      → Waited (m cache_facts backing_facts) v w → w.parts ≡ v.parts → Works cache_facts backing_facts p w h
  works_waited p v w h works live waited parts = record {
    run = waited.same.run ∙ works.run;
    seat = seat_waited cache_facts backing_facts v w works.seat live waited;
    parts = parts ∙ works.parts;
    stand = still_stand v (world cache_facts backing_facts w) h works.seat works.parts waited.since works.stand;
  }

  -- ---- one kind more, and one less

  pub with_flight : (h : Hand C B) (f : InFlight) (x : World) → IsFlight f x
      → StandIn cache_facts backing_facts (record h { flight = None }) x
      → StandIn cache_facts backing_facts (record h { flight = Some f }) x
  with_flight h f x on stand = record {
    spine = stand.spine;
    leaves = stand.leaves;
    flight = on;
    buckets = stand.buckets;
    journal = stand.journal;
    cache = stand.cache;
    backing = stand.backing;
  }

  pub without_flight : (h : Hand C B) (f : InFlight) (x : World)
      → StandIn cache_facts backing_facts (record h { flight = Some f }) x
      → StandIn cache_facts backing_facts (record h { flight = None }) x
  without_flight h f x stand = record {
    spine = stand.spine;
    leaves = stand.leaves;
    flight = tt;
    buckets = stand.buckets;
    journal = stand.journal;
    cache = stand.cache;
    backing = stand.backing;
  }

  pub with_backing : (h : Hand C B) (b : BackingPart B) (x : World) → IsBacking {C = C} cache_facts backing_facts b x
      → StandIn cache_facts backing_facts (record h { backing = None }) x
      → StandIn cache_facts backing_facts (record h { backing = Some b }) x
  with_backing h b x on stand = record {
    spine = stand.spine;
    leaves = stand.leaves;
    flight = stand.flight;
    buckets = stand.buckets;
    journal = stand.journal;
    cache = stand.cache;
    backing = on;
  }

  pub without_backing : (h : Hand C B) (b : BackingPart B) (x : World)
      → StandIn cache_facts backing_facts (record h { backing = Some b }) x
      → StandIn cache_facts backing_facts (record h { backing = None }) x
  without_backing h b x stand = record {
    spine = stand.spine;
    leaves = stand.leaves;
    flight = stand.flight;
    buckets = stand.buckets;
    journal = stand.journal;
    cache = stand.cache;
    backing = tt;
  }

  -- the leaves in hand are a part of leaves
  pub leaves_high : (h : Hand C B) (x : World) → StandIn cache_facts backing_facts h x
      → IfSome h.leaves (λ l. 6 ≤ l.part)
  leaves_high h x stand = if_some h.leaves (λ l is on. on.0) stand.leaves

  no_flight : (h : Hand C B) (x : World) → StandIn cache_facts backing_facts (record h { flight = None }) x
      → Holds (numbers (record h { flight = None })) 1 → ⊥
  no_flight h x stand = not_behind 5 1 h.backing _ (λ is. cc) (not_behind 4 1 h.cache _ (λ is. cc)
      (not_behind 3 1 h.journal _ (λ is. cc) (not_behind 2 1 h.buckets _ (λ is. cc)
      (not_behind_leaves 1 h.leaves _ (leaves_high (record h { flight = None }) x stand) (omega arith)
      (not_behind 0 1 h.spine [] (λ is. cc) (λ n. n))))))

  no_backing : (h : Hand C B) (x : World) → StandIn cache_facts backing_facts (record h { backing = None }) x
      → Holds (numbers (record h { backing = None })) 5 → ⊥
  no_backing h x stand = not_behind 4 5 h.cache _ (λ is. cc)
      (not_behind 3 5 h.journal _ (λ is. cc) (not_behind 2 5 h.buckets _ (λ is. cc)
      (not_behind 1 5 h.flight _ (λ is. cc)
      (not_behind_leaves 5 h.leaves _ (leaves_high (record h { backing = None }) x stand) (omega arith)
      (not_behind 0 5 h.spine [] (λ is. cc) (λ n. n))))))

  -- ---- taken

  pub works_took_flight : (p : PartsView (CorePart C B)) (v w : View cache_facts backing_facts) (h : Hand C B)
      (f : InFlight) → Works cache_facts backing_facts p v h → h.flight ≡ None → HasNoneBehindFlight h
      → IsSeat (m cache_facts backing_facts) w → Waited (m cache_facts backing_facts) v w
      → w.parts ≡ 1 ∷ v.parts → IsFlight f (world cache_facts backing_facts w)
      → Works cache_facts backing_facts p w (record h { flight = Some f })
  works_took_flight p v w h f works no_flight none live waited parts value =
      let rest = with_leaves h.leaves (with_part 0 h.spine []) in
      let on = still_stand v (world cache_facts backing_facts w) h works.seat works.parts waited.since works.stand in record {
        run = waited.same.run ∙ works.run;
        seat = seat_waited cache_facts backing_facts v w works.seat live waited;
        parts = parts ∙ ap (λ ks. 1 ∷ ks) (works.parts ∙ above h (with_part 1 h.flight rest) none
            ∙ ap (λ o. with_part 1 o rest) no_flight) ∙ sym (above h (1 ∷ rest) none);
        stand = record {
          spine = on.spine;
          leaves = on.leaves;
          flight = value;
          buckets = on.buckets;
          journal = on.journal;
          cache = on.cache;
          backing = on.backing;
        };
      }

  pub works_took_backing : (p : PartsView (CorePart C B)) (v w : View cache_facts backing_facts) (h : Hand C B)
      (b : BackingPart B) → Works cache_facts backing_facts p v h → h.backing ≡ None
      → IsSeat (m cache_facts backing_facts) w
      → Waited (m cache_facts backing_facts) v w → w.parts ≡ 5 ∷ v.parts
      → IsBacking {C = C} cache_facts backing_facts b (world cache_facts backing_facts w)
      → Works cache_facts backing_facts p w (record h { backing = Some b })
  works_took_backing p v w h b works no_backing live waited parts value =
      let rest = with_part 4 h.cache (with_part 3 h.journal (with_part 2 h.buckets (with_part 1 h.flight
      (with_leaves h.leaves (with_part 0 h.spine []))))) in
      let on = still_stand v (world cache_facts backing_facts w) h works.seat works.parts waited.since works.stand in record {
        run = waited.same.run ∙ works.run;
        seat = seat_waited cache_facts backing_facts v w works.seat live waited;
        parts = parts ∙ ap (λ ks. 5 ∷ ks) works.parts ∙ ap (λ o. 5 ∷ with_part 5 o rest) no_backing;
        stand = record {
          spine = on.spine;
          leaves = on.leaves;
          flight = on.flight;
          buckets = on.buckets;
          journal = on.journal;
          cache = on.cache;
          backing = value;
        };
      }

  -- ---- given back

  left_flight : (h : Hand C B) (f : InFlight) → IfSome h.leaves (λ l. 6 ≤ l.part)
      → without 1 (numbers (record h { flight = Some f })) ≡ numbers (record h { flight = None })
  left_flight h f low =
      let rest = with_leaves h.leaves (with_part 0 h.spine []) in
      passes 5 1 h.backing _ refl
      ∙ ap (λ ks. with_part 5 h.backing ks) (passes 4 1 h.cache _ refl
      ∙ ap (λ ks. with_part 4 h.cache ks) (passes 3 1 h.journal _ refl
      ∙ ap (λ ks. with_part 3 h.journal ks) (passes 2 1 h.buckets (1 ∷ rest) refl
      ∙ ap (λ ks. with_part 2 h.buckets ks) (passes_leaves 1 h.leaves (with_part 0 h.spine []) low (omega arith)
      ∙ ap (λ ks. with_leaves h.leaves ks) (passes 0 1 h.spine [] refl)))))

  left_backing : (h : Hand C B) (b : BackingPart B) → IfSome h.leaves (λ l. 6 ≤ l.part)
      → without 5 (numbers (record h { backing = Some b })) ≡ numbers (record h { backing = None })
  left_backing h b low = passes 4 5 h.cache _ refl
      ∙ ap (λ ks. with_part 4 h.cache ks) (passes 3 5 h.journal _ refl
      ∙ ap (λ ks. with_part 3 h.journal ks) (passes 2 5 h.buckets _ refl
      ∙ ap (λ ks. with_part 2 h.buckets ks) (passes 1 5 h.flight _ refl
      ∙ ap (λ ks. with_part 1 h.flight ks) (passes_leaves 5 h.leaves (with_part 0 h.spine []) low (omega arith)
      ∙ ap (λ ks. with_leaves h.leaves ks) (passes 0 5 h.spine [] refl)))))

  pub works_gave_flight : (p : PartsView (CorePart C B)) (v w : View cache_facts backing_facts) (h : Hand C B)
      (f : InFlight) → Works cache_facts backing_facts p v (record h { flight = Some f })
      → IsSeat (m cache_facts backing_facts) w → Waited (m cache_facts backing_facts) v w
      → w.parts ≡ without 1 v.parts → Works cache_facts backing_facts p w (record h { flight = None })
  works_gave_flight p v w h f works live waited parts = record {
    run = waited.same.run ∙ works.run;
    seat = seat_waited cache_facts backing_facts v w works.seat live waited;
    parts = parts ∙ ap (without 1) works.parts
        ∙ left_flight h f (leaves_high (record h { flight = Some f }) _ works.stand);
    stand = without_flight h f (world cache_facts backing_facts w) (still_stand v (world cache_facts backing_facts w)
        (record h { flight = Some f }) works.seat works.parts waited.since works.stand);
  }

  pub works_gave_backing : (p : PartsView (CorePart C B)) (v w : View cache_facts backing_facts) (h : Hand C B)
      (b : BackingPart B) → Works cache_facts backing_facts p v (record h { backing = Some b })
      → IsSeat (m cache_facts backing_facts) w → Waited (m cache_facts backing_facts) v w
      → w.parts ≡ without 5 v.parts → Works cache_facts backing_facts p w (record h { backing = None })
  works_gave_backing p v w h b works live waited parts = record {
    run = waited.same.run ∙ works.run;
    seat = seat_waited cache_facts backing_facts v w works.seat live waited;
    parts = parts ∙ ap (without 5) works.parts
        ∙ left_backing h b (leaves_high (record h { backing = Some b }) _ works.stand);
    stand = without_backing h b (world cache_facts backing_facts w) (still_stand v (world cache_facts backing_facts w)
        (record h { backing = Some b }) works.seat works.parts waited.since works.stand);
  }

  -- ---- behind a commit

  -- the part that a deed changed stands anew, and the others as before
  pub works_flight : (p : PartsView (CorePart C B)) (v w : View cache_facts backing_facts) (h : Hand C B)
      (f g : InFlight) (changed : ℕ → Bool) → Works cache_facts backing_facts p v (record h { flight = Some f })
      → IsCoreSeat cache_facts backing_facts w → Kept (m cache_facts backing_facts) v w changed
      → ((k : ℕ) → k ≢ 1 → changed k ≡ false) → IsFlight g (world cache_facts backing_facts w)
      → Works cache_facts backing_facts p w (record h { flight = Some g })
  works_flight p v w h f g changed works seat kept off value =
      let others = without_flight h f (world cache_facts backing_facts v) works.stand in
      let held_by : (k : ℕ) → Holds (numbers (record h { flight = None })) k → Holds v.parts k =
      λ k holds. subst (λ ks. Holds ks k) (sym works.parts) (one_more h f k holds) in record {
        run = kept.same.run ∙ works.run;
        seat = seat;
        parts = kept.parts ∙ works.parts;
        stand = with_flight h g (world cache_facts backing_facts w) value
            (stand_kept v w (record h { flight = None }) changed kept held_by
            (λ k holds. off k (λ is. no_flight h (world cache_facts backing_facts v) others
            (subst (λ j. Holds (numbers (record h { flight = None })) j) is holds))) others);
      }
    where
      one_more : (h : Hand C B) (f : InFlight) (k : ℕ) → Holds (numbers (record h { flight = None })) k
          → Holds (numbers (record h { flight = Some f })) k
      one_more h f k = more 5 h.backing _ _ k (more 4 h.cache _ _ k (more 3 h.journal _ _ k
          (more 2 h.buckets _ _ k (λ holds. inr holds))))
        where
          more : {A : Type 0} (n : ℕ) (o : Option A) (xs ys : List ℕ) (k : ℕ) → (Holds xs k → Holds ys k)
              → Holds (with_part n o xs) k → Holds (with_part n o ys) k
          more n None xs ys k f h = f h
          more n (Some a) xs ys k f (inl is) = inl is
          more n (Some a) xs ys k f (inr h) = inr (f h)

  pub works_backing : (p : PartsView (CorePart C B)) (v w : View cache_facts backing_facts) (h : Hand C B)
      (b d : BackingPart B) (changed : ℕ → Bool)
      → Works cache_facts backing_facts p v (record h { backing = Some b })
      → IsCoreSeat cache_facts backing_facts w → Kept (m cache_facts backing_facts) v w changed
      → ((k : ℕ) → k ≢ 5 → changed k ≡ false)
      → IsBacking {C = C} cache_facts backing_facts d (world cache_facts backing_facts w)
      → Works cache_facts backing_facts p w (record h { backing = Some d })
  works_backing p v w h b d changed works seat kept off value =
      let others = without_backing h b (world cache_facts backing_facts v) works.stand in record {
        run = kept.same.run ∙ works.run;
        seat = seat;
        parts = kept.parts ∙ works.parts;
        stand = with_backing h d (world cache_facts backing_facts w) value
            (stand_kept v w (record h { backing = None }) changed kept
            (λ k holds. subst (λ ks. Holds ks k) (sym works.parts) (inr holds))
            (λ k holds. off k (λ is. no_backing h (world cache_facts backing_facts v) others
            (subst (λ j. Holds (numbers (record h { backing = None })) j) is holds))) others);
      }
