-- The cache's parts in hand, taken, lent and given back.
use Rattle.std.proofs.Common.{◌≡◌, ◌≢◌, inl, inr, ℕ, ◌<◌, ◌≤◌, Bool, true, false, List, [], ◌∷◌, Option, Some, None, refl, sym, ap, ◌∙◌, subst, arith}
use Rattle.std.specs.Prelude.{IfSome, ◌==◌, ◌-◌, not, if◌then◌else◌}
use Rattle.bc_disk.specs.Disk.{DiskFacts}
use Rattle.bc_journal.specs.Journal.{Journal}
use Rattle.bc_parts.specs.Seat.{PartsView, Run, Holds, without}
use Rattle.bc_seats.specs.Seats.{IsSeat, Waited, Kept}
use Rattle.bc_machine.specs.declared.part.BucketsPart.{BucketsPart}
use Rattle.bc_machine.specs.declared.part.SpinePart.{SpinePart}
use Rattle.bc_machine.specs.declared.part.CorePart.{CorePart}
use Rattle.bc_cache.specs.Slots.{NodeCache}
use Rattle.bc_machine.specs.declared.part.CorePart.TheVariants as part
use Rattle.bc_machine.specs.World.{World, is_plain, are_plain, StandsAs, IsSpinePart, AreLeaves, AreBuckets, IsJournal, IsCache}
use Rattle.bc_machine.specs.Frame.{by_test}
use Rattle.bc_hand.specs.declared.hand.Hand.{Hand}
use Rattle.bc_hand.specs.declared.hand.LeafHand.{LeafHand}
use Rattle.bc_hand.specs.Seats.{world, IsCoreSeat, with_part, with_leaves, numbers, HasNoneBehindSpine, HasNoneBehindLeaves, HasNoneBehindBuckets, HasNoneBehindJournal, HasNoneBehindCache, StandIn, Works}
use Rattle.bc_hand.proofs.Knowing.{View, m, seat_waited, plain_world}
use Rattle.bc_hand.proofs.Lending.{not_behind, not_behind_leaves, passes, passes_leaves, leaves_high, still_stand, stand_kept}

more : {A : Type 0} (n : ℕ) (o : Option A) (xs ys : List ℕ) (k : ℕ) → (Holds xs k → Holds ys k)
    → Holds (with_part n o xs) k → Holds (with_part n o ys) k
more n None xs ys k f h = f h
more n (Some a) xs ys k f (inl is) = inl is
more n (Some a) xs ys k f (inr h) = inr (f h)

more_leaves : (o : Option LeafHand) (xs ys : List ℕ) (k : ℕ) → (Holds xs k → Holds ys k)
    → Holds (with_leaves o xs) k → Holds (with_leaves o ys) k
more_leaves None xs ys k f h = f h
more_leaves (Some l) xs ys k f (inl is) = inl is
more_leaves (Some l) xs ys k f (inr h) = inr (f h)

module _ {C B : Type 0} (cache_facts : C → DiskFacts) (backing_facts : B → DiskFacts) where
  -- ---- the spine

  above_spine : (h : Hand C B) (ks : List ℕ) → HasNoneBehindSpine h
      → with_part 5 h.backing (with_part 4 h.cache (with_part 3 h.journal (with_part 2 h.buckets (with_part 1 h.flight (with_leaves h.leaves ks))))) ≡ ks
  above_spine h ks none =
      ap (λ o. with_part 5 o (with_part 4 h.cache (with_part 3 h.journal (with_part 2 h.buckets (with_part 1 h.flight (with_leaves h.leaves ks)))))) none.backing
      ∙ ap (λ o. with_part 4 o (with_part 3 h.journal (with_part 2 h.buckets (with_part 1 h.flight (with_leaves h.leaves ks))))) none.cache
      ∙ ap (λ o. with_part 3 o (with_part 2 h.buckets (with_part 1 h.flight (with_leaves h.leaves ks)))) none.journal
      ∙ ap (λ o. with_part 2 o (with_part 1 h.flight (with_leaves h.leaves ks))) none.buckets
      ∙ ap (λ o. with_part 1 o (with_leaves h.leaves ks)) none.flight
      ∙ ap (λ o. with_leaves o ks) none.leaves

  with_spine : (h : Hand C B) (p : SpinePart) (x : World) → IsSpinePart p x
      → StandIn cache_facts backing_facts (record h { spine = None }) x
      → StandIn cache_facts backing_facts (record h { spine = Some p }) x
  with_spine h p x on stand = record {
    spine = on;
    leaves = stand.leaves;
    flight = stand.flight;
    buckets = stand.buckets;
    journal = stand.journal;
    cache = stand.cache;
    backing = stand.backing;
  }

  without_spine : (h : Hand C B) (p : SpinePart) (x : World)
      → StandIn cache_facts backing_facts (record h { spine = Some p }) x
      → StandIn cache_facts backing_facts (record h { spine = None }) x
  without_spine h p x stand = record {
    spine = tt;
    leaves = stand.leaves;
    flight = stand.flight;
    buckets = stand.buckets;
    journal = stand.journal;
    cache = stand.cache;
    backing = stand.backing;
  }

  no_spine : (h : Hand C B) (x : World)
      → StandIn cache_facts backing_facts (record h { spine = None }) x
      → Holds (numbers (record h { spine = None })) 0 → ⊥
  no_spine h x stand = not_behind 5 0 h.backing _ (λ is. cc) (not_behind 4 0 h.cache _ (λ is. cc) (not_behind 3 0 h.journal _ (λ is. cc) (not_behind 2 0 h.buckets _ (λ is. cc) (not_behind 1 0 h.flight _ (λ is. cc) (not_behind_leaves 0 h.leaves _ (leaves_high cache_facts backing_facts (record h { spine = None }) x stand) (omega arith) (λ n. n))))))

  pub works_took_spine : (p : PartsView (CorePart C B)) (v w : View cache_facts backing_facts) (h : Hand C B)
      (value : SpinePart) → Works cache_facts backing_facts p v h → h.spine ≡ None
      → HasNoneBehindSpine h → IsSeat (m cache_facts backing_facts) w
      → Waited (m cache_facts backing_facts) v w → w.parts ≡ 0 ∷ v.parts
      → IsSpinePart value (world cache_facts backing_facts w)
      → Works cache_facts backing_facts p w (record h { spine = Some value })
  works_took_spine p v w h value works no_value none live waited parts on =
      let rest : List ℕ = [] in
      let others = still_stand cache_facts backing_facts v (world cache_facts backing_facts w) h works.seat works.parts
      waited.since works.stand in record {
        run = waited.same.run ∙ works.run;
        seat = seat_waited cache_facts backing_facts v w works.seat live waited;
        parts = parts ∙ ap (λ ks. 0 ∷ ks) (works.parts ∙ above_spine h (with_part 0 h.spine rest) none
            ∙ ap (λ o. with_part 0 o rest) no_value) ∙ sym (above_spine h (0 ∷ rest) none);
        stand = record {
          spine = on;
          leaves = others.leaves;
          flight = others.flight;
          buckets = others.buckets;
          journal = others.journal;
          cache = others.cache;
          backing = others.backing;
        };
      }

  left_spine : (h : Hand C B) (value : SpinePart) → IfSome h.leaves (λ l. 6 ≤ l.part)
      → without 0 (numbers (record h { spine = Some value }))
      ≡ numbers (record h { spine = None })
  left_spine h value low = passes 5 0 h.backing (with_part 4 h.cache (with_part 3 h.journal (with_part 2 h.buckets (with_part 1 h.flight (with_leaves h.leaves (0 ∷ [])))))) refl
      ∙ ap (λ ks. with_part 5 h.backing ks) (passes 4 0 h.cache (with_part 3 h.journal (with_part 2 h.buckets (with_part 1 h.flight (with_leaves h.leaves (0 ∷ []))))) refl
      ∙ ap (λ ks. with_part 4 h.cache ks) (passes 3 0 h.journal (with_part 2 h.buckets (with_part 1 h.flight (with_leaves h.leaves (0 ∷ [])))) refl
      ∙ ap (λ ks. with_part 3 h.journal ks) (passes 2 0 h.buckets (with_part 1 h.flight (with_leaves h.leaves (0 ∷ []))) refl
      ∙ ap (λ ks. with_part 2 h.buckets ks) (passes 1 0 h.flight (with_leaves h.leaves (0 ∷ [])) refl
      ∙ ap (λ ks. with_part 1 h.flight ks) (passes_leaves 0 h.leaves (0 ∷ []) low (omega arith))))))

  pub works_gave_spine : (p : PartsView (CorePart C B)) (v w : View cache_facts backing_facts) (h : Hand C B)
      (value : SpinePart) → Works cache_facts backing_facts p v (record h { spine = Some value })
      → IsSeat (m cache_facts backing_facts) w → Waited (m cache_facts backing_facts) v w
      → w.parts ≡ without 0 v.parts
      → Works cache_facts backing_facts p w (record h { spine = None })
  works_gave_spine p v w h value works live waited parts = record {
    run = waited.same.run ∙ works.run;
    seat = seat_waited cache_facts backing_facts v w works.seat live waited;
    parts = parts ∙ ap (without 0) works.parts
        ∙ left_spine h value (leaves_high cache_facts backing_facts (record h { spine = Some value }) _ works.stand);
    stand = without_spine h value (world cache_facts backing_facts w) (still_stand cache_facts backing_facts v (world cache_facts backing_facts w)
        (record h { spine = Some value }) works.seat works.parts waited.since works.stand);
  }

  one_more_spine : (h : Hand C B) (value : SpinePart) (k : ℕ)
      → Holds (numbers (record h { spine = None })) k
      → Holds (numbers (record h { spine = Some value })) k
  one_more_spine h value k = more 5 h.backing _ _ k (more 4 h.cache _ _ k (more 3 h.journal _ _ k (more 2 h.buckets _ _ k (more 1 h.flight _ _ k (more_leaves h.leaves _ _ k (λ holds. inr holds))))))

  -- the part that a deed changed stands anew, and the others as before
  pub works_spine : (p : PartsView (CorePart C B)) (v w : View cache_facts backing_facts) (h : Hand C B)
      (old new : SpinePart) (changed : ℕ → Bool)
      → Works cache_facts backing_facts p v (record h { spine = Some old })
      → IsCoreSeat cache_facts backing_facts w → Kept (m cache_facts backing_facts) v w changed
      → ((k : ℕ) → k ≢ 0 → changed k ≡ false)
      → IsSpinePart new (world cache_facts backing_facts w)
      → Works cache_facts backing_facts p w (record h { spine = Some new })
  works_spine p v w h old new changed works seat kept off value =
      let others = without_spine h old (world cache_facts backing_facts v) works.stand in record {
        run = kept.same.run ∙ works.run;
        seat = seat;
        parts = kept.parts ∙ works.parts;
        stand = with_spine h new (world cache_facts backing_facts w) value
            (stand_kept cache_facts backing_facts v w (record h { spine = None }) changed kept
            (λ k holds. subst (λ ks. Holds ks k) (sym works.parts) (one_more_spine h old k holds))
            (λ k holds. off k (λ is. no_spine h (world cache_facts backing_facts v) others
            (subst (λ j. Holds (numbers (record h { spine = None })) j) is holds))) others);
      }

  -- ---- buckets

  above_buckets : (h : Hand C B) (ks : List ℕ) → HasNoneBehindBuckets h
      → with_part 5 h.backing (with_part 4 h.cache (with_part 3 h.journal ks)) ≡ ks
  above_buckets h ks none =
      ap (λ o. with_part 5 o (with_part 4 h.cache (with_part 3 h.journal ks))) none.backing
      ∙ ap (λ o. with_part 4 o (with_part 3 h.journal ks)) none.cache
      ∙ ap (λ o. with_part 3 o ks) none.journal

  with_buckets : (h : Hand C B) (p : BucketsPart) (x : World) → AreBuckets p x
      → StandIn cache_facts backing_facts (record h { buckets = None }) x
      → StandIn cache_facts backing_facts (record h { buckets = Some p }) x
  with_buckets h p x on stand = record {
    spine = stand.spine;
    leaves = stand.leaves;
    flight = stand.flight;
    buckets = on;
    journal = stand.journal;
    cache = stand.cache;
    backing = stand.backing;
  }

  without_buckets : (h : Hand C B) (p : BucketsPart) (x : World)
      → StandIn cache_facts backing_facts (record h { buckets = Some p }) x
      → StandIn cache_facts backing_facts (record h { buckets = None }) x
  without_buckets h p x stand = record {
    spine = stand.spine;
    leaves = stand.leaves;
    flight = stand.flight;
    buckets = tt;
    journal = stand.journal;
    cache = stand.cache;
    backing = stand.backing;
  }

  no_buckets : (h : Hand C B) (x : World)
      → StandIn cache_facts backing_facts (record h { buckets = None }) x
      → Holds (numbers (record h { buckets = None })) 2 → ⊥
  no_buckets h x stand = not_behind 5 2 h.backing _ (λ is. cc) (not_behind 4 2 h.cache _ (λ is. cc) (not_behind 3 2 h.journal _ (λ is. cc) (not_behind 1 2 h.flight _ (λ is. cc) (not_behind_leaves 2 h.leaves _ (leaves_high cache_facts backing_facts (record h { buckets = None }) x stand) (omega arith) (not_behind 0 2 h.spine [] (λ is. cc) (λ n. n))))))

  pub works_took_buckets : (p : PartsView (CorePart C B)) (v w : View cache_facts backing_facts) (h : Hand C B)
      (value : BucketsPart) → Works cache_facts backing_facts p v h → h.buckets ≡ None
      → HasNoneBehindBuckets h → IsSeat (m cache_facts backing_facts) w
      → Waited (m cache_facts backing_facts) v w → w.parts ≡ 2 ∷ v.parts
      → AreBuckets value (world cache_facts backing_facts w)
      → Works cache_facts backing_facts p w (record h { buckets = Some value })
  works_took_buckets p v w h value works no_value none live waited parts on =
      let rest : List ℕ = with_part 1 h.flight (with_leaves h.leaves (with_part 0 h.spine [])) in
      let others = still_stand cache_facts backing_facts v (world cache_facts backing_facts w) h works.seat works.parts
      waited.since works.stand in record {
        run = waited.same.run ∙ works.run;
        seat = seat_waited cache_facts backing_facts v w works.seat live waited;
        parts = parts ∙ ap (λ ks. 2 ∷ ks) (works.parts ∙ above_buckets h (with_part 2 h.buckets rest) none
            ∙ ap (λ o. with_part 2 o rest) no_value) ∙ sym (above_buckets h (2 ∷ rest) none);
        stand = record {
          spine = others.spine;
          leaves = others.leaves;
          flight = others.flight;
          buckets = on;
          journal = others.journal;
          cache = others.cache;
          backing = others.backing;
        };
      }

  left_buckets : (h : Hand C B) (value : BucketsPart) → IfSome h.leaves (λ l. 6 ≤ l.part)
      → without 2 (numbers (record h { buckets = Some value }))
      ≡ numbers (record h { buckets = None })
  left_buckets h value low = passes 5 2 h.backing (with_part 4 h.cache (with_part 3 h.journal (2 ∷ (with_part 1 h.flight (with_leaves h.leaves (with_part 0 h.spine [])))))) refl
      ∙ ap (λ ks. with_part 5 h.backing ks) (passes 4 2 h.cache (with_part 3 h.journal (2 ∷ (with_part 1 h.flight (with_leaves h.leaves (with_part 0 h.spine []))))) refl
      ∙ ap (λ ks. with_part 4 h.cache ks) (passes 3 2 h.journal (2 ∷ (with_part 1 h.flight (with_leaves h.leaves (with_part 0 h.spine [])))) refl
      ∙ ap (λ ks. with_part 3 h.journal ks) (passes 1 2 h.flight _ refl
      ∙ ap (λ ks. with_part 1 h.flight ks) (passes_leaves 2 h.leaves _ low (omega arith)
      ∙ ap (λ ks. with_leaves h.leaves ks) (passes 0 2 h.spine [] refl)))))

  pub works_gave_buckets : (p : PartsView (CorePart C B)) (v w : View cache_facts backing_facts) (h : Hand C B)
      (value : BucketsPart) → Works cache_facts backing_facts p v (record h { buckets = Some value })
      → IsSeat (m cache_facts backing_facts) w → Waited (m cache_facts backing_facts) v w
      → w.parts ≡ without 2 v.parts
      → Works cache_facts backing_facts p w (record h { buckets = None })
  works_gave_buckets p v w h value works live waited parts = record {
    run = waited.same.run ∙ works.run;
    seat = seat_waited cache_facts backing_facts v w works.seat live waited;
    parts = parts ∙ ap (without 2) works.parts
        ∙ left_buckets h value (leaves_high cache_facts backing_facts (record h { buckets = Some value }) _ works.stand);
    stand = without_buckets h value (world cache_facts backing_facts w) (still_stand cache_facts backing_facts v (world cache_facts backing_facts w)
        (record h { buckets = Some value }) works.seat works.parts waited.since works.stand);
  }

  one_more_buckets : (h : Hand C B) (value : BucketsPart) (k : ℕ)
      → Holds (numbers (record h { buckets = None })) k
      → Holds (numbers (record h { buckets = Some value })) k
  one_more_buckets h value k = more 5 h.backing _ _ k (more 4 h.cache _ _ k (more 3 h.journal _ _ k (λ holds. inr holds)))

  -- the part that a deed changed stands anew, and the others as before
  pub works_buckets : (p : PartsView (CorePart C B)) (v w : View cache_facts backing_facts) (h : Hand C B)
      (old new : BucketsPart) (changed : ℕ → Bool)
      → Works cache_facts backing_facts p v (record h { buckets = Some old })
      → IsCoreSeat cache_facts backing_facts w → Kept (m cache_facts backing_facts) v w changed
      → ((k : ℕ) → k ≢ 2 → changed k ≡ false)
      → AreBuckets new (world cache_facts backing_facts w)
      → Works cache_facts backing_facts p w (record h { buckets = Some new })
  works_buckets p v w h old new changed works seat kept off value =
      let others = without_buckets h old (world cache_facts backing_facts v) works.stand in record {
        run = kept.same.run ∙ works.run;
        seat = seat;
        parts = kept.parts ∙ works.parts;
        stand = with_buckets h new (world cache_facts backing_facts w) value
            (stand_kept cache_facts backing_facts v w (record h { buckets = None }) changed kept
            (λ k holds. subst (λ ks. Holds ks k) (sym works.parts) (one_more_buckets h old k holds))
            (λ k holds. off k (λ is. no_buckets h (world cache_facts backing_facts v) others
            (subst (λ j. Holds (numbers (record h { buckets = None })) j) is holds))) others);
      }

  -- ---- the journal

  above_journal : (h : Hand C B) (ks : List ℕ) → HasNoneBehindJournal h
      → with_part 5 h.backing (with_part 4 h.cache ks) ≡ ks
  above_journal h ks none =
      ap (λ o. with_part 5 o (with_part 4 h.cache ks)) none.backing
      ∙ ap (λ o. with_part 4 o ks) none.cache

  with_journal : (h : Hand C B) (p : Journal) (x : World) → IsJournal p x
      → StandIn cache_facts backing_facts (record h { journal = None }) x
      → StandIn cache_facts backing_facts (record h { journal = Some p }) x
  with_journal h p x on stand = record {
    spine = stand.spine;
    leaves = stand.leaves;
    flight = stand.flight;
    buckets = stand.buckets;
    journal = on;
    cache = stand.cache;
    backing = stand.backing;
  }

  without_journal : (h : Hand C B) (p : Journal) (x : World)
      → StandIn cache_facts backing_facts (record h { journal = Some p }) x
      → StandIn cache_facts backing_facts (record h { journal = None }) x
  without_journal h p x stand = record {
    spine = stand.spine;
    leaves = stand.leaves;
    flight = stand.flight;
    buckets = stand.buckets;
    journal = tt;
    cache = stand.cache;
    backing = stand.backing;
  }

  no_journal : (h : Hand C B) (x : World)
      → StandIn cache_facts backing_facts (record h { journal = None }) x
      → Holds (numbers (record h { journal = None })) 3 → ⊥
  no_journal h x stand = not_behind 5 3 h.backing _ (λ is. cc) (not_behind 4 3 h.cache _ (λ is. cc) (not_behind 2 3 h.buckets _ (λ is. cc) (not_behind 1 3 h.flight _ (λ is. cc) (not_behind_leaves 3 h.leaves _ (leaves_high cache_facts backing_facts (record h { journal = None }) x stand) (omega arith) (not_behind 0 3 h.spine [] (λ is. cc) (λ n. n))))))

  pub works_took_journal : (p : PartsView (CorePart C B)) (v w : View cache_facts backing_facts) (h : Hand C B)
      (value : Journal) → Works cache_facts backing_facts p v h → h.journal ≡ None
      → HasNoneBehindJournal h → IsSeat (m cache_facts backing_facts) w
      → Waited (m cache_facts backing_facts) v w → w.parts ≡ 3 ∷ v.parts
      → IsJournal value (world cache_facts backing_facts w)
      → Works cache_facts backing_facts p w (record h { journal = Some value })
  works_took_journal p v w h value works no_value none live waited parts on =
      let rest : List ℕ = with_part 2 h.buckets (with_part 1 h.flight (with_leaves h.leaves (with_part 0 h.spine []))) in
      let others = still_stand cache_facts backing_facts v (world cache_facts backing_facts w) h works.seat works.parts
      waited.since works.stand in record {
        run = waited.same.run ∙ works.run;
        seat = seat_waited cache_facts backing_facts v w works.seat live waited;
        parts = parts ∙ ap (λ ks. 3 ∷ ks) (works.parts ∙ above_journal h (with_part 3 h.journal rest) none
            ∙ ap (λ o. with_part 3 o rest) no_value) ∙ sym (above_journal h (3 ∷ rest) none);
        stand = record {
          spine = others.spine;
          leaves = others.leaves;
          flight = others.flight;
          buckets = others.buckets;
          journal = on;
          cache = others.cache;
          backing = others.backing;
        };
      }

  left_journal : (h : Hand C B) (value : Journal) → IfSome h.leaves (λ l. 6 ≤ l.part)
      → without 3 (numbers (record h { journal = Some value }))
      ≡ numbers (record h { journal = None })
  left_journal h value low = passes 5 3 h.backing (with_part 4 h.cache (3 ∷ (with_part 2 h.buckets (with_part 1 h.flight (with_leaves h.leaves (with_part 0 h.spine [])))))) refl
      ∙ ap (λ ks. with_part 5 h.backing ks) (passes 4 3 h.cache (3 ∷ (with_part 2 h.buckets (with_part 1 h.flight (with_leaves h.leaves (with_part 0 h.spine []))))) refl
      ∙ ap (λ ks. with_part 4 h.cache ks) (passes 2 3 h.buckets _ refl
      ∙ ap (λ ks. with_part 2 h.buckets ks) (passes 1 3 h.flight _ refl
      ∙ ap (λ ks. with_part 1 h.flight ks) (passes_leaves 3 h.leaves _ low (omega arith)
      ∙ ap (λ ks. with_leaves h.leaves ks) (passes 0 3 h.spine [] refl)))))

  pub works_gave_journal : (p : PartsView (CorePart C B)) (v w : View cache_facts backing_facts) (h : Hand C B)
      (value : Journal) → Works cache_facts backing_facts p v (record h { journal = Some value })
      → IsSeat (m cache_facts backing_facts) w → Waited (m cache_facts backing_facts) v w
      → w.parts ≡ without 3 v.parts
      → Works cache_facts backing_facts p w (record h { journal = None })
  works_gave_journal p v w h value works live waited parts = record {
    run = waited.same.run ∙ works.run;
    seat = seat_waited cache_facts backing_facts v w works.seat live waited;
    parts = parts ∙ ap (without 3) works.parts
        ∙ left_journal h value (leaves_high cache_facts backing_facts (record h { journal = Some value }) _ works.stand);
    stand = without_journal h value (world cache_facts backing_facts w) (still_stand cache_facts backing_facts v (world cache_facts backing_facts w)
        (record h { journal = Some value }) works.seat works.parts waited.since works.stand);
  }

  one_more_journal : (h : Hand C B) (value : Journal) (k : ℕ)
      → Holds (numbers (record h { journal = None })) k
      → Holds (numbers (record h { journal = Some value })) k
  one_more_journal h value k = more 5 h.backing _ _ k (more 4 h.cache _ _ k (λ holds. inr holds))

  -- the part that a deed changed stands anew, and the others as before
  pub works_journal : (p : PartsView (CorePart C B)) (v w : View cache_facts backing_facts) (h : Hand C B)
      (old new : Journal) (changed : ℕ → Bool)
      → Works cache_facts backing_facts p v (record h { journal = Some old })
      → IsCoreSeat cache_facts backing_facts w → Kept (m cache_facts backing_facts) v w changed
      → ((k : ℕ) → k ≢ 3 → changed k ≡ false)
      → IsJournal new (world cache_facts backing_facts w)
      → Works cache_facts backing_facts p w (record h { journal = Some new })
  works_journal p v w h old new changed works seat kept off value =
      let others = without_journal h old (world cache_facts backing_facts v) works.stand in record {
        run = kept.same.run ∙ works.run;
        seat = seat;
        parts = kept.parts ∙ works.parts;
        stand = with_journal h new (world cache_facts backing_facts w) value
            (stand_kept cache_facts backing_facts v w (record h { journal = None }) changed kept
            (λ k holds. subst (λ ks. Holds ks k) (sym works.parts) (one_more_journal h old k holds))
            (λ k holds. off k (λ is. no_journal h (world cache_facts backing_facts v) others
            (subst (λ j. Holds (numbers (record h { journal = None })) j) is holds))) others);
      }

  -- ---- the cache

  above_cache : (h : Hand C B) (ks : List ℕ) → HasNoneBehindCache h
      → with_part 5 h.backing ks ≡ ks
  above_cache h ks none =
      ap (λ o. with_part 5 o ks) none.backing

  with_cache : (h : Hand C B) (p : C) (x : World) → IsCache {C = C} {B = B} cache_facts backing_facts p x
      → StandIn cache_facts backing_facts (record h { cache = None }) x
      → StandIn cache_facts backing_facts (record h { cache = Some p }) x
  with_cache h p x on stand = record {
    spine = stand.spine;
    leaves = stand.leaves;
    flight = stand.flight;
    buckets = stand.buckets;
    journal = stand.journal;
    cache = on;
    backing = stand.backing;
  }

  without_cache : (h : Hand C B) (p : C) (x : World)
      → StandIn cache_facts backing_facts (record h { cache = Some p }) x
      → StandIn cache_facts backing_facts (record h { cache = None }) x
  without_cache h p x stand = record {
    spine = stand.spine;
    leaves = stand.leaves;
    flight = stand.flight;
    buckets = stand.buckets;
    journal = stand.journal;
    cache = tt;
    backing = stand.backing;
  }

  no_cache : (h : Hand C B) (x : World)
      → StandIn cache_facts backing_facts (record h { cache = None }) x
      → Holds (numbers (record h { cache = None })) 4 → ⊥
  no_cache h x stand = not_behind 5 4 h.backing _ (λ is. cc) (not_behind 3 4 h.journal _ (λ is. cc) (not_behind 2 4 h.buckets _ (λ is. cc) (not_behind 1 4 h.flight _ (λ is. cc) (not_behind_leaves 4 h.leaves _ (leaves_high cache_facts backing_facts (record h { cache = None }) x stand) (omega arith) (not_behind 0 4 h.spine [] (λ is. cc) (λ n. n))))))

  pub works_took_cache : (p : PartsView (CorePart C B)) (v w : View cache_facts backing_facts) (h : Hand C B)
      (value : C) → Works cache_facts backing_facts p v h → h.cache ≡ None
      → HasNoneBehindCache h → IsSeat (m cache_facts backing_facts) w
      → Waited (m cache_facts backing_facts) v w → w.parts ≡ 4 ∷ v.parts
      → IsCache {C = C} {B = B} cache_facts backing_facts value (world cache_facts backing_facts w)
      → Works cache_facts backing_facts p w (record h { cache = Some value })
  works_took_cache p v w h value works no_value none live waited parts on =
      let rest : List ℕ = with_part 3 h.journal (with_part 2 h.buckets (with_part 1 h.flight (with_leaves h.leaves (with_part 0 h.spine [])))) in
      let others = still_stand cache_facts backing_facts v (world cache_facts backing_facts w) h works.seat works.parts
      waited.since works.stand in record {
        run = waited.same.run ∙ works.run;
        seat = seat_waited cache_facts backing_facts v w works.seat live waited;
        parts = parts ∙ ap (λ ks. 4 ∷ ks) (works.parts ∙ above_cache h (with_part 4 h.cache rest) none
            ∙ ap (λ o. with_part 4 o rest) no_value) ∙ sym (above_cache h (4 ∷ rest) none);
        stand = record {
          spine = others.spine;
          leaves = others.leaves;
          flight = others.flight;
          buckets = others.buckets;
          journal = others.journal;
          cache = on;
          backing = others.backing;
        };
      }

  left_cache : (h : Hand C B) (value : C) → IfSome h.leaves (λ l. 6 ≤ l.part)
      → without 4 (numbers (record h { cache = Some value }))
      ≡ numbers (record h { cache = None })
  left_cache h value low = passes 5 4 h.backing (4 ∷ (with_part 3 h.journal (with_part 2 h.buckets (with_part 1 h.flight (with_leaves h.leaves (with_part 0 h.spine [])))))) refl
      ∙ ap (λ ks. with_part 5 h.backing ks) (passes 3 4 h.journal _ refl
      ∙ ap (λ ks. with_part 3 h.journal ks) (passes 2 4 h.buckets _ refl
      ∙ ap (λ ks. with_part 2 h.buckets ks) (passes 1 4 h.flight _ refl
      ∙ ap (λ ks. with_part 1 h.flight ks) (passes_leaves 4 h.leaves _ low (omega arith)
      ∙ ap (λ ks. with_leaves h.leaves ks) (passes 0 4 h.spine [] refl)))))

  pub works_gave_cache : (p : PartsView (CorePart C B)) (v w : View cache_facts backing_facts) (h : Hand C B)
      (value : C) → Works cache_facts backing_facts p v (record h { cache = Some value })
      → IsSeat (m cache_facts backing_facts) w → Waited (m cache_facts backing_facts) v w
      → w.parts ≡ without 4 v.parts
      → Works cache_facts backing_facts p w (record h { cache = None })
  works_gave_cache p v w h value works live waited parts = record {
    run = waited.same.run ∙ works.run;
    seat = seat_waited cache_facts backing_facts v w works.seat live waited;
    parts = parts ∙ ap (without 4) works.parts
        ∙ left_cache h value (leaves_high cache_facts backing_facts (record h { cache = Some value }) _ works.stand);
    stand = without_cache h value (world cache_facts backing_facts w) (still_stand cache_facts backing_facts v (world cache_facts backing_facts w)
        (record h { cache = Some value }) works.seat works.parts waited.since works.stand);
  }

  one_more_cache : (h : Hand C B) (value : C) (k : ℕ)
      → Holds (numbers (record h { cache = None })) k
      → Holds (numbers (record h { cache = Some value })) k
  one_more_cache h value k = more 5 h.backing _ _ k (λ holds. inr holds)

  -- the part that a deed changed stands anew, and the others as before
  pub works_cache : (p : PartsView (CorePart C B)) (v w : View cache_facts backing_facts) (h : Hand C B)
      (old new : C) (changed : ℕ → Bool)
      → Works cache_facts backing_facts p v (record h { cache = Some old })
      → IsCoreSeat cache_facts backing_facts w → Kept (m cache_facts backing_facts) v w changed
      → ((k : ℕ) → k ≢ 4 → changed k ≡ false)
      → IsCache {C = C} {B = B} cache_facts backing_facts new (world cache_facts backing_facts w)
      → Works cache_facts backing_facts p w (record h { cache = Some new })
  works_cache p v w h old new changed works seat kept off value =
      let others = without_cache h old (world cache_facts backing_facts v) works.stand in record {
        run = kept.same.run ∙ works.run;
        seat = seat;
        parts = kept.parts ∙ works.parts;
        stand = with_cache h new (world cache_facts backing_facts w) value
            (stand_kept cache_facts backing_facts v w (record h { cache = None }) changed kept
            (λ k holds. subst (λ ks. Holds ks k) (sym works.parts) (one_more_cache h old k holds))
            (λ k holds. off k (λ is. no_cache h (world cache_facts backing_facts v) others
            (subst (λ j. Holds (numbers (record h { cache = None })) j) is holds))) others);
      }

  -- ---- a part with leaves

  above_leaves : (h : Hand C B) (ks : List ℕ) → HasNoneBehindLeaves h
      → with_part 5 h.backing (with_part 4 h.cache (with_part 3 h.journal (with_part 2 h.buckets (with_part 1 h.flight ks)))) ≡ ks
  above_leaves h ks none = ap (λ o. with_part 5 o (with_part 4 h.cache (with_part 3 h.journal (with_part 2 h.buckets (with_part 1 h.flight ks))))) none.backing
      ∙ ap (λ o. with_part 4 o (with_part 3 h.journal (with_part 2 h.buckets (with_part 1 h.flight ks)))) none.cache
      ∙ ap (λ o. with_part 3 o (with_part 2 h.buckets (with_part 1 h.flight ks))) none.journal
      ∙ ap (λ o. with_part 2 o (with_part 1 h.flight ks)) none.buckets
      ∙ ap (λ o. with_part 1 o ks) none.flight

  with_some_leaves : (h : Hand C B) (l : LeafHand) (x : World) → 6 ≤ l.part
      → AreLeaves (l.part - 6) l.cache x
      → StandIn cache_facts backing_facts (record h { leaves = None }) x
      → StandIn cache_facts backing_facts (record h { leaves = Some l }) x
  with_some_leaves h l x low on stand = record {
    spine = stand.spine;
    leaves = (low, on);
    flight = stand.flight;
    buckets = stand.buckets;
    journal = stand.journal;
    cache = stand.cache;
    backing = stand.backing;
  }

  without_leaves : (h : Hand C B) (l : LeafHand) (x : World)
      → StandIn cache_facts backing_facts (record h { leaves = Some l }) x
      → StandIn cache_facts backing_facts (record h { leaves = None }) x
  without_leaves h l x stand = record {
    spine = stand.spine;
    leaves = tt;
    flight = stand.flight;
    buckets = stand.buckets;
    journal = stand.journal;
    cache = stand.cache;
    backing = stand.backing;
  }

  no_leaves : (h : Hand C B) (k : ℕ) → 6 ≤ k → Holds (numbers (record h { leaves = None })) k → ⊥
  no_leaves h k low = not_behind 5 k h.backing _ (λ is. absurd (omega (arith, is))) (not_behind 4 k h.cache _ (λ is. absurd (omega (arith, is))) (not_behind 3 k h.journal _ (λ is. absurd (omega (arith, is))) (not_behind 2 k h.buckets _ (λ is. absurd (omega (arith, is))) (not_behind 1 k h.flight _ (λ is. absurd (omega (arith, is))) (not_behind 0 k h.spine [] (λ is. absurd (omega (arith, is))) (λ n. n))))))

  pub works_took_leaves : (p : PartsView (CorePart C B)) (v w : View cache_facts backing_facts)
      (h : Hand C B) (l : LeafHand) → Works cache_facts backing_facts p v h → h.leaves ≡ None
      → HasNoneBehindLeaves h → IsSeat (m cache_facts backing_facts) w
      → Waited (m cache_facts backing_facts) v w → w.parts ≡ l.part ∷ v.parts → 6 ≤ l.part
      → AreLeaves (l.part - 6) l.cache (world cache_facts backing_facts w)
      → Works cache_facts backing_facts p w (record h { leaves = Some l })
  works_took_leaves p v w h l works no_value none live waited parts low on =
      let rest : List ℕ = with_part 0 h.spine [] in
      let others = still_stand cache_facts backing_facts v (world cache_facts backing_facts w) h works.seat works.parts
      waited.since works.stand in record {
        run = waited.same.run ∙ works.run;
        seat = seat_waited cache_facts backing_facts v w works.seat live waited;
        parts = parts ∙ ap (λ ks. l.part ∷ ks) (works.parts ∙ above_leaves h (with_leaves h.leaves rest) none
            ∙ ap (λ o. with_leaves o rest) no_value) ∙ sym (above_leaves h (l.part ∷ rest) none);
        stand = record {
          spine = others.spine;
          leaves = (low, on);
          flight = others.flight;
          buckets = others.buckets;
          journal = others.journal;
          cache = others.cache;
          backing = others.backing;
        };
      }

  low_number : (n k : ℕ) → n < 6 → 6 ≤ k → (n == k) ≡ false
  low_number n k few low = by_test n k (λ b. b ≡ false) (λ is. absurd (omega (arith, is))) (λ ne. refl)

  here_left : (k : ℕ) (ks : List ℕ) → without k (k ∷ ks) ≡ without k ks
  here_left k ks = by_test k k (λ b. (if not b then k ∷ without k ks else without k ks) ≡ without k ks)
      (λ is. refl) (λ ne. absurd (ne refl))

  left_leaves : (h : Hand C B) (l : LeafHand) → 6 ≤ l.part
      → without l.part (numbers (record h { leaves = Some l }))
      ≡ numbers (record h { leaves = None })
  left_leaves h l low = passes 5 l.part h.backing (with_part 4 h.cache (with_part 3 h.journal (with_part 2 h.buckets (with_part 1 h.flight (l.part ∷ (with_part 0 h.spine [])))))) (low_number 5 l.part (omega arith) low)
      ∙ ap (λ ks. with_part 5 h.backing ks) (passes 4 l.part h.cache (with_part 3 h.journal (with_part 2 h.buckets (with_part 1 h.flight (l.part ∷ (with_part 0 h.spine []))))) (low_number 4 l.part (omega arith) low)
      ∙ ap (λ ks. with_part 4 h.cache ks) (passes 3 l.part h.journal (with_part 2 h.buckets (with_part 1 h.flight (l.part ∷ (with_part 0 h.spine [])))) (low_number 3 l.part (omega arith) low)
      ∙ ap (λ ks. with_part 3 h.journal ks) (passes 2 l.part h.buckets (with_part 1 h.flight (l.part ∷ (with_part 0 h.spine []))) (low_number 2 l.part (omega arith) low)
      ∙ ap (λ ks. with_part 2 h.buckets ks) (passes 1 l.part h.flight (l.part ∷ (with_part 0 h.spine [])) (low_number 1 l.part (omega arith) low)
      ∙ ap (λ ks. with_part 1 h.flight ks) (here_left l.part (with_part 0 h.spine [])
      ∙ passes 0 l.part h.spine [] (low_number 0 l.part (omega arith) low))))))

  some_low : (h : Hand C B) (l : LeafHand) (x : World)
      → StandIn cache_facts backing_facts (record h { leaves = Some l }) x → 6 ≤ l.part
  some_low h l x stand = stand.leaves.0

  pub works_gave_leaves : (p : PartsView (CorePart C B)) (v w : View cache_facts backing_facts)
      (h : Hand C B) (l : LeafHand)
      → Works cache_facts backing_facts p v (record h { leaves = Some l })
      → IsSeat (m cache_facts backing_facts) w → Waited (m cache_facts backing_facts) v w
      → w.parts ≡ without l.part v.parts
      → Works cache_facts backing_facts p w (record h { leaves = None })
  works_gave_leaves p v w h l works live waited parts = record {
    run = waited.same.run ∙ works.run;
    seat = seat_waited cache_facts backing_facts v w works.seat live waited;
    parts = parts ∙ ap (without l.part) works.parts
        ∙ left_leaves h l (some_low h l (world cache_facts backing_facts v) works.stand);
    stand = without_leaves h l (world cache_facts backing_facts w) (still_stand cache_facts backing_facts v (world cache_facts backing_facts w)
        (record h { leaves = Some l }) works.seat works.parts waited.since works.stand);
  }

  one_more_leaves : (h : Hand C B) (l : LeafHand) (k : ℕ)
      → Holds (numbers (record h { leaves = None })) k
      → Holds (numbers (record h { leaves = Some l })) k
  one_more_leaves h l k = more 5 h.backing _ _ k (more 4 h.cache _ _ k (more 3 h.journal _ _ k (more 2 h.buckets _ _ k (more 1 h.flight _ _ k (λ holds. inr holds)))))

  -- the part that a deed changed stands anew, and the others as before
  pub works_leaves : (p : PartsView (CorePart C B)) (v w : View cache_facts backing_facts) (h : Hand C B)
      (part : ℕ) (old new : NodeCache) (changed : ℕ → Bool)
      → Works cache_facts backing_facts p v (record h { leaves = Some (record { part = part; cache = old }) })
      → IsCoreSeat cache_facts backing_facts w → Kept (m cache_facts backing_facts) v w changed
      → ((k : ℕ) → k ≢ part → changed k ≡ false)
      → AreLeaves (part - 6) new (world cache_facts backing_facts w)
      → Works cache_facts backing_facts p w (record h { leaves = Some (record { part = part; cache = new }) })
  works_leaves p v w h part old new changed works seat kept off value =
      let l : LeafHand = record { part = part; cache = old } in
      let low = some_low h l (world cache_facts backing_facts v) works.stand in
      let others = without_leaves h l (world cache_facts backing_facts v) works.stand in record {
        run = kept.same.run ∙ works.run;
        seat = seat;
        parts = kept.parts ∙ works.parts;
        stand = with_some_leaves h (record { part = part; cache = new }) (world cache_facts backing_facts w) low value
            (stand_kept cache_facts backing_facts v w (record h { leaves = None }) changed kept
            (λ k holds. subst (λ ks. Holds ks k) (sym works.parts) (one_more_leaves h l k holds))
            (λ k holds. off k (λ is. no_leaves h part low
            (subst (λ j. Holds (numbers (record h { leaves = None })) j) is holds))) others);
      }

  -- ---- what a part may be

  pub not_plain : (p : PartsView (CorePart C B)) (v w : View cache_facts backing_facts) (h : Hand C B)
      → Works cache_facts backing_facts p v h → Waited (m cache_facts backing_facts) v w
      → are_plain cache_facts backing_facts p.run.start ≡ false
      → is_plain (world cache_facts backing_facts w) ≡ false
  not_plain p v w h works waited cached = plain_world cache_facts backing_facts w
      ∙ ap (λ (r : Run (CorePart C B)). are_plain cache_facts backing_facts r.start)
      (waited.same.run ∙ works.run) ∙ cached

  never : (b : Bool) → b ≡ true → b ≡ false → ⊥
  never b is off = cc

  pub only_spine : (p : CorePart C B) (x : World) → StandsAs cache_facts backing_facts 0 p x
      → is_plain x ≡ false → ((y : SpinePart) → p ≡ part.Spine y → ⊥) → ⊥
  only_spine part.Absent x h cached none = never (is_plain x) h.plain cached
  only_spine (part.Spine sp) x h cached none = none sp refl
  only_spine (part.Flight f) x h cached none = absurd (let is = h.0 in cc)
  only_spine (part.Buckets b) x h cached none = absurd (let is = h.0 in cc)
  only_spine (part.Journal j) x h cached none = absurd (let is = h.0 in cc)
  only_spine (part.Cache c) x h cached none = absurd (let is = h.0 in cc)
  only_spine (part.Backing b) x h cached none = absurd (let is = h.0 in cc)
  only_spine (part.Leaves c) x h cached none = let low = h.0 in absurd (omega arith)

  pub only_buckets : (p : CorePart C B) (x : World) → StandsAs cache_facts backing_facts 2 p x
      → is_plain x ≡ false → ((y : BucketsPart) → p ≡ part.Buckets y → ⊥) → ⊥
  only_buckets part.Absent x h cached none = never (is_plain x) h.plain cached
  only_buckets (part.Spine sp) x h cached none = absurd (let is = h.0 in cc)
  only_buckets (part.Flight f) x h cached none = absurd (let is = h.0 in cc)
  only_buckets (part.Buckets b) x h cached none = none b refl
  only_buckets (part.Journal j) x h cached none = absurd (let is = h.0 in cc)
  only_buckets (part.Cache c) x h cached none = absurd (let is = h.0 in cc)
  only_buckets (part.Backing b) x h cached none = absurd (let is = h.0 in cc)
  only_buckets (part.Leaves c) x h cached none = let low = h.0 in absurd (omega arith)

  pub only_journal : (p : CorePart C B) (x : World) → StandsAs cache_facts backing_facts 3 p x
      → is_plain x ≡ false → ((y : Journal) → p ≡ part.Journal y → ⊥) → ⊥
  only_journal part.Absent x h cached none = never (is_plain x) h.plain cached
  only_journal (part.Spine sp) x h cached none = absurd (let is = h.0 in cc)
  only_journal (part.Flight f) x h cached none = absurd (let is = h.0 in cc)
  only_journal (part.Buckets b) x h cached none = absurd (let is = h.0 in cc)
  only_journal (part.Journal j) x h cached none = none j refl
  only_journal (part.Cache c) x h cached none = absurd (let is = h.0 in cc)
  only_journal (part.Backing b) x h cached none = absurd (let is = h.0 in cc)
  only_journal (part.Leaves c) x h cached none = let low = h.0 in absurd (omega arith)

  pub only_cache : (p : CorePart C B) (x : World) → StandsAs cache_facts backing_facts 4 p x
      → is_plain x ≡ false → ((y : C) → p ≡ part.Cache y → ⊥) → ⊥
  only_cache part.Absent x h cached none = never (is_plain x) h.plain cached
  only_cache (part.Spine sp) x h cached none = absurd (let is = h.0 in cc)
  only_cache (part.Flight f) x h cached none = absurd (let is = h.0 in cc)
  only_cache (part.Buckets b) x h cached none = absurd (let is = h.0 in cc)
  only_cache (part.Journal j) x h cached none = absurd (let is = h.0 in cc)
  only_cache (part.Cache c) x h cached none = none c refl
  only_cache (part.Backing b) x h cached none = absurd (let is = h.0 in cc)
  only_cache (part.Leaves c) x h cached none = let low = h.0 in absurd (omega arith)

  pub only_leaves : (k : ℕ) (p : CorePart C B) (x : World) → 6 ≤ k
      → StandsAs cache_facts backing_facts k p x → is_plain x ≡ false
      → ((y : NodeCache) → p ≡ part.Leaves y → ⊥) → ⊥
  only_leaves k part.Absent x low h cached none = never (is_plain x) h.plain cached
  only_leaves k (part.Spine sp) x low h cached none = let is = h.0 in absurd (omega arith)
  only_leaves k (part.Flight f) x low h cached none = let is = h.0 in absurd (omega arith)
  only_leaves k (part.Buckets b) x low h cached none = let is = h.0 in absurd (omega arith)
  only_leaves k (part.Journal j) x low h cached none = let is = h.0 in absurd (omega arith)
  only_leaves k (part.Cache c) x low h cached none = let is = h.0 in absurd (omega arith)
  only_leaves k (part.Backing b) x low h cached none = let is = h.0 in absurd (omega arith)
  only_leaves k (part.Leaves c) x low h cached none = none c refl
