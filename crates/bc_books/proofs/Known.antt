-- Each step keeps what holds of last keys, and what an open round has seen.
use Rattle.std.proofs.Common.{◌≡◌, ◌≢◌, inl, inr, ℕ, suc, ◌≤◌, max, Bool, true, false, Option, Some, None, if◌then◌else◌, ◌==◌, ◌||◌, ◌&&◌, refl, sym, ap, ◌∙◌, subst, arith}
use Rattle.bc_books.specs.Index.{Pointer, latest, within, put, hit, over, names, dirties, touches}
use Rattle.bc_books.specs.Versions.{Generations}
use Rattle.bc_books.specs.Shelves.{Owner, Fresh, Own, Kept, Spent, IsUnwritten, put_run}
use Rattle.bc_books.specs.Marks.{Mark, Unmarked, Dirtied, Metadata, with_key, mark_by, found_mark, settled, dirty_in, points_into, any, oldest}
use Rattle.bc_books.specs.Chains.{is_chain}
use Rattle.bc_books.specs.Books.{Setup, Books, Step, Put, Regroup, Pin, Unpin, Keep, MakeNode, DropNode, Raise, MakeReady, ReadyChain, SealChain, Sealed, Begin, Walk, End, Drop}
use Rattle.bc_books.specs.Enabled.{IsLawful, CanStep}
use Rattle.bc_books.specs.After.{after, mark_at_ready}
use Rattle.bc_books.specs.Invariant.{IsKnown, IfKnown, AreKnown, IsSameOrTouched, IsTracked, IsWithin, IsInOrder}
use Rattle.bc_model.proofs.Cases.{by_test, by_le}
use Rattle.bc_books.proofs.Cases.{by_hit, by_bool, by_unless, put_cases, put_run_cases, or_left, or_right, names_there, dirties_there, touches_there, any_at, both_true, oldest_low, dirty_at}
use Rattle.bc_books.proofs.Counts.{keep_counted, keep_dated, keep_still}
use Rattle.bc_books.proofs.Places.{pinned_spent, keep_placed, keep_chained}
use Rattle.bc_books.proofs.Marked.{keep_marked}

-- a dirty bucket stays so with more keys
still_dirty : (z t : Bool) (m : Mark) → m ≡ Dirtied → with_key z t m ≡ Dirtied
still_dirty true t m e = refl
still_dirty false true m e = subst (λ x. with_key false true x ≡ Dirtied) (sym e) refl
still_dirty false false m e = subst (λ x. with_key false false x ≡ Dirtied) (sym e) refl

settled_dirty : (m new : Mark) → m ≡ Dirtied → settled m new ≡ new
settled_dirty m new e = subst (λ x. settled x new ≡ new) (sym e) refl

pub mark_by_dirty : (a b : Bool) → a ≡ true → mark_by a b ≡ Dirtied
mark_by_dirty a b e = subst (λ z. mark_by z b ≡ Dirtied) (sym e) refl

module _ (w : Setup) (k : Books) (f : IsInOrder w k) where
  pub newest : k.journal.durable ≤ k.index.count
  newest = let a = f.counted.durable in let b = f.counted.sealed in omega arith

  -- what changes neither index nor journal keeps its keys where it keeps each
  known_map : (g : Generations) (mark : ℕ → Mark) (owner : ℕ → Owner)
      → ((s : ℕ) (r : Pointer) → IsKnown w k.generations k.mark k.owner s r → IsKnown w g mark owner s r)
      → AreKnown w k.index.at k.journal.durable g mark owner
  known_map g mark owner go = record { keys = λ n s le r e. go s r (f.known.keys n s le r e) }

  known_mark : (mark : ℕ → Mark) → ((b : ℕ) → k.mark b ≡ Dirtied → mark b ≡ Dirtied)
      → AreKnown w k.index.at k.journal.durable k.generations mark k.owner
  known_mark mark go = known_map k.generations mark k.owner (λ s r h. record { inside = h.inside; oldest = h.oldest; durable = h.durable; marked = λ d. go (w.bucket r.place) (h.marked d); live = h.live; spent = h.spent })

  known_owner : (owner : ℕ → Owner) → ((t : ℕ) → k.owner t ≡ Spent → owner t ≡ Spent)
      → AreKnown w k.index.at k.journal.durable k.generations k.mark owner
  known_owner owner go = known_map k.generations k.mark owner (λ s r h. record { inside = h.inside; oldest = h.oldest; durable = h.durable; marked = h.marked; live = h.live; spent = λ v. go r.place (h.spent v) })

  known_run : (place count : ℕ) (o : Owner) → ((t : ℕ) → within place count t ≡ true → k.owner t ≡ Spent → o ≡ Spent)
      → AreKnown w k.index.at k.journal.durable k.generations k.mark (put_run k.owner place count o)
  known_run place count o go = known_owner (put_run k.owner place count o) (λ t e. put_run_cases k.owner place count t o (λ y. y ≡ Spent) (λ _. e) (λ is. go t is e))

  -- a bucket that isn't dirty gets another mark
  put_dirty : (b : ℕ) (m : Mark) → k.mark b ≢ Dirtied → (c : ℕ) → k.mark c ≡ Dirtied → put k.mark b m c ≡ Dirtied
  put_dirty b m no_ c e = put_cases k.mark b c m (λ y. y ≡ Dirtied) (λ _. e) (λ is. absurd (no_ (sym (ap k.mark is) ∙ e)))

  pub keep_known : (x : Step) → CanStep w k x
      → AreKnown w (after w k x).index.at (after w k x).journal.durable (after w k x).generations (after w k x).mark (after w k x).owner
  keep_known (Put leaf keys) on = record {
    keys = λ n s le. by_le (suc k.index.count) n (λ z. IfKnown w k.generations mark owner s ((if z then top else k.index.at n) s))
        (λ _. by_hit (hit keys s) (latest k.index s) (λ o. IfKnown w k.generations mark owner s o) (lawful s) (λ _ r e. up s r (f.known.keys k.index.count s newest r e)))
        (λ _ r e. up s r (f.known.keys n s le r e));
  }
    where
      mark : ℕ → Mark
      mark = λ b. with_key (dirties w.bucket keys b) (touches w.bucket keys b) (k.mark b)

      owner : ℕ → Owner
      owner = λ t. if names keys t then Spent else k.owner t

      top : ℕ → Option Pointer
      top = λ s. over (hit keys s) (latest k.index s)

      spent_up : (t : ℕ) → k.owner t ≡ Spent → (if names keys t then Spent else k.owner t) ≡ Spent
      spent_up t e = by_bool (names keys t) (λ z. (if z then Spent else k.owner t) ≡ Spent) (λ _. refl) (λ _. e)

      up : (s : ℕ) (r : Pointer) → IsKnown w k.generations k.mark k.owner s r → IsKnown w k.generations mark owner s r
      up s r h = record {
        inside = h.inside;
        oldest = h.oldest;
        durable = h.durable;
        marked = λ d. still_dirty (dirties w.bucket keys (w.bucket r.place)) (touches w.bucket keys (w.bucket r.place)) (k.mark (w.bucket r.place)) (h.marked d);
        live = h.live;
        spent = λ v. spent_up r.place (h.spent v);
      }

      lawful : (s : ℕ) (o : Option Pointer) → hit keys s ≡ Some o → IfKnown w k.generations mark owner s o
      lawful s o h r e =
          let there : hit keys s ≡ Some (Some r) = h ∙ ap Some e in
          elim (subst (λ y. IsLawful w.bucket k.generations.version k.owner (latest k.index s) y) e (on.lawful s o h)) [
            | inl new ↦ (let old = f.dated.oldest (w.bucket r.place) in let same = f.dated.settled (w.bucket r.place) (f.placed.calm r.place new.0) in let v = new.1 in record {
              inside = (on.inside s o h).0;
              oldest = omega arith;
              durable = omega arith;
              marked = λ d. ap (λ (z : Bool). with_key z (touches w.bucket keys (w.bucket r.place)) (k.mark (w.bucket r.place))) (dirties_there w.bucket keys s r on.whole there d);
              live = λ _. sym v;
              spent = λ _. ap (λ (z : Bool). if z then Spent else k.owner r.place) (names_there keys s r there);
            })
            | inr kept ↦ (let q : Pointer = kept.0 in let y = f.known.keys k.index.count s newest kept.0 kept.1 in
                subst (λ z. IsKnown w k.generations mark owner s z) (sym kept.2) (record {
                  inside = y.inside;
                  oldest = y.oldest;
                  durable = y.durable;
                  marked = λ d. absurd (cc);
                  live = λ d. absurd (cc);
                  spent = λ v. spent_up kept.0.place (y.spent v);
                }))
          ]
  keep_known (Pin i place count) on = known_run place count (Own i) (λ t q e. let o = on.fresh t q in absurd (cc))
  keep_known (Unpin place count) on = known_run place count Spent (λ t q e. refl)
  keep_known (Keep c place count) on = known_run place count (Kept c) (λ t q e. absurd (pinned_spent (k.owner t) e (on t q)))
  keep_known (MakeNode i b) on = record {
    keys = λ n s le r e. let h = f.known.keys n s le r e in record {
      inside = h.inside;
      oldest = h.oldest;
      durable = h.durable;
      marked = λ d. put_cases k.mark b (w.bucket r.place) Metadata (λ y. y ≡ Dirtied) (λ _. h.marked d) (λ is. let x = h.spent (h.live d) in let y = f.placed.unwritten b (subst (λ z. IsUnwritten z) (sym on) tt) r.place is in absurd (cc));
      live = h.live;
      spent = h.spent;
    };
  }
  keep_known (DropNode b) on = known_mark (put k.mark b Unmarked) (put_dirty b Unmarked (λ e. let m = f.marked.marked b (inr (inl on)) in absurd (cc)))
  keep_known (MakeReady b room) on = record {
    keys = λ n s le r e. let h = f.known.keys n s le r e in record {
      inside = h.inside;
      oldest = h.oldest;
      durable = h.durable;
      marked = λ d. put_cases k.mark b (w.bucket r.place) Unmarked (λ y. y ≡ Dirtied) (λ _. h.marked d) (λ is. let x = h.spent (h.live d) in let y = f.placed.unwritten b (subst (λ z. IsUnwritten z) (sym on.0) tt) r.place is in absurd (cc));
      live = h.live;
      spent = h.spent;
    };
  }
  keep_known (ReadyChain room) on = record {
    keys = λ n s le r e. let h = f.known.keys n s le r e in record {
      inside = h.inside;
      oldest = h.oldest;
      durable = h.durable;
      marked = λ d. none_there (w.bucket r.place) r refl (k.chains.of (w.bucket r.place)) refl (h.spent (h.live d)) (h.marked d);
      live = h.live;
      spent = h.spent;
    };
  }
    where
      none_there : (b : ℕ) (r : Pointer) → w.bucket r.place ≡ b → (o : Option ℕ) → k.chains.of b ≡ o
          → k.owner r.place ≡ Spent → k.mark b ≡ Dirtied → mark_at_ready k.chains.ready o (k.mark b) ≡ Dirtied
      none_there b r is None e spent m = m
      none_there b r is (Some c) e spent m = let y = (f.chained.links b c e).fresh r.place is in absurd (cc)
  keep_known (Raise b) on = record {
    keys = λ n s le r e. let h = f.known.keys n s le r e in record {
      inside = h.inside;
      oldest = h.oldest;
      durable = h.durable;
      marked = h.marked;
      live = λ d. put_cases k.generations.version b (w.bucket r.place) (suc (k.generations.version b)) (λ x. x ≡ r.version) (λ _. h.live d) (λ is. let m = h.marked d in let x : k.mark (w.bucket r.place) ≡ k.mark b = ap k.mark is in let y = on.0.free in absurd (cc));
      spent = by_test (w.bucket r.place) b (λ z. (if z then suc (k.generations.version b) else k.generations.version (w.bucket r.place)) ≡ r.version → (if z then Fresh else k.owner r.place) ≡ Spent)
          (λ is v. let a : k.generations.durable (w.bucket r.place) ≡ k.generations.durable b = ap k.generations.durable is in let low = h.durable in let x = f.dated.sealed b in let y = f.dated.version b in absurd (omega arith)) (λ _ v. h.spent v);
    };
  }
  keep_known (SealChain i versions chain) on = known_map _ k.mark k.owner (λ s r h. record { inside = h.inside; oldest = h.oldest; durable = h.durable; marked = h.marked; live = h.live; spent = h.spent })
  keep_known Sealed on = record {
    keys = λ n s le r e. let h = f.known.keys n s (let d = f.counted.durable in omega arith) r e in record {
      inside = h.inside;
      oldest = h.oldest;
      durable = let x = f.dated.sealed (w.bucket r.place) in let y = h.durable in omega arith;
      marked = h.marked;
      live = h.live;
      spent = h.spent;
    };
  }
  keep_known End on = record {
    keys = λ n s le r e.
        let h = f.known.keys n s le r e in
        let u = on.firm in
        let t = f.tracked.tracked s (on.walked s h.inside) n (omega arith) in
        let same : k.round.touched (w.bucket r.place) ≡ false
        → k.round.seen s ≡ Some r = λ un. elim t [
          | inl x ↦ sym x
              ∙ e
          | inr g ↦ (let y = g r e in absurd (cc))
        ] in record {
          inside = h.inside;
          oldest = by_unless (k.round.touched (w.bucket r.place)) (k.generations.last_gc (w.bucket r.place)) (oldest w.bucket (w.bucket r.place) (k.generations.version (w.bucket r.place)) k.round.seen w.size) (λ x. x ≤ r.version)
              (λ _. h.oldest) (λ un. oldest_low w.bucket (w.bucket r.place) (k.generations.version (w.bucket r.place)) k.round.seen w.size s r h.inside (same un) refl);
          durable = h.durable;
          marked = λ d. by_unless (k.round.touched (w.bucket r.place)) (k.mark (w.bucket r.place)) (settled (k.mark (w.bucket r.place)) (found_mark w.bucket (w.bucket r.place) k.round.seen k.round.live w.size)) (λ x. x ≡ Dirtied)
              (λ _. h.marked d)
              (λ un. settled_dirty (k.mark (w.bucket r.place)) _ (h.marked d)
              ∙ mark_by_dirty _ _ (any_at w.size (λ x. dirty_in w.bucket (w.bucket r.place) (k.round.seen x)) s h.inside (dirty_at w.bucket (w.bucket r.place) (k.round.seen s) r (same un) d refl)));
          live = h.live;
          spent = h.spent;
        };
  }
  keep_known x on = f.known

  -- more buckets are touched
  more : (o seen : Option Pointer) (extra : ℕ → Bool) → IsSameOrTouched w.bucket o seen k.round.touched
      → IsSameOrTouched w.bucket o seen (λ b. extra b || k.round.touched b)
  more o seen extra h = elim h [ inl e ↦ inl e | inr g ↦ inr (λ r e. or_right (extra (w.bucket r.place)) _ (g r e)) ]

  tracked_more : (extra : ℕ → Bool)
      → IsTracked w.bucket k.index.at (λ b. extra b || k.round.touched b) k.round.walked k.round.seen k.round.upto
  tracked_more extra = record { tracked = λ s on n le. more (k.index.at n s) (k.round.seen s) extra (f.tracked.tracked s on n le) }

  pub keep_tracked : (x : Step) → CanStep w k x
      → IsTracked w.bucket (after w k x).index.at (after w k x).round.touched (after w k x).round.walked (after w k x).round.seen (after w k x).round.upto
  keep_tracked (Put leaf keys) on = record {
    tracked = λ s walked n le. by_le (suc k.index.count) n (λ z. IsSameOrTouched w.bucket ((if z then top else k.index.at n) s) (k.round.seen s) (λ b. touches w.bucket keys b || k.round.touched b))
        (λ _. by_hit (hit keys s) (latest k.index s) (λ o. IsSameOrTouched w.bucket o (k.round.seen s) (λ b. touches w.bucket keys b || k.round.touched b))
        (λ o h. inr (λ r e. or_left _ _ (touches_there w.bucket keys s r on.whole (h ∙ ap Some e))))
        (λ _. more (latest k.index s) (k.round.seen s) (touches w.bucket keys) (f.tracked.tracked s walked k.index.count f.counted.walk)))
        (λ _. more (k.index.at n s) (k.round.seen s) (touches w.bucket keys) (f.tracked.tracked s walked n le));
  }
    where
      top : ℕ → Option Pointer
      top = λ s. over (hit keys s) (latest k.index s)
  keep_tracked (Regroup leaf changed counts last) on = record {
    tracked = λ s walked n le. by_bool (counts s) (λ z. (z || k.round.walked s) ≡ true
        → IsSameOrTouched w.bucket (k.index.at n s) (k.round.seen s) (λ b. found b || k.round.touched b))
        (λ is _. inr (λ r e.
        let x = on.later s in let y = on.waits s is in
        let at : latest k.index s ≡ Some r = sym (f.still.still n s (omega arith)) ∙ e in
        or_left _ _ (any_at w.size (λ s. counts s && points_into w.bucket (w.bucket r.place) (latest k.index s)) s (f.known.keys k.index.count s newest r at).inside
        (both_true (counts s) _ is (ap (points_into w.bucket (w.bucket r.place)) at ∙ by_test (w.bucket r.place) (w.bucket r.place) (λ z. z ≡ true) (λ _. refl) (λ ne. absurd (ne refl)))))))
        (λ _ h. more (k.index.at n s) (k.round.seen s) found (f.tracked.tracked s h n (omega arith))) walked;
  }
    where
      found : ℕ → Bool
      found = λ b. any w.size (λ s. counts s && points_into w.bucket b (latest k.index s))
  keep_tracked (MakeNode i b) on = tracked_more (λ c. c == b)
  keep_tracked (ReadyChain room) on = tracked_more (λ b. is_chain (k.chains.of b) (suc k.chains.ready))
  keep_tracked Begin on = record { tracked = λ s e. absurd (cc) }
  keep_tracked (Walk leaf) on = record {
    tracked = λ s. by_test (k.index.leaf s) leaf (λ z. (z || k.round.walked s) ≡ true → (n : ℕ)
        → max k.round.upto (k.index.changed leaf) ≤ n
        → IsSameOrTouched w.bucket (k.index.at n s) (if z then latest k.index s else k.round.seen s) k.round.touched)
        (λ is _ n le. inl (f.still.still n s (let x : k.index.changed (k.index.leaf s) ≡ k.index.changed leaf = ap k.index.changed is in omega arith)))
        (λ ne walked n le. f.tracked.tracked s walked n (omega arith));
  }
  keep_tracked x on = f.tracked

  pub keep_within : (x : Step) → CanStep w k x
      → IsWithin w.bucket (after w k x).generations.last_gc (after w k x).generations.version (after w k x).round.going (after w k x).round.seen
  keep_within (Raise b) on = record {
    low = f.within.low;
    high = λ s r e g. let h = f.within.high s r e g in put_cases k.generations.version b (w.bucket r.place) (suc (k.generations.version b)) (λ x. r.version ≤ x) (λ _. h) (λ is. let x : k.generations.version (w.bucket r.place) ≡ k.generations.version b = ap k.generations.version is in omega arith);
  }
  keep_within Begin on = record { low = λ s r e. absurd (cc); high = λ s r e. absurd (cc) }
  keep_within (Walk leaf) on = record {
    low = λ s. by_test (k.index.leaf s) leaf (λ z. (r : Pointer)
        → (if z then latest k.index s else k.round.seen s) ≡ Some r → k.round.going ≡ true
        → k.generations.last_gc (w.bucket r.place) ≤ r.version)
        (λ is r e g. (f.known.keys k.index.count s newest r e).oldest) (λ _. f.within.low s);
    high = λ s. by_test (k.index.leaf s) leaf (λ z. (r : Pointer)
        → (if z then latest k.index s else k.round.seen s) ≡ Some r → k.round.going ≡ true
        → r.version ≤ k.generations.version (w.bucket r.place))
        (λ is r e g. let h = (f.known.keys k.index.count s newest r e).durable in let x = f.dated.sealed (w.bucket r.place) in let y = f.dated.version (w.bucket r.place) in omega arith) (λ _. f.within.high s);
  }
  keep_within End on = record { low = λ s r e g. absurd (cc); high = λ s r e g. absurd (cc) }
  keep_within Drop on = record { low = λ s r e g. absurd (cc); high = λ s r e g. absurd (cc) }
  keep_within x on = f.within

  pub keep : (x : Step) → CanStep w k x → IsInOrder w (after w k x)
  keep x on = record {
    counted = keep_counted w k f x on;
    dated = keep_dated w k f x on;
    placed = keep_placed w k f x on;
    chained = keep_chained w k f x on;
    marked = keep_marked w k f x on;
    known = keep_known x on;
    still = keep_still w k f x on;
    tracked = keep_tracked x on;
    within = keep_within x on;
  }
