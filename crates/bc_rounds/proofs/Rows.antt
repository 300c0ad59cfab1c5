-- What a row that was counted adds to a walk.
use Rattle.std.proofs.Common.{◌≡◌, ◌≢◌, ◌⊎◌, inl, inr, ℕ, ◌+◌, ◌-◌, ◌%◌, ◌<◌, ◌≤◌, Bool, true, false, List, Option, Some, None, length, refl, sym, ap, ◌∙◌, subst, arith, get_or-set_same, get_or-set_other}
use Rattle.std.specs.Prelude.{◌^◌, ◌==◌, ◌&&◌, ◌||◌, MatchOption, if◌then◌else◌, min, nat_lt}
use Rattle.std.proofs.lemmas.Bool.{cases_eq, cases_lt, lt-ltb}
use Rattle.bc_books.proofs.Cases.{any_at, any_same}
use Rattle.bc_books.specs.Books.{Setup}
use Rattle.bc_books.specs.Index.{Pointer, is_dirty}
use Rattle.bc_books.specs.Marks as books
use Rattle.bc_books.specs.Marks.{any, dirty_in, found_mark, mark_by, points_into}
use Rattle.bc_bucket.specs.Walk.{counted, found_at, is_stale, mark_with, none_found, older, walked}
use Rattle.bc_bucket.specs.declared.bucket.Mark.{Mark}
use Rattle.bc_bucket.specs.declared.bucket.Mark.TheVariants as marks
use Rattle.bc_bucket.specs.declared.walk.Found.{Found}
use Rattle.bc_bucket.specs.declared.walk.Reference.{Reference}
use Rattle.bc_facts.proofs.Place.{by_lt}
use Rattle.bc_key.specs.Generation.{behind}
use Rattle.bc_machine.specs.Containers.{IsFoundFor, IsOldestSeen, IsSeenIn, mark_of}
use Rattle.bc_model.proofs.Cases.{by_test}
use Rattle.bc_rounds.specs.Rows.{AreFound, AreNear, IsNear, IsRowIn, LawAlike, LawRow, Sight}
use Rattle.bc_rounds.proofs.Bytes.{behind_near, not_stale, stale}

-- ---- some sector

by_on : (on : ℕ → Bool) (s : ℕ) {A : Type 0} → (on s ≡ true → A) → (on s ≡ false → A) → A
by_on on s if_on if_off = go (on s) if_on if_off
  where
    go : (b : Bool) {A : Type 0} → (b ≡ true → A) → (b ≡ false → A) → A
    go true if_on if_off = if_on refl
    go false if_on if_off = if_off refl

-- of sectors some of which have this, and the others what they had
some_with : (n : ℕ) (f g : ℕ → Bool) (on : ℕ → Bool) (c : Bool) (one : ℕ) → one < n → on one ≡ true
    → ((s : ℕ) → on s ≡ true → f s ≡ c) → ((s : ℕ) → on s ≡ true → g s ≡ false)
    → ((s : ℕ) → on s ≡ false → f s ≡ g s) → any n f ≡ (c || any n g)
some_with n f g on true one within is there not others = any_at n f one within (there one is)
some_with n f g on false one within is there not others = any_same n f g
    (λ s less. by_on on s (λ here. there s here ∙ sym (not s here)) (λ off. others s off))

and_false : (b : Bool) → (b && false) ≡ false
and_false true = refl
and_false false = refl

not_less : (a b : ℕ) → b ≤ a → nat_lt a b ≡ false
not_less a b from = by_lt a b (λ t. t ≡ false) (λ less. absurd (omega (arith, less, from)))
    (λ _. refl)

none_some : (r : Pointer) → None ≡ Some r → ⊥
none_some r e = cc

same_some : (r t : Pointer) → Some r ≡ Some t → r ≡ t
same_some r t e = cc

-- ---- marks

-- the mark with one more live row
live_mark : (m : Mark) (d a l : Bool) → mark_of m ≡ mark_by a l
    → mark_of (mark_with d m) ≡ mark_by (d || a) true
live_mark m true a l is = refl
live_mark marks.None false true l is = absurd (go l is)
  where
    go : (l : Bool) → books.Unmarked ≡ mark_by true l → ⊥
    go l e = cc
live_mark marks.None false false l is = refl
live_mark marks.Reclaimable false true l is = absurd (go l is)
  where
    go : (l : Bool) → books.Reclaimable ≡ mark_by true l → ⊥
    go l e = cc
live_mark marks.Reclaimable false false l is = refl
live_mark marks.Dirty false true l is = refl
live_mark marks.Dirty false false l is = absurd (go l is)
  where
    go : (l : Bool) → books.Dirtied ≡ mark_by false l → ⊥
    go true e = cc
    go false e = cc
live_mark marks.Metadata false a l is = absurd (go a l is)
  where
    go : (a l : Bool) → books.Metadata ≡ mark_by a l → ⊥
    go true l e = cc
    go false true e = cc
    go false false e = cc

module _ (w : Setup) (before count q now own : ℕ) (x y : Sight) (walk : List Found) (ref : Reference)
    (long : length walk ≡ count) (inside : before + q < count) (close : AreNear w x q now)
    (h : AreFound w before count x walk) (row : IsRowIn w x y q now own ref) where
  abbrev on : ℕ → Bool
  on = row.on

  -- ---- what is seen of other buckets

  to_it : (j s : ℕ) (r : Pointer) → on s ≡ true → IsSeenIn w y.seen j s r → q ≡ j
  to_it j s r is seen = let new = row.new s is in
      sym new.2 ∙ ap (λ (t : Pointer). w.bucket t.place) (same_some new.0 r (sym new.1 ∙ seen.saw))
      ∙ seen.bucket

  was_seen : (j s : ℕ) (r : Pointer) → on s ≡ false → IsSeenIn w y.seen j s r
      → IsSeenIn w x.seen j s r
  was_seen j s r off seen = record {
    within = seen.within;
    saw = sym (row.others s off).0 ∙ seen.saw;
    bucket = seen.bucket;
  }

  not_new : (j s : ℕ) (r : Pointer) → IsSeenIn w x.seen j s r → on s ≡ true → ⊥
  not_new j s r seen is = none_some r (sym (row.unseen s is) ∙ seen.saw)

  still_seen : (j s : ℕ) (r : Pointer) → IsSeenIn w x.seen j s r → IsSeenIn w y.seen j s r
  still_seen j s r seen = by_on on s (λ is. absurd (not_new j s r seen is)) (λ off. record {
    within = seen.within;
    saw = (row.others s off).0 ∙ seen.saw;
    bucket = seen.bucket;
  })

  -- ---- tests of one sector

  dirty_on : (s : ℕ) → on s ≡ true → dirty_in w.bucket q (y.seen s) ≡ ref.dirty
  dirty_on s is = let new = row.new s is in ap (λ o. dirty_in w.bucket q o) new.1
      ∙ ap (λ b. is_dirty new.0.kind && b) (by_test (w.bucket new.0.place) q (λ b. b ≡ true)
      (λ _. refl) (λ ne. absurd (ne new.2)))
      ∙ and_true (is_dirty new.0.kind) ∙ new.4
    where
      and_true : (b : Bool) → (b && true) ≡ b
      and_true true = refl
      and_true false = refl

  points_on : (s : ℕ) → on s ≡ true → points_into w.bucket q (y.seen s) ≡ true
  points_on s is = let new = row.new s is in ap (λ o. points_into w.bucket q o) new.1
      ∙ by_test (w.bucket new.0.place) q (λ b. b ≡ true) (λ _. refl) (λ ne. absurd (ne new.2))

  live_on : (s : ℕ) → on s ≡ true → (y.live s && points_into w.bucket q (y.seen s)) ≡ (now == row.old)
  live_on s is = ap (λ b. b && points_into w.bucket q (y.seen s)) (row.live s is)
      ∙ ap (λ b. (now == row.old) && b) (points_on s is) ∙ and_true (now == row.old)
    where
      and_true : (b : Bool) → (b && true) ≡ b
      and_true true = refl
      and_true false = refl

  dirty_was : (j s : ℕ) → on s ≡ true → dirty_in w.bucket j (x.seen s) ≡ false
  dirty_was j s is = ap (λ o. dirty_in w.bucket j o) (row.unseen s is)

  live_was : (j s : ℕ) → on s ≡ true → (x.live s && points_into w.bucket j (x.seen s)) ≡ false
  live_was j s is = ap (λ o. x.live s && points_into w.bucket j o) (row.unseen s is)
      ∙ and_false (x.live s)

  dirty_off : (j s : ℕ) → on s ≡ false
      → dirty_in w.bucket j (y.seen s) ≡ dirty_in w.bucket j (x.seen s)
  dirty_off j s off = ap (λ o. dirty_in w.bucket j o) (row.others s off).0

  live_off : (j s : ℕ) → on s ≡ false → (y.live s && points_into w.bucket j (y.seen s))
      ≡ (x.live s && points_into w.bucket j (x.seen s))
  live_off j s off = ap (λ b. b && points_into w.bucket j (y.seen s)) (row.others s off).1
      ∙ ap (λ o. x.live s && points_into w.bucket j o) (row.others s off).0

  -- ---- another bucket

  dirty_else : (j : ℕ) → j ≢ q → (s : ℕ) → on s ≡ true → dirty_in w.bucket j (y.seen s) ≡ false
  dirty_else j ne s is = let new = row.new s is in ap (λ o. dirty_in w.bucket j o) new.1
      ∙ ap (λ b. is_dirty new.0.kind && b) (by_test (w.bucket new.0.place) j (λ b. b ≡ false)
      (λ e. absurd (ne (sym e ∙ new.2))) (λ _. refl))
      ∙ and_false (is_dirty new.0.kind)

  live_else : (j : ℕ) → j ≢ q → (s : ℕ) → on s ≡ true
      → (y.live s && points_into w.bucket j (y.seen s)) ≡ false
  live_else j ne s is = let new = row.new s is in
      ap (λ o. y.live s && points_into w.bucket j o) new.1
      ∙ ap (λ b. y.live s && b) (by_test (w.bucket new.0.place) j (λ b. b ≡ false)
      (λ e. absurd (ne (sym e ∙ new.2))) (λ _. refl))
      ∙ and_false (y.live s)

  mark_else : (j : ℕ) → j ≢ q → found_mark w.bucket j x.seen x.live w.size
      ≡ found_mark w.bucket j y.seen y.live w.size
  mark_else j ne =
      ap (λ a. mark_by a (any w.size (λ s. x.live s && points_into w.bucket j (x.seen s))))
      (any_same w.size (λ s. dirty_in w.bucket j (x.seen s)) (λ s. dirty_in w.bucket j (y.seen s))
      (λ s less. by_on on s (λ is. dirty_was j s is ∙ sym (dirty_else j ne s is))
      (λ off. sym (dirty_off j s off))))
      ∙ ap (mark_by (any w.size (λ s. dirty_in w.bucket j (y.seen s))))
      (any_same w.size (λ s. x.live s && points_into w.bucket j (x.seen s))
      (λ s. y.live s && points_into w.bucket j (y.seen s))
      (λ s less. by_on on s (λ is. live_was j s is ∙ sym (live_else j ne s is))
      (λ off. sym (live_off j s off))))

  seen_else : (j : ℕ) → j ≢ q → (s : ℕ) (r : Pointer) → IsSeenIn w y.seen j s r
      → IsSeenIn w x.seen j s r
  seen_else j ne s r seen = by_on on s (λ is. absurd (ne (sym (to_it j s r is seen))))
      (λ off. was_seen j s r off seen)

  oldest_else : (j : ℕ) → j ≢ q → (o : Option ℕ)
      → MatchOption o ((s : ℕ) (r : Pointer) → IsSeenIn w x.seen j s r → ⊥)
      (λ g. IsOldestSeen w x.seen j g)
      → MatchOption o ((s : ℕ) (r : Pointer) → IsSeenIn w y.seen j s r → ⊥)
      (λ g. IsOldestSeen w y.seen j g)
  oldest_else j ne None none = λ s r seen. none s r (seen_else j ne s r seen)
  oldest_else j ne (Some g) one = record {
    sector = one.sector;
    pointer = one.pointer;
    one = still_seen j one.sector one.pointer one.one;
    byte = one.byte;
    none_older = λ s r seen. one.none_older s r (seen_else j ne s r seen);
  }

  else_stands : (j : ℕ) → j ≢ q → (f : Found) → IsFoundFor w x.seen x.live j f
      → IsFoundFor w y.seen y.live j f
  else_stands j ne f was = record {
    mark = was.mark ∙ mark_else j ne;
    oldest = oldest_else j ne f.last_gc was.oldest;
  }

  -- ---- the row's bucket

  abbrev D : Bool
  D = any w.size (λ s. dirty_in w.bucket q (x.seen s))

  abbrev L : Bool
  L = any w.size (λ s. x.live s && points_into w.bucket q (x.seen s))

  mark_then : found_mark w.bucket q y.seen y.live w.size
      ≡ mark_by (ref.dirty || D) ((now == row.old) || L)
  mark_then =
      ap (λ a. mark_by a (any w.size (λ s. y.live s && points_into w.bucket q (y.seen s))))
      (some_with w.size (λ s. dirty_in w.bucket q (y.seen s)) (λ s. dirty_in w.bucket q (x.seen s)) on
      ref.dirty row.one row.within row.one_on dirty_on (dirty_was q) (dirty_off q))
      ∙ ap (mark_by (ref.dirty || D))
      (some_with w.size (λ s. y.live s && points_into w.bucket q (y.seen s))
      (λ s. x.live s && points_into w.bucket q (x.seen s)) on (now == row.old) row.one row.within
      row.one_on live_on (live_was q) (live_off q))

  -- the row's own version, where none older was seen
  first_seen : (g : ℕ) → g ≡ row.old % 256
      → ((s : ℕ) (r : Pointer) → IsSeenIn w x.seen q s r → row.old ≤ r.version)
      → IsOldestSeen w y.seen q g
  first_seen g is later = let new = row.new row.one row.one_on in record {
    sector = row.one;
    pointer = new.0;
    one = record { within = row.within; saw = new.1; bucket = new.2 };
    byte = is ∙ ap (λ n. n % 256) (sym new.3);
    none_older = λ s r seen. subst (λ n. n ≤ r.version) (sym new.3)
        (by_on on s (λ here. at_least s r here seen)
        (λ off. later s r (was_seen q s r off seen)));
  }
    where
      at_least : (s : ℕ) (r : Pointer) → on s ≡ true → IsSeenIn w y.seen q s r → row.old ≤ r.version
      at_least s r here seen = let new = row.new s here in
          let same = ap (λ (t : Pointer). t.version) (same_some new.0 r (sym new.1 ∙ seen.saw)) in
          let old = new.3 in omega (arith, same, old)

  -- or the one that was seen before
  kept_seen : (g : ℕ) (one : IsOldestSeen w x.seen q g) → one.pointer.version ≤ row.old
      → IsOldestSeen w y.seen q g
  kept_seen g one least = record {
    sector = one.sector;
    pointer = one.pointer;
    one = still_seen q one.sector one.pointer one.one;
    byte = one.byte;
    none_older = λ s r seen. by_on on s (λ here. at_least s r here seen)
        (λ off. one.none_older s r (was_seen q s r off seen));
  }
    where
      at_least : (s : ℕ) (r : Pointer) → on s ≡ true → IsSeenIn w y.seen q s r
          → one.pointer.version ≤ r.version
      at_least s r here seen = let new = row.new s here in
          let same = ap (λ (t : Pointer). t.version) (same_some new.0 r (sym new.1 ∙ seen.saw)) in
          let old = new.3 in omega (arith, same, old, least)

  far : behind own ref.generation ≡ now - row.old
  far = ap (λ n. behind n ref.generation) row.own_is ∙ ap (behind (now % 256)) row.generation
      ∙ behind_near now row.old row.near

  oldest_then : (o : Option ℕ)
      → MatchOption o ((s : ℕ) (r : Pointer) → IsSeenIn w x.seen q s r → ⊥)
      (λ g. IsOldestSeen w x.seen q g)
      → IsOldestSeen w y.seen q (older own o ref.generation)
  oldest_then None none = first_seen ref.generation row.generation
      (λ s r seen. absurd (none s r seen))
  oldest_then (Some g) one =
      let known = close one.sector one.pointer one.one in
      let back : behind own g ≡ now - one.pointer.version =
      ap (λ n. behind n g) row.own_is ∙ ap (behind (now % 256)) one.byte
      ∙ behind_near now one.pointer.version known in
      by (cases_lt (behind own g) (behind own ref.generation)) known back
    where
      by : (behind own g < behind own ref.generation) ⊎ (behind own ref.generation ≤ behind own g)
          → IsNear now one.pointer.version → behind own g ≡ now - one.pointer.version
          → IsOldestSeen w y.seen q (older own (Some g) ref.generation)
      by (inl less) known back =
          let more = far in let past = row.near.past in let its = known.past in
          subst (λ c. IsOldestSeen w y.seen q (if c then ref.generation else g))
          (sym (lt-ltb (behind own g) (behind own ref.generation) less))
          (first_seen ref.generation row.generation
          (λ s r seen. (let up = one.none_older s r seen in
          omega (arith, less, more, back, past, its, up))))
      by (inr from) known back =
          let more = far in let past = row.near.past in let its = known.past in
          subst (λ c. IsOldestSeen w y.seen q (if c then ref.generation else g))
          (sym (not_less (behind own g) (behind own ref.generation) from))
          (kept_seen g one (omega (arith, from, more, back, past, its)))

  abbrev found : Found
  found = found_at walk (before + q)

  -- what is counted of a stale row, and of a live one
  abbrev counted_if : Bool → Found
  counted_if c = if c
      then record found { last_gc = Some (older own found.last_gc ref.generation) }
      else record {
        mark = mark_with ref.dirty found.mark;
        used = min (found.used + ref.sectors) (2 ^ 32 - 1);
        last_gc = Some (older own found.last_gc ref.generation);
      }

  its_stands : IsFoundFor w y.seen y.live q (counted own ref found)
  its_stands = go (cases_eq now row.old)
    where
      was : IsFoundFor w x.seen x.live q found
      was = h q inside

      dirty_not : now ≢ row.old → ref.dirty ≡ false
      dirty_not ne = by ref.dirty row.dirty ne
        where
          by : (b : Bool) → (b ≡ true → now ≡ row.old) → now ≢ row.old → b ≡ false
          by true same ne = absurd (ne (same refl))
          by false same ne = refl

      test_same : now ≡ row.old → (now == row.old) ≡ true
      test_same e = by_test now row.old (λ b. b ≡ true) (λ _. refl) (λ ne. absurd (ne e))

      test_other : now ≢ row.old → (now == row.old) ≡ false
      test_other ne = by_test now row.old (λ b. b ≡ false) (λ e. absurd (ne e)) (λ _. refl)

      fresh : now ≡ row.old → is_stale own ref.generation ≡ false
      fresh e = ap (λ n. is_stale n ref.generation) row.own_is
          ∙ ap (is_stale (now % 256)) row.generation ∙ not_stale now row.old row.near e

      past : now ≢ row.old → is_stale own ref.generation ≡ true
      past ne = ap (λ n. is_stale n ref.generation) row.own_is
          ∙ ap (is_stale (now % 256)) row.generation ∙ stale now row.old row.near ne

      live_then : now ≡ row.old → mark_of (mark_with ref.dirty found.mark)
          ≡ found_mark w.bucket q y.seen y.live w.size
      live_then e = live_mark found.mark ref.dirty D L was.mark
          ∙ ap (λ b. mark_by (ref.dirty || D) (b || L)) (sym (test_same e)) ∙ sym mark_then

      stale_then : now ≢ row.old → mark_of found.mark
          ≡ found_mark w.bucket q y.seen y.live w.size
      stale_then ne = was.mark
          ∙ ap (λ b. mark_by (b || D) L) (sym (dirty_not ne))
          ∙ ap (λ b. mark_by (ref.dirty || D) (b || L)) (sym (test_other ne)) ∙ sym mark_then

      go : (now ≡ row.old) ⊎ (now ≢ row.old)
          → IsFoundFor w y.seen y.live q (counted own ref found)
      go (inl e) = subst (λ c. IsFoundFor w y.seen y.live q (counted_if c)) (sym (fresh e)) (record {
        mark = live_then e;
        oldest = oldest_then found.last_gc was.oldest;
      })
      go (inr ne) = subst (λ c. IsFoundFor w y.seen y.live q (counted_if c)) (sym (past ne)) (record {
        mark = stale_then ne;
        oldest = oldest_then found.last_gc was.oldest;
      })

  stands : (j : ℕ) → before + j < count → (j ≡ q) ⊎ (j ≢ q)
      → IsFoundFor w y.seen y.live j (found_at (walked (before + q) own ref walk) (before + j))
  stands j there (inl e) = subst (λ n. IsFoundFor w y.seen y.live n
      (found_at (walked (before + q) own ref walk) (before + n))) (sym e)
      (subst (IsFoundFor w y.seen y.live q)
      (sym (get_or-set_same walk (before + q) (counted own ref found) none_found
      (omega (arith, long, inside)))) its_stands)
  stands j there (inr ne) = subst (IsFoundFor w y.seen y.live j)
      (sym (get_or-set_other walk (before + q) (before + j) (counted own ref found) none_found
      (λ e. ne (omega (arith, e))))) (else_stands j ne (found_at walk (before + j)) (h j there))

pub law_row : LawRow
law_row w before count q now own x y walk ref long inside close h row =
    λ j there. stands w before count q now own x y walk ref long inside close h row j there
    (cases_eq j q)

-- ---- sights that are alike

module _ (w : Setup) (x y : Sight) (seen : (s : ℕ) → y.seen s ≡ x.seen s)
    (live : (s : ℕ) → (y.live s ≡ x.live s) ⊎ (x.seen s ≡ None)) where
  same_dirty : (j s : ℕ) → dirty_in w.bucket j (x.seen s) ≡ dirty_in w.bucket j (y.seen s)
  same_dirty j s = ap (λ o. dirty_in w.bucket j o) (sym (seen s))

  same_live : (j s : ℕ) → (x.live s && points_into w.bucket j (x.seen s))
      ≡ (y.live s && points_into w.bucket j (y.seen s))
  same_live j s = go (live s)
    where
      go : (y.live s ≡ x.live s) ⊎ (x.seen s ≡ None)
          → (x.live s && points_into w.bucket j (x.seen s))
          ≡ (y.live s && points_into w.bucket j (y.seen s))
      go (inl same) = ap (λ b. b && points_into w.bucket j (x.seen s)) (sym same)
          ∙ ap (λ o. y.live s && points_into w.bucket j o) (sym (seen s))
      go (inr none) = ap (λ o. x.live s && points_into w.bucket j o) none ∙ and_false (x.live s)
          ∙ sym (ap (λ o. y.live s && points_into w.bucket j o) (seen s ∙ none)
          ∙ and_false (y.live s))

  to_y : (j s : ℕ) (r : Pointer) → IsSeenIn w x.seen j s r → IsSeenIn w y.seen j s r
  to_y j s r one = record { within = one.within; saw = seen s ∙ one.saw; bucket = one.bucket }

  to_x : (j s : ℕ) (r : Pointer) → IsSeenIn w y.seen j s r → IsSeenIn w x.seen j s r
  to_x j s r one = record { within = one.within; saw = sym (seen s) ∙ one.saw; bucket = one.bucket }

  oldest_alike : (j : ℕ) (o : Option ℕ)
      → MatchOption o ((s : ℕ) (r : Pointer) → IsSeenIn w x.seen j s r → ⊥)
      (λ g. IsOldestSeen w x.seen j g)
      → MatchOption o ((s : ℕ) (r : Pointer) → IsSeenIn w y.seen j s r → ⊥)
      (λ g. IsOldestSeen w y.seen j g)
  oldest_alike j None none = λ s r one. none s r (to_x j s r one)
  oldest_alike j (Some g) one = record {
    sector = one.sector;
    pointer = one.pointer;
    one = to_y j one.sector one.pointer one.one;
    byte = one.byte;
    none_older = λ s r later. one.none_older s r (to_x j s r later);
  }

  alike : (j : ℕ) (f : Found) → IsFoundFor w x.seen x.live j f → IsFoundFor w y.seen y.live j f
  alike j f was = record {
    mark = was.mark
        ∙ ap (λ a. mark_by a (any w.size (λ s. x.live s && points_into w.bucket j (x.seen s))))
        (any_same w.size (λ s. dirty_in w.bucket j (x.seen s))
        (λ s. dirty_in w.bucket j (y.seen s)) (λ s less. same_dirty j s))
        ∙ ap (mark_by (any w.size (λ s. dirty_in w.bucket j (y.seen s))))
        (any_same w.size (λ s. x.live s && points_into w.bucket j (x.seen s))
        (λ s. y.live s && points_into w.bucket j (y.seen s)) (λ s less. same_live j s));
    oldest = oldest_alike j f.last_gc was.oldest;
  }

pub law_alike : LawAlike
law_alike w before count x y walk seen live h = λ j there.
    alike w x y seen live j (found_at walk (before + j)) (h j there)
