-- A write through the cache.
use Rattle.std.proofs.Common.{◌≡◌, ◌≢◌, inl, ℕ, suc, ◌≤◌, true, false, List, ◌∷◌, length, Option, Some, None, refl, sym, ap, ◌∙◌, subst, arith}
use Rattle.bc_model.specs.Sector.{Value, at_run, unless, Gives}
use Rattle.bc_model.specs.History.{now, is_write, AllowedFrom}
use Rattle.bc_model.specs.declared.history.Entry.{Entry}
use Rattle.bc_model.specs.declared.history.Entry.TheVariants.{Write}
use Rattle.bc_model.proofs.Grown.{allowed_end}
use Rattle.bc_disk.specs.Device.{Among, Only}
use Rattle.bc_books.specs.Index.{Dirty, Pointer, Key, put, from_on, hit}
use Rattle.bc_books.specs.Books.{Books}
use Rattle.bc_books.specs.Invariant.{IsInOrder}
use Rattle.bc_books.proofs.Cases.{some_ref}
use Rattle.bc_data.specs.Seats.{Seat, Covers, nothing, new_claim, with_write, unless_run}
use Rattle.bc_data.specs.Data.{Opening, State, InsertWrite, claim_of}
use Rattle.bc_data.specs.Enabled.{IsBacked, Fits, IsEnabled}
use Rattle.bc_data.specs.After.{last_write, after}
use Rattle.bc_data.proofs.Runs.{miss}
use Rattle.bc_data.specs.Invariant.{IsTruthful}
use Rattle.bc_data.proofs.Truth.{counts_of}
use Rattle.bc_data.proofs.Kept.{each_seat, not_both}
use Rattle.bc_data.proofs.Inserted.{fits_some}
use Rattle.bc_crash.specs.Tables.{Tables, on_write, tables_after}
use Rattle.bc_crash.specs.Invariant.{IsGood, any_flush, IsTable, IsFlushKnown, IsLastKnown, IsSeatKnown, IsHarmless}
use Rattle.bc_crash.proofs.Reached.{write_begun}
use Rattle.bc_crash.proofs.Good.{good_now, good_silent, good_given, table_need, table_safe, seat_grown}
use Rattle.bc_crash.proofs.Kept.{put_there, run_value, first_within}
use Rattle.bc_crash.proofs.Kept.{all_few, by_put, changed_few, floor_next, goes_on, grown_table, no_done, none_fine, old_index, on_hit, on_miss, on_old, other_write, safe_on, stands_top, zeros}

module _ (w : Opening) (st : State) (inv : IsTruthful w st) (table : Tables)
    (c : IsHarmless w st table) where
  abbrev k : Books
  k = st.books

  abbrev H : List Entry
  H = st.history

  f : IsInOrder w.books st.books
  f = inv.books

  low : k.journal.durable ≤ k.index.count
  low = let x = (counts_of w.books k f) in let x0 = x.0 in let x1 = x.1 in omega arith

  module _ (i line leaf : ℕ) (keys : List Key) (first : ℕ) (vs : List Value)
      (on : IsEnabled w st i (InsertWrite line leaf keys first vs)) where
    wmine : Gives first vs (λ s x. Covers (claim_of st i) s)
    wmine s x h = (fits_some w st inv i s (hit keys s) (at_run first vs s) x (on.can.fits s) h).0

    e0 : Entry
    e0 = Write i line first vs

    need' : ℕ → ℕ → ℕ
    need' = on_write st.history table.need first vs (suc k.index.count)

    wrote_old : (s g : ℕ) → g ≤ length st.history
        → (on_write st.history table.need first vs (suc k.index.count) s g ≡ table.need s g)
        × (on_write st.history table.safe first vs true s g ≡ table.safe s g)
    wrote_old s g le = (
      on_old w st inv table c table.need first vs (suc k.index.count) s g le,
      on_old w st inv table c table.safe first vs true s g le,
    )

    no_hit : (s : ℕ) → at_run first vs s ≡ None → hit keys s ≡ None
    no_hit s e = go (hit keys s) (at_run first vs s) (on.can.fits s) e
      where
        go : (o : Option (Option Pointer)) (ov : Option Value) → Fits w st i s o ov → ov ≡ None
            → o ≡ None
        go None ov h e = refl
        go (Some o) None h e = absurd h
        go (Some o) (Some x) h e = absurd (cc)

    write_table : (s : ℕ) → IsTable (put k.index.changed leaf (suc k.index.count) (k.index.leaf s))
        (suc (length st.history)) (on_write st.history table.need first vs (suc k.index.count) s)
        (on_write st.history table.safe first vs true s)
    write_table s = go (at_run first vs s) refl
      where
        here_leaf : (x : Value) → at_run first vs s ≡ Some x → put k.index.changed leaf
            (suc k.index.count) (k.index.leaf s) ≡ suc k.index.count
        here_leaf x e = let g = fits_some w st inv i s (hit keys s) (at_run first vs s) x
            (on.can.fits s) e in subst (λ l. put k.index.changed leaf
            (suc k.index.count) l ≡ suc k.index.count) (sym (on.steps.0.inside s _ g.1.1).1)
            (put_there k.index.changed leaf (suc k.index.count))

        go : (o : Option Value) → at_run first vs s ≡ o → IsTable
            (put k.index.changed leaf (suc k.index.count) (k.index.leaf s))
            (suc (length st.history)) (unless_run o (table.need s)
            (from_on (suc (length st.history)) (table.need s) (suc k.index.count)))
            (unless_run o (table.safe s) (from_on (suc (length st.history)) (table.safe s) true))
        go None e = (grown_table w st inv table c) leaf s (suc (length st.history)) (omega arith)
        go (Some x) e = subst (λ n. IsTable n (suc (length st.history))
            (from_on (suc (length st.history)) (table.need s) (suc k.index.count))
            (from_on (suc (length st.history)) (table.safe s) true)) (sym (here_leaf x e))
            (table_safe _ _ _ (table.safe s) true
            (table_need _ _ _ (table.need s) (table.safe s)
            (let q = (changed_few w st inv table c) (k.index.leaf s) in omega arith) (c.tables s)))

    -- an old index: what it shows is as right as it was, and to a flush after the Write it doesn't answer
    old_good : (s n : ℕ) (ok ok' : ℕ → Type 0) (src : Value → Type 0) → n ≤ k.index.count
        → ((g : ℕ) → g ≤ length st.history → ok' g → ok g)
        → (at_run first vs s ≡ None → ok' (suc (length st.history)) → ok (length st.history))
        → IsGood w.image st.history s n (table.need s) ok src
        → IsGood w.image (Write i line first vs ∷ st.history) s n
        (on_write st.history table.need first vs (suc k.index.count) s) ok' src
    old_good s n ok ok' src le oks last good = go (at_run first vs s) refl
      where
        go : (o : Option Value) → at_run first vs s ≡ o → IsGood w.image
            (Write i line first vs ∷ st.history) s n
            (on_write st.history table.need first vs (suc k.index.count) s) ok' src
        go None at =
            good_given w.image st.history (Write i line first vs) s n
            (table.need s) _ ok ok' src src
            (λ g l few. let q = (on_miss w st inv table c) table.need first vs
            (suc k.index.count) s g at in
            omega arith) oks
            (λ few is x h. let m = (c.tables s).mono (length st.history) (suc (length st.history))
            (omega arith) in let q = (on_miss w st inv table c) table.need first vs
            (suc k.index.count) s
            (suc (length st.history)) at in
            allowed_last s x at (good (length st.history) (omega arith) (omega arith) (last at is) x h))
            (λ x h. inl h) good
          where
            allowed_last : (s : ℕ) (x : Value) → at_run first vs s ≡ None → AllowedFrom
                (length st.history) w.image st.history s x → x ≡ now w.image
                (Write i line first vs ∷ st.history) s
            allowed_last s x at h = allowed_end w.image (length st.history) st.history s x
                (omega arith) h ∙ sym (ap
                (λ (o : Option Value). unless o (now w.image st.history s)) at)
        go (Some v) at =
            good_given w.image st.history (Write i line first vs) s n
            (table.need s) _ ok ok' src src
            (λ g l few. let q = (on_old w st inv table c) table.need first vs
            (suc k.index.count) s g l in
            omega arith) oks
            (λ few is x h. let q = (on_hit w st inv table c) table.need first vs (suc k.index.count) s
            (suc (length st.history)) v at (omega arith) in absurd (omega arith))
            (λ x h. inl h) good

    -- the new index, where the Write doesn't reach
    new_good : (s n : ℕ) (ok ok' : ℕ → Type 0) (src : Value → Type 0) → at_run first vs s ≡ None
        → ((g : ℕ) → ok' g → ok g) → (ok (suc (length st.history)) → ok (length st.history))
        → IsGood w.image st.history s k.index.count (table.need s) ok src
        → IsGood w.image (Write i line first vs ∷ st.history) s n
        (on_write st.history table.need first vs (suc k.index.count) s) ok' src
    new_good s n ok ok' src at oks last good g le few is x show =
        good_silent w.image st.history (Write i line first vs) s k.index.count
        (table.need s) ok src src at (c.tables s).mono last (λ x h. h) good g le
        (all_few w st inv table c s g)
        (oks g is) x show

    -- the new index, where the Write is
    hit_new : (s : ℕ) (o : Option Pointer) → hit keys s ≡ Some o → (r : Pointer) × (o ≡ Some r)
        × (r.kind ≡ Dirty) × ((x : Value) × (at_run first vs s ≡ Some x) × Only x
        (st.cache.reads r.place))
    hit_new s o h = go (at_run first vs s) refl
      where
        go : (ov : Option Value) → at_run first vs s ≡ ov → (r : Pointer) × (o ≡ Some r)
            × (r.kind ≡ Dirty) × ((x : Value) × (at_run first vs s ≡ Some x) × Only x
            (st.cache.reads r.place))
        go None at = let z = no_hit s at in absurd (cc)
        go (Some x) at =
            let g = fits_some w st inv i s (hit keys s) (at_run first vs s) x (on.can.fits s) at in (
              g.1.0,
              some_some _ _ (sym h ∙ g.1.1),
              g.1.2,
              (x, at, inv.placed on.heard i g.1.0.place x g.1.4 g.1.5),
            )
          where
            some_some : (a b : Option Pointer) → Some a ≡ Some b → a ≡ b
            some_some a b e = cc

    unwritten : (s : ℕ) → hit keys s ≡ None → at_run first vs s ≡ None
    unwritten s e = go (hit keys s) (at_run first vs s) (on.can.fits s) e
      where
        go : (o : Option (Option Pointer)) (ov : Option Value) → Fits w st i s o ov → o ≡ None
            → ov ≡ None
        go None None h e = refl
        go None (Some x) h e = absurd h
        go (Some o) ov h e = absurd (cc)

    pub crash_insert_write : IsHarmless w (after w st i (InsertWrite line leaf keys first vs))
        (tables_after st table (InsertWrite line leaf keys first vs))
    crash_insert_write = record {
      tables = write_table;
      floors = λ s. (floor_next w st inv table c) s 0 (Write i line first vs)
          (on_write st.history table.need first vs (suc k.index.count) s)
          (on_write st.history table.safe first vs true s) (wrote_old s) (no_done w st inv table c s);
      begun = (tt, c.begun);
      seats = each_seat (λ j y. IsSeatKnown j st.halted (Write i line first vs ∷ st.history)
          (on_write st.history table.need first vs (suc k.index.count))
          (on_write st.history table.safe first vs true) y) st.seats i _ own others;
      honest = c.honest;
      honest_back = c.honest_back;
      filled = c.filled;
      cached = λ n s r le top is d. (by_put w st inv table c) leaf keys n s
          (λ o. o ≡ Some r → IsGood w.image (Write i line first vs ∷ st.history) s n
          (on_write st.history table.need first vs (suc k.index.count) s) any_flush
          (λ x. Among x (st.cache.reads r.place)))
          (λ l e. old_good s n any_flush any_flush _ l (λ g _ q. q) (λ _ q. q)
          (c.cached n s r le l e d))
          (λ lt o h e. let g = hit_new s o h in good_now w.image
          (Write i line first vs ∷ st.history) s n _ any_flush _
          (λ x a. g.3.2 x (subst (λ (q : Pointer). Among x (st.cache.reads q.place))
          (some_ref r g.0 (sym e ∙ g.1)) a) ∙ sym
          (ap (λ (o : Option Value). unless o (now w.image st.history s)) g.3.1)))
          (λ lt h e. new_good s n any_flush any_flush _ (unwritten s h) (λ g q. q) (λ q. q)
          (c.cached k.index.count s r low (omega arith) e d)) is;
      backed = λ n s le top. (by_put w st inv table c) leaf keys n s
          (λ o. IsBacked o → IsGood w.image (Write i line first vs ∷ st.history) s n
          (on_write st.history table.need first vs (suc k.index.count) s)
          (λ g. on_write st.history table.safe first vs true s g ≡ true)
          (λ x. Among x (st.backing.leaves s)))
          (λ l b. old_good s n _ _ _ l (λ g l2 q. sym
          (on_old w st inv table c table.safe first vs true s g l2) ∙ q)
          (λ at q. (safe_on w st inv table c) s
          (sym (on_miss w st inv table c table.safe first vs true s
          (suc (length st.history)) at) ∙ q)) (c.backed n s le l b))
          (λ lt o h b. let g = hit_new s o h in let b2 = subst (λ o. IsBacked o) g.1 b in
          let kd = g.2 in absurd (cc))
          (λ lt h b. new_good s n _ _ _ (unwritten s h)
          (λ g q. sym (on_miss w st inv table c table.safe first vs true s g (unwritten s h)) ∙ q)
          (safe_on w st inv table c s)
          (c.backed k.index.count s low (omega arith) b));
      present = λ run n s le top. (by_put w st inv table c) leaf keys n s
          (λ o. IsBacked o → IsGood w.image (Write i line first vs ∷ st.history) s n
          (on_write st.history table.need first vs (suc k.index.count) s) any_flush
          (λ x. Among x (st.backing.reads s)))
          (λ l b. old_good s n any_flush any_flush _ l (λ g _ q. q) (λ _ q. q)
          (c.present run n s le l b))
          (λ lt o h b. let g = hit_new s o h in let b2 = subst (λ o. IsBacked o) g.1 b in
          let kd = g.2 in absurd (cc))
          (λ lt h b. new_good s n any_flush any_flush _ (unwritten s h) (λ g q. q) (λ q. q)
          (c.present run k.index.count s low (omega arith) b));
      firm = λ n s r q is d. c.firm n s r q
          (sym (old_index w st inv table c leaf keys n s (stands_top w st inv table c n q).1)
          ∙ is) d;
      agree = λ n s r le top is cl d. (by_put w st inv table c) leaf keys n s
          (λ o. o ≡ Some r → (x y : Value) → Among x (st.cache.reads r.place) → Among y
          (st.backing.leaves s) → x ≡ y)
          (λ l e. c.agree n s r le l e cl d)
          (λ lt o h e. let g = hit_new s o h in let same : r ≡ g.0 = some_ref r g.0 (sym e ∙ g.1) in
          let kd = g.2 in let kd2 : r.kind ≡ g.0.kind = ap (λ (q : Pointer). q.kind) same in
          absurd (cc))
          (λ lt h e. c.agree k.index.count s r low (omega arith) e cl d) is;
    }
      where
        grown : (j : ℕ) → ((s : ℕ) → (claim_of st j).exclusive ≡ true → Covers (claim_of st j) s
            → on_write st.history table.need first vs (suc k.index.count) s
            (suc (length st.history)) ≡ table.need s (length st.history))
            → (IsLastKnown j st.history table.need table.safe (st.seats j)
            → (claim_of st j).wrote ≡ true → is_write j (st.seats j).last.line
            (st.seats j).last.first (Write i line first vs) ≡ false) → IsSeatKnown j st.halted
            (Write i line first vs ∷ st.history)
            (on_write st.history table.need first vs (suc k.index.count))
            (on_write st.history table.safe first vs true) (st.seats j)
        grown j top other = seat_grown j st.halted st.halted st.history
            (Write i line first vs) table.need
            (on_write st.history table.need first vs (suc k.index.count)) table.safe
            (on_write st.history table.safe first vs true) (st.seats j) (λ h. h) wrote_old
            (zeros w st inv table c)
            (λ x s q. top s x q) (λ _ wr l. other l wr) (c.seats j)

        others : (j : ℕ) → j ≢ i → IsSeatKnown j st.halted (Write i line first vs ∷ st.history)
            (on_write st.history table.need first vs (suc k.index.count))
            (on_write st.history table.safe first vs true) (st.seats j)
        others j ne = grown j (λ s x q. (on_miss w st inv table c) table.need first vs
            (suc k.index.count) s
            (suc (length st.history)) (miss (at_run first vs s)
            (λ v h. not_both w st inv i j ne on.can.exclusive s (wmine s v h) q))
            ∙ (goes_on w st inv table c) s)
            (λ l _. (other_write w st inv table c) i j line first vs (st.seats j) ne)

        own : IsSeatKnown i st.halted (Write i line first vs ∷ st.history)
            (on_write st.history table.need first vs (suc k.index.count))
            (on_write st.history table.safe first vs true)
            (record (st.seats i) {
              claim = with_write
                  (claim_of st i) nothing;
              last = last_write line first vs
                  (suc st.books.index.count) true;
            })
        own = record {
          flush = λ a b. let y = (grown_flush a b) in
              record { begun = y.begun; counted = y.counted; firm = y.firm };
          last = λ a b. record {
            exclusive = on.can.exclusive;
            some = first_within first vs on.can.some;
            covers = λ s q. let v = run_value first vs s q in wmine s v.0 v.1;
            counted = λ s q. let v = run_value first vs s q in subst
                (λ n. on_write st.history table.need first vs
                (suc k.index.count) s n ≤ suc st.books.index.count)
                (sym (write_begun i line first vs st.history))
                (let z = (on_hit w st inv table c) table.need first vs (suc k.index.count) s
                (suc (length st.history)) v.0 v.1 (omega arith) in omega arith);
            firm = λ _ s q. let v = run_value first vs s q in subst
                (λ n. on_write st.history table.safe first vs true s n ≡ true)
                (sym (write_begun i line first vs st.history))
                (on_hit w st inv table c table.safe first vs true s
                (suc (length st.history)) v.0 v.1 (omega arith));
          };
          few = λ l. absurd (cc);
          gone = λ s e. absurd (cc);
        }
          where
            bare_seat : Seat
            bare_seat = record (st.seats i) { claim = new_claim 0 0 false }

            grown_flush : st.halted ≡ false → (st.seats i).flush.going ≡ true → IsFlushKnown i
                (Write i line first vs ∷ st.history)
                (on_write st.history table.need first vs (suc k.index.count))
                (on_write st.history table.safe first vs true) bare_seat
            grown_flush a b = (seat_grown i st.halted st.halted st.history
                (Write i line first vs) table.need
                (on_write st.history table.need first vs (suc k.index.count)) table.safe
                (on_write st.history table.safe first vs true) bare_seat (λ h. h) wrote_old
                (zeros w st inv table c)
                (λ x. absurd (cc)) (λ _ wr. absurd (cc))
                (none_fine w st inv table c i 0 0 false)).flush a b
