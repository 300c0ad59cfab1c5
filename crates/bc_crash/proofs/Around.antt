-- A write around the cache, done or tried.
use Rattle.std.proofs.Common.{◌≡◌, ◌≢◌, ◌⊎◌, inl, inr, ℕ, suc, ◌≤◌, max, Bool, true, false, List, ◌∷◌, length, Option, Some, None, refl, sym, ap, ◌∙◌, subst, arith}
use Rattle.bc_model.specs.Sector.{Value, at_run, unless, Gives}
use Rattle.bc_model.specs.History.{gives, may_give, now, is_write}
use Rattle.bc_model.specs.declared.history.Entry.{Entry}
use Rattle.bc_model.specs.declared.history.Entry.TheVariants.{Write, Tried}
use Rattle.bc_disk.specs.Device.{Content, Among, instead, besides, written, failed}
use Rattle.bc_books.specs.Index.{Pointer, from_on}
use Rattle.bc_books.specs.Books.{Books}
use Rattle.bc_books.specs.Invariant.{IsInOrder}
use Rattle.bc_data.specs.Seats.{Seat, Covers, with_write, unless_run}
use Rattle.bc_data.specs.Data.{Opening, State, Around, BackingFault, BackingWrite, Fail, claim_of}
use Rattle.bc_data.specs.Enabled.{IsBacked, CanPutBack}
use Rattle.bc_data.specs.After.{last_write, after}
use Rattle.bc_data.proofs.Runs.{only_one, reads_there}
use Rattle.bc_data.specs.Invariant.{IsLasting, IsTruthful}
use Rattle.bc_data.proofs.Truth.{counts_of}
use Rattle.bc_data.proofs.Kept.{each_seat}
use Rattle.bc_data.proofs.Backed.{bare_index}
use Rattle.bc_crash.specs.Tables.{Tables, on_write, tables_after}
use Rattle.bc_crash.specs.Reached.{IsBegun, done_from, reached}
use Rattle.bc_crash.specs.Invariant.{IsGood, any_flush, IsTable, IsLastKnown, IsSeatKnown, IsAnswered, IsHarmlessOf, IsHarmless}
use Rattle.bc_crash.proofs.Reached.{write_begun}
use Rattle.bc_crash.proofs.Good.{good_less, good_now, good_silent, good_given, table_grown, table_safe, seat_grown}
use Rattle.bc_crash.proofs.Kept.{besides_case, honest_written, honest_failed, run_value, first_within}
use Rattle.bc_crash.proofs.Kept.{floor_next, goes_on, no_done, on_hit, on_miss, on_old, other_write, safe_on, zeros}

module _ (w : Opening) (st : State) (inv : IsTruthful w st) (table : Tables)
    (c : IsHarmless w st table) where
  abbrev k : Books
  k = st.books

  abbrev H : List Entry
  H = st.history

  f : IsInOrder w.books st.books
  f = inv.books

  low : k.journal.durable ≤ k.index.count
  low = let x = (counts_of w.books k f) in let x0 = x.0 in let x1 = x.1 in omega arith

  module _ (i line first : ℕ) (vs : List Value) (on : CanPutBack w st i (Around line) first vs) where
    mine : Gives first vs (λ s x. Covers (claim_of st i) s)
    mine s x h = (on.bare s x h).0

    -- over the run no index has a key
    none_there : (n s : ℕ) (x : Value) → k.journal.durable ≤ n → n ≤ k.index.count
        → at_run first vs s ≡ Some x → k.index.at n s ≡ None
    none_there n s x le top h = let g = on.bare s x h in
        bare_index w st inv i s on.exclusive on.first_write g.0 g.1 n le top

    safe' : ℕ → ℕ → Bool
    safe' = on_write st.history table.safe first vs false

    around_table : (s : ℕ) → IsTable (k.index.changed (k.index.leaf s)) (suc (length st.history))
        (table.need s) (on_write st.history table.safe first vs false s)
    around_table s = go (at_run first vs s)
      where
        t : IsTable (k.index.changed (k.index.leaf s)) (suc (length st.history)) (table.need s)
            (table.safe s)
        t = table_grown _ _ _ _ (table.need s) (table.safe s) (omega arith) (omega arith) (c.tables s)

        go : (o : Option Value) → IsTable (k.index.changed (k.index.leaf s))
            (suc (length st.history)) (table.need s)
            (unless_run o (table.safe s) (from_on (suc (length st.history)) (table.safe s) false))
        go None = t
        go (Some v) = table_safe _ _ (table.need s) (table.safe s) false t

    same_old : (s f : ℕ) → f ≤ length st.history → (table.need s f ≡ table.need s f)
        × (on_write st.history table.safe first vs false s f ≡ table.safe s f)
    same_old s f le = (refl, (on_old w st inv table c) table.safe first vs false s f le)

    few_puts : (s : ℕ) (x : Value) → at_run first vs s ≡ Some x → table.need s
        (length st.history) ≤ k.journal.durable
    few_puts s x h = let g = on.bare s x h in elim g.1 [
      | inl p ↦ (let z = (inv.plain p).0 in let t = (c.tables s).top (length st.history) in
          let q = f.counted.leaves (k.index.leaf s) in omega arith)
      | inr y2 ↦ elim y2 [
        | inl y ↦ (let a = (c.seats i).few y.0 on.exclusive s g.0 in let b = y.2 in omega arith)
        | inr y ↦ (let a = ((c.seats i).gone s y.0).2 in let b = y.1 in omega arith)
      ]
    ]

    -- the backing device gets the run, to a good end or not
    crash_around : (e : Entry) (new : Content) (all : ℕ → Seat) (halted : Bool)
        → IsBegun e st.history → (halted ≡ false → st.halted ≡ false)
        → ((s : ℕ) → done_from e st.history s ≡ 0)
        → ((s : ℕ) → at_run first vs s ≡ None → gives e s ≡ None)
        → ((s : ℕ) → may_give e s ≡ at_run first vs s)
        → (halted ≡ false → (s : ℕ) (x : Value) → at_run first vs s ≡ Some x → (gives e s ≡ Some x)
        × ((y : Value) → Among y (new.reads s) → y ≡ x))
        → ((s : ℕ) → at_run first vs s ≡ None → new.reads s ≡ st.backing.reads s)
        → ((s : ℕ) (x : Value) → Among x (new.leaves s) → Among x (st.backing.leaves s)
        ⊎ (at_run first vs s ≡ Some x))
        → ((i : ℕ) → IsSeatKnown i halted (e ∷ st.history) table.need
        (on_write st.history table.safe first vs false) (all i))
        → ((t : ℕ) (x : Value) → Among x (new.reads t) → Among x (new.leaves t))
        → IsHarmlessOf w k st.stage st.cache new all (e ∷ st.history) halted table.need
        (on_write st.history table.safe first vs false)
    crash_around e new all halted begins was done silent gives_ good reads leaves seats honest = record {
      tables = around_table;
      floors = λ s. subst (λ d. IsAnswered k.journal.durable (e ∷ st.history) (table.need s)
          (on_write st.history table.safe first vs false s) (max d (reached st.history s)))
          (sym (done s)) (floor_next w st inv table c s 0 e (table.need s)
          (on_write st.history table.safe first vs false s) (same_old s) (no_done w st inv table c s));
      begun = (begins, c.begun);
      seats = seats;
      honest = c.honest;
      honest_back = honest;
      filled = c.filled;
      cached = λ n s r le top is d. cached_by n s r le top is d (at_run first vs s) refl;
      backed = λ n s le top b. backed_by n s le top b (at_run first vs s) refl;
      present = λ h n s le top b. present_by h n s le top b (at_run first vs s) refl;
      firm = c.firm;
      agree = λ n s r le top is cl d x y a b. elim
          (leaves s y b) [
            | inl z ↦ c.agree n s r le top is cl d x y a z
            | inr z ↦
                (let q = none_there n s y le top z in absurd (cc))
          ];
    }
      where
        cached_by : (n s : ℕ) (r : Pointer) → k.journal.durable ≤ n → n ≤ k.index.count
            → k.index.at n s ≡ Some r → IsLasting w k r → (o : Option Value) → at_run first vs s ≡ o
            → IsGood w.image (e ∷ st.history) s n (table.need s) any_flush
            (λ x. Among x (st.cache.reads r.place))
        cached_by n s r le top is d None at = good_silent w.image st.history e s n
            (table.need s) any_flush _ _ (silent s at) (c.tables s).mono (λ x. x) (λ x h. h)
            (c.cached n s r le top is d)
        cached_by n s r le top is d (Some x) at = let q = none_there n s x le top at in absurd (cc)

        backed_by : (n s : ℕ) → k.journal.durable ≤ n → n ≤ k.index.count → IsBacked
            (k.index.at n s) → (o : Option Value) → at_run first vs s ≡ o → IsGood w.image
            (e ∷ st.history) s n (table.need s)
            (λ f. on_write st.history table.safe first vs false s f ≡ true)
            (λ x. Among x (new.leaves s))
        backed_by n s le top b None at =
            good_less w.image (e ∷ st.history) s n (table.need s) (λ f. table.safe s f ≡ true) _
            (λ x. Among x (new.leaves s)) _
            (λ f q. sym (on_miss w st inv table c table.safe first vs false s f at) ∙ q) (λ x h. inl h)
            (good_silent w.image st.history e s n (table.need s) _
            (λ x. Among x (st.backing.leaves s)) _ (silent s at) (c.tables s).mono
            (safe_on w st inv table c s)
            (λ x h. elim (leaves s x h) [ inl z ↦ z | inr z ↦ absurd (cc) ])
            (c.backed n s le top b))
        backed_by n s le top b (Some v) at =
            good_given w.image st.history e s n (table.need s) (table.need s)
            (λ f. table.safe s f ≡ true) _ (λ x. Among x (st.backing.leaves s)) _
            (λ f l few. few) (λ f l q. sym (on_old w st inv table c table.safe first vs false s f l)
            ∙ q)
            (λ few q x h. let z = (on_hit w st inv table c) table.safe first vs false s
            (suc (length st.history)) v at
            (omega arith) in absurd (cc))
            (λ x h. elim (leaves s x h) [ inl z ↦ inl z | inr z ↦ inr (gives_ s ∙ z) ])
            (c.backed n s le top b)

        present_by : halted ≡ false → (n s : ℕ) → k.journal.durable ≤ n → n ≤ k.index.count
            → IsBacked (k.index.at n s) → (o : Option Value) → at_run first vs s ≡ o
            → IsGood w.image (e ∷ st.history) s n (table.need s) any_flush
            (λ x. Among x (new.reads s))
        present_by h n s le top b None at = good_silent w.image st.history e s n
            (table.need s) any_flush (λ x. Among x (st.backing.reads s)) _ (silent s at)
            (c.tables s).mono (λ x. x) (λ x a. subst (λ l. Among x l) (reads s at) a)
            (c.present (was h) n s le top b)
        present_by h n s le top b (Some v) at = let g = good h s v at in good_now w.image
            (e ∷ st.history) s n (table.need s) any_flush _
            (λ x a. g.1 x a ∙ sym (ap
            (λ (o : Option Value). unless o (now w.image st.history s)) g.0))

    pub crash_around_good : IsHarmless w (after w st i (BackingWrite (Around line) first vs))
        (tables_after st table (BackingWrite (Around line) first vs))
    crash_around_good =
        crash_around (Write i line first vs) (written first vs st.backing) _ st.halted tt (λ h. h)
        (λ s. refl) (λ s e. e) (λ s. refl)
        (λ _ s x at. (
          at,
          λ y a. only_one x y
              (subst (λ l. Among y l) (reads_there st.backing first vs s x at) a),
        ))
        (λ s at. ap (λ (o : Option Value). instead o (st.backing.reads s)) at)
        (λ s x a. besides_case (at_run first vs s) (st.backing.leaves s) x a)
        (each_seat (λ j y. IsSeatKnown j st.halted (Write i line first vs ∷ st.history) table.need
        (on_write st.history table.safe first vs false) y) st.seats i _ own others)
        (honest_written st.backing first vs c.honest_back)
      where
        grown : (j : ℕ) → (IsLastKnown j st.history table.need table.safe (st.seats j)
            → (claim_of st j).wrote ≡ true → is_write j (st.seats j).last.line
            (st.seats j).last.first (Write i line first vs) ≡ false) → IsSeatKnown j st.halted
            (Write i line first vs ∷ st.history) table.need
            (on_write st.history table.safe first vs false) (st.seats j)
        grown j other = seat_grown j st.halted st.halted st.history
            (Write i line first vs) table.need table.need table.safe
            (on_write st.history table.safe first vs false) (st.seats j) (λ h. h) same_old
            (zeros w st inv table c)
            (λ _ s _. (goes_on w st inv table c) s) (λ _ wr l. other l wr) (c.seats j)

        others : (j : ℕ) → j ≢ i → IsSeatKnown j st.halted
            (Write i line first vs ∷ st.history) table.need
            (on_write st.history table.safe first vs false) (st.seats j)
        others j ne = grown j (λ l _. (other_write w st inv table c) i j line first vs (st.seats j) ne)

        own : IsSeatKnown i st.halted (Write i line first vs ∷ st.history) table.need
            (on_write st.history table.safe first vs false)
            (record (st.seats i) {
              claim = with_write (claim_of st i)
                  (at_run first vs);
              last = last_write line first vs st.books.journal.durable false;
            })
        own =
            let g = grown i (λ l wr. let z = on.first_write in absurd (cc)) in
            record {
              flush = λ a b. let y = g.flush a b in
                  record { begun = y.begun; counted = y.counted; firm = y.firm };
              last = λ a b. record {
                exclusive = on.exclusive;
                some = first_within first vs on.some;
                covers = λ s q. let v = run_value first vs s q in mine s v.0 v.1;
                counted = λ s q. let v = run_value first vs s q in subst
                    (λ n. table.need s n ≤ st.books.journal.durable)
                    (sym (write_begun i line first vs st.history))
                    (let a = few_puts s v.0 v.1 in let b = (goes_on w st inv table c) s in omega arith);
                firm = λ e. absurd (cc);
              };
              few = λ l. absurd (cc);
              gone = λ s e. absurd (cc);
            }

    pub crash_around_bad : IsHarmless w (after w st i (Fail (BackingFault (Around line) first vs)))
        (tables_after st table (Fail (BackingFault (Around line) first vs)))
    crash_around_bad =
        crash_around (Tried first vs) (failed first vs st.backing) _ true tt (λ h. absurd (cc))
        (λ s. refl) (λ s e. refl) (λ s. refl)
        (λ h. absurd (cc))
        (λ s at. ap (λ (o : Option Value). besides o (st.backing.reads s)) at)
        (λ s x a. besides_case (at_run first vs s) (st.backing.leaves s) x a)
        (each_seat (λ j y. IsSeatKnown j true (Tried first vs ∷ st.history) table.need
        (on_write st.history table.safe first vs false) y) st.seats i _
        (record {
          flush = λ h. absurd (cc);
          last = λ h. absurd (cc);
          few = λ l. absurd (cc);
          gone = λ s e. absurd (cc);
        })
        (λ j ne. seat_grown j st.halted true st.history
        (Tried first vs) table.need table.need table.safe
        (on_write st.history table.safe first vs false) (st.seats j)
        (λ h. absurd (cc)) same_old (zeros w st inv table c) (λ _ s _. (goes_on w st inv table c) s)
        (λ h. absurd (cc)) (c.seats j)))
        (honest_failed st.backing first vs c.honest_back)
