-- Keys that change no value.
use Rattle.std.proofs.Common.{◌≡◌, ◌⊎◌, inl, inr, ℕ, suc, ◌≤◌, true, List, [], ◌∷◌, length, Option, Some, None, ◌||◌, refl, sym, ap, ◌∙◌, subst, arith}
use Rattle.bc_model.specs.Sector.{Value}
use Rattle.bc_model.specs.History.{now}
use Rattle.bc_model.specs.declared.history.Entry.{Entry}
use Rattle.bc_disk.specs.Device.{Among, Only}
use Rattle.bc_books.specs.Index.{Clean, Pointer, Key, put, hit}
use Rattle.bc_books.specs.Shelves.{Owner}
use Rattle.bc_books.specs.Books.{Books, Put}
use Rattle.bc_books.specs.After as books
use Rattle.bc_books.specs.Invariant.{IsInOrder}
use Rattle.bc_books.specs.Laws.{IsLater}
use Rattle.bc_books.proofs.Cases.{some_ref}
use Rattle.bc_books.proofs.Later.{law_stays}
use Rattle.bc_data.specs.Seats.{Seat, Covers}
use Rattle.bc_data.specs.Data.{Opening, State, Form, DropKeys, CleanKeys, MoveKeys, StaleKeys, Insert, Settle, claim_of}
use Rattle.bc_data.specs.Enabled.{IsBacked, steps_of, IsEnabled}
use Rattle.bc_data.specs.After.{is_hit, gone_after, gone_keys_after, after}
use Rattle.bc_data.specs.Invariant.{view, IsLasting, IsTrueAt, IsTruthful}
use Rattle.bc_data.proofs.Truth.{counts_of, live_durable}
use Rattle.bc_data.proofs.Inserted.{here, new_true, settle_true, settle_firm, stale_clean}
use Rattle.bc_crash.specs.Tables.{Tables, tables_after}
use Rattle.bc_crash.specs.Invariant.{IsGood, any_flush, IsTable, IsSeatKnown, MayStand, IsHarmlessOf, IsHarmless}
use Rattle.bc_crash.proofs.Good.{good_now}
use Rattle.bc_crash.proofs.Kept.{Flat}
use Rattle.bc_crash.proofs.Kept.{all_few, by_put, grown_table, old_index, seat_claim, stands_top, widen}

module _ (w : Opening) (st : State) (inv : IsTruthful w st) (table : Tables)
    (c : IsHarmless w st table) where
  abbrev k : Books
  k = st.books

  abbrev H : List Entry
  H = st.history

  f : IsInOrder w.books st.books
  f = inv.books

  low : k.journal.durable ≤ k.index.count
  low = let x = (counts_of w.books k f) in let x0 = x.0 in let x1 = x.1 in omega arith

  -- keys that change no value
  pub crash_quiet : (leaf : ℕ) (keys : List Key) (k' : Books) (all : ℕ → Seat) → IsLater w.books k k'
      → k'.index.count ≡ suc k.index.count
      → ((n s : ℕ) → k'.index.at n s ≡ (books.after w.books k (Put leaf keys)).index.at n s)
      → ((s : ℕ) → k'.index.changed (k'.index.leaf s) ≡ put k.index.changed leaf (suc k.index.count)
      (k.index.leaf s)) → k'.journal.durable ≡ k.journal.durable
      → ((n : ℕ) → MayStand k' st.stage n → MayStand k st.stage n)
      → ((b : ℕ) → k'.generations.durable b ≡ k.generations.durable b)
      → ((i : ℕ) → IsSeatKnown i st.halted st.history table.need table.safe (all i))
      → ((s : ℕ) (o : Option Pointer) → hit keys s ≡ Some o → IsTrueAt w
      (record (view w st) { books = k' }) o s (now w.image st.history s))
      → ((s : ℕ) (o : Option Pointer) → hit keys s ≡ Some o → IsBacked o → IsBacked
      (k.index.at k.index.count s) ⊎ Only (now w.image st.history s) (st.backing.leaves s))
      → ((s : ℕ) (r : Pointer) → hit keys s ≡ Some (Some r) → r.kind ≡ Clean → Only
      (now w.image st.history s) (st.backing.leaves s))
      → IsHarmlessOf w k' st.stage st.cache st.backing all st.history st.halted table.need table.safe
  crash_quiet leaf keys k' all g more at changed dur stands gens seats new back clean = record {
    tables = λ s. subst (λ n. IsTable n (length st.history) (table.need s) (table.safe s))
        (sym (changed s)) (grown_table w st inv table c leaf s (length st.history) (omega arith));
    floors = λ s. let x = c.floors s in (x.0, (let x1 = x.1 in omega arith), x.2);
    begun = c.begun;
    seats = seats;
    honest = c.honest;
    honest_back = c.honest_back;
    filled = c.filled;
    cached = λ n s r le top is d. (by_put w st inv table c) leaf keys n s
        (λ o. o ≡ Some r → IsGood w.image st.history s n (table.need s) any_flush
        (λ x. Among x (st.cache.reads r.place)))
        (λ l e. c.cached n s r (omega arith) l e (live r d))
        (λ lt o h e. good_now w.image st.history s n (table.need s) any_flush _
        (λ x a. (subst (λ o. IsTrueAt w (record (view w st) { books = k' }) o s
        (now w.image st.history s)) e (new s o h)).1 d x a))
        (λ lt h e. (widen w st inv table c) s n any_flush _
        (c.cached k.index.count s r low (omega arith) e (live r d))) (sym (at n s) ∙ is);
    backed = λ n s le top b. (by_put w st inv table c) leaf keys n s
        (λ o. IsBacked o → IsGood w.image st.history s n (table.need s) (λ g. table.safe s g ≡ true)
        (λ x. Among x (st.backing.leaves s)))
        (λ l b. c.backed n s (omega arith) l b)
        (λ lt o h b. elim (back s o h b) [
          | inl y ↦ (widen w st inv table c) s n _ _
              (c.backed k.index.count s low (omega arith) y)
          | inr y ↦ good_now w.image st.history s n
              (table.need s) _ _ y
        ])
        (λ lt h b. (widen w st inv table c) s n _ _ (c.backed k.index.count s low (omega arith) b))
        (subst (λ o. IsBacked o) (at n s) b);
    present = λ run n s le top b. (by_put w st inv table c) leaf keys n s
        (λ o. IsBacked o → IsGood w.image st.history s n (table.need s) any_flush
        (λ x. Among x (st.backing.reads s)))
        (λ l b. c.present run n s (omega arith) l b)
        (λ lt o h b. good_now w.image st.history s n (table.need s) any_flush _
        (backed_reads o s (new s o h) b))
        (λ lt h b. (widen w st inv table c) s n any_flush _
        (c.present run k.index.count s low (omega arith) b))
        (subst (λ o. IsBacked o) (at n s) b);
    firm = λ n s r q is d. let q2 = stands n q in c.firm n s r q2
        (sym (at n s ∙ (old_index w st inv table c) leaf keys n s
        (stands_top w st inv table c n q2).1) ∙ is) (live r d);
    agree = λ n s r le top is cl d. (by_put w st inv table c) leaf keys n s
        (λ o. o ≡ Some r → (x y : Value) → Among x (st.cache.reads r.place) → Among y
        (st.backing.leaves s) → x ≡ y)
        (λ l e. c.agree n s r (omega arith) l e cl (live r d))
        (λ lt o h e x y a b. (subst (λ o. IsTrueAt w (record (view w st) { books = k' }) o s
        (now w.image st.history s)) e (new s o h)).1 d x a ∙ sym
        (clean s r (h ∙ ap Some e) cl y b))
        (λ lt h e. c.agree k.index.count s r low (omega arith) e cl (live r d)) (sym (at n s) ∙ is);
  }
    where
      live : (r : Pointer) → IsLasting w k' r → IsLasting w k r
      live r d = sym (gens (w.books.bucket r.place)) ∙ d

      backed_reads : (o : Option Pointer) (s : ℕ) → IsTrueAt w
          (record (view w st) { books = k' }) o s (now w.image st.history s) → IsBacked o
          → (x : Value) → Among x (st.backing.reads s) → x ≡ now w.image st.history s
      backed_reads None s h b = h
      backed_reads (Some r) s h b = h.2 b

  pub insert_back : (i : ℕ) (form : Form) (leaf : ℕ) (keys : List Key) → IsEnabled w st i
      (Insert form leaf keys) → (s : ℕ) (o : Option Pointer) → hit keys s ≡ Some o → IsBacked o
      → IsBacked (k.index.at k.index.count s) ⊎ Only (now w.image st.history s)
      (st.backing.leaves s)
  insert_back i DropKeys leaf keys on s o h b = inl (on.can.hits s o h).backed
  insert_back i CleanKeys leaf keys on s o h b = inr ((inv.notes i).firmed s (on.can.hits s o h).firm).2
  insert_back i MoveKeys leaf keys on s o h b =
      let m = on.can.hits s o h in
      let b2 = subst (λ o. IsBacked o) m.is b in
      inl (subst (λ o. IsBacked o) (sym m.now) (sym m.kind ∙ b2))
  insert_back i StaleKeys leaf keys on s o h b = let m = on.can.hits s o h in inl
      (subst (λ o. IsBacked o) (sym m.now) (stale_clean w st inv s m.old m.now m.past))

  pub insert_clean : (i : ℕ) (form : Form) (leaf : ℕ) (keys : List Key) → IsEnabled w st i
      (Insert form leaf keys) → (s : ℕ) (r : Pointer) → hit keys s ≡ Some (Some r) → r.kind ≡ Clean
      → Only (now w.image st.history s) (st.backing.leaves s)
  insert_clean i DropKeys leaf keys on s r h cl = let m = (on.can.hits s (Some r) h).is in absurd (cc)
  insert_clean i CleanKeys leaf keys on s r h cl =
      ((inv.notes i).firmed s (on.can.hits s (Some r) h).firm).2
  insert_clean i MoveKeys leaf keys on s r h cl =
      let m = on.can.hits s (Some r) h in
      let t = here w st inv s m.old on.heard m.now in
      let live = live_durable w k f m.old t.0 m.live in
      let some = c.filled m.old.place in
      let kd : r.kind ≡ m.old.kind = ap (λ (x : Pointer). x.kind) (some_ref r m.new m.is) ∙ m.kind in
      λ y a. sym (c.agree k.index.count s m.old low (omega arith) m.now
      (sym kd ∙ cl) live some.0 y some.1 a) ∙ t.1 live some.0 some.1
  insert_clean i StaleKeys leaf keys on s r h cl = let m = (on.can.hits s (Some r) h).is in absurd (cc)

  pub insert_fine : (i : ℕ) (form : Form) (leaf : ℕ) (keys : List Key) → IsEnabled w st i
      (Insert form leaf keys) → IsSeatKnown i st.halted st.history table.need table.safe
      (record (st.seats i) {
        claim = record
            (claim_of st i) {
              gone = gone_after form keys
                  (claim_of st i).gone;
              gone_keys = gone_keys_after form (suc k.index.count)
                  (claim_of st i).gone_keys;
            };
      })
  insert_fine i CleanKeys leaf keys on = c.seats i
  insert_fine i MoveKeys leaf keys on = c.seats i
  insert_fine i StaleKeys leaf keys on = c.seats i
  insert_fine i DropKeys leaf keys on = record {
    flush = λ a b. let y = (c.seats i).flush a b in
        record { begun = y.begun; counted = y.counted; firm = y.firm };
    last = λ a b. let y = (c.seats i).last a b in
        record { exclusive = y.exclusive; some = y.some; covers = y.covers; counted = y.counted; firm = y.firm };
    few = (c.seats i).few;
    gone = λ s. go s (hit keys s) refl;
  }
    where
      go : (s : ℕ) (h : Option (Option Pointer)) → hit keys s ≡ h
          → (is_hit h || (claim_of st i).gone s) ≡ true → Covers (claim_of st i) s
          × ((claim_of st i).exclusive ≡ true)
          × (table.need s (length st.history) ≤ suc k.index.count)
      go s None is e = let g = (c.seats i).gone s e in
          (g.0, g.1, let x = (all_few w st inv table c) s (length st.history) in omega arith)
      go s (Some o) is e = let m = on.can.hits s o is in (
        m.covers,
        m.exclusive,
        let x = (all_few w st inv table c) s (length st.history) in
            omega arith,
      )

  pub crash_insert : (i : ℕ) (form : Form) (leaf : ℕ) (keys : List Key) → IsEnabled w st i
      (Insert form leaf keys) → IsHarmless w (after w st i (Insert form leaf keys))
      (tables_after st table (Insert form leaf keys))
  crash_insert i form leaf keys on =
      crash_quiet leaf keys (books.after w.books k (Put leaf keys)) _
      (law_stays w.books k (Put leaf keys ∷ []) f on.steps) refl (λ n s. refl) (λ l. refl) refl
      (λ n h. h) (λ b. refl)
      (seat_claim w st inv table c i _ (insert_fine i form leaf keys on))
      (new_true w st inv i form leaf keys on)
      (insert_back i form leaf keys on) (insert_clean i form leaf keys on)

  pub crash_settle : (i number leaf : ℕ) (keys : List Key) → IsEnabled w st i (Settle number leaf keys)
      → IsHarmless w (after w st i (Settle number leaf keys))
      (tables_after st table (Settle number leaf keys))
  crash_settle i number leaf keys on =
      crash_quiet leaf keys (books.fold w.books k
      (steps_of st.candidates i (Settle number leaf keys))) _
      (law_stays w.books k (steps_of st.candidates i (Settle number leaf keys)) f on.steps) refl
      (λ n s. refl) (λ l. refl) refl (λ n h. h) (λ b. refl)
      (seat_claim w st inv table c i (st.seats i) (c.seats i))
      (settle_true w st inv i number leaf keys on)
      (λ s o h b. inr (settle_firm w st inv i number leaf keys on s o h))
      (λ s r h cl. settle_firm w st inv i number leaf keys on s (Some r) h)

  pub owner_flat : (owner : ℕ → Owner) → Flat k st.stage (record k { owner = owner }) st.stage
  owner_flat owner = record { count = refl; index = λ n s. refl; changed = λ l. omega arith; later = omega arith; stands = λ n h. h }
