-- Keys that come in.
use Rattle.std.proofs.Common.{◌≡◌, inl, inr, ℕ, suc, ◌<◌, ◌≤◌, true, false, List, [], ◌∷◌, Option, Some, None, if◌then◌else◌, ◌||◌, refl, sym, ap, ◌∙◌, subst, arith}
use Rattle.bc_model.specs.Sector.{Value, at_run, unless, Gives}
use Rattle.bc_model.specs.History.{now}
use Rattle.bc_model.proofs.Cases.{by_le}
use Rattle.bc_disk.specs.Device.{Only}
use Rattle.bc_books.specs.Index.{Kind, Clean, Dirty, Pointer, Key, put, hit, over, names}
use Rattle.bc_books.specs.Shelves.{Owner, Own, Kept, Spent, IsPinned}
use Rattle.bc_books.specs.Books.{Books, Put, Unpin}
use Rattle.bc_books.specs.After as books
use Rattle.bc_books.specs.Invariant.{IsInOrder}
use Rattle.bc_books.specs.Laws.{IsAged, IsLater}
use Rattle.bc_books.proofs.Cases.{by_bool, by_hit, put_run_cases, put_cases, in_place, names_there}
use Rattle.bc_books.proofs.Opening.{kept_run}
use Rattle.bc_books.proofs.Later.{law_stays}
use Rattle.bc_data.specs.Seats.{Claim, Seat, Candidate, Covers, nothing, with_write, put_seat}
use Rattle.bc_data.specs.Data.{Opening, State, Form, DropKeys, CleanKeys, MoveKeys, StaleKeys, InsertWrite, Insert, Settle, index_of, claim_of}
use Rattle.bc_data.specs.Enabled.{steps_of, Fits, IsMoved, MayInsert, IsEnabled}
use Rattle.bc_data.specs.Invariant.{View, view, IsTrueAt, IsSince, IsNoted, ArePlaced, IsKeptFor, IsTruthful}
use Rattle.bc_data.specs.After.{is_hit, gone_after, gone_keys_after, last_write, after}
use Rattle.bc_data.proofs.Truth.{live_durable, Moved, true_moved, only_at, seat_moved, blank}
use Rattle.bc_data.proofs.Kept.{each_seat, apart_put, guard_put}
use Rattle.bc_data.proofs.Kept.{guarded_as, keep_candidate, kept_same, low, same_claim}
use Rattle.bc_data.proofs.Backed.{guard_miss, run_miss}
use Rattle.bc_data.proofs.Learnt.{backed_value}

module _ (w : Opening) (st : State) (inv : IsTruthful w st) where
  abbrev v : View
  v = view w st

  abbrev k : Books
  k = st.books

  f : IsInOrder w.books st.books
  f = inv.books

  -- after an insertion
  pub put_at : (leaf : ℕ) (keys : List Key) (n s : ℕ) → k.index.count < n
      → (books.after w.books k (Put leaf keys)).index.at n s ≡ over (hit keys s)
      (k.index.at k.index.count s)
  put_at leaf keys n s lt = by_le (suc k.index.count) n
      (λ z. (if z then (λ x. over (hit keys x)
      (k.index.at k.index.count x)) else k.index.at n) s ≡ over (hit keys s)
      (k.index.at k.index.count s)) (λ _. refl) (λ l. absurd (omega arith))

  pub fits_none : (i s : ℕ) (o : Option (Option Pointer)) (ov : Option Value) → Fits w st i s o ov
      → ov ≡ None → o ≡ None
  fits_none i s None ov h e = refl
  fits_none i s (Some o) None h e = absurd h
  fits_none i s (Some o) (Some x) h e = absurd (cc)

  pub fits_some : (i s : ℕ) (o : Option (Option Pointer)) (ov : Option Value) (x : Value)
      → Fits w st i s o ov → ov ≡ Some x → Covers (claim_of st i) s
      × ((r : Pointer) × (o ≡ Some (Some r)) × (r.kind ≡ Dirty)
      × (r.version ≡ k.generations.version (w.books.bucket r.place)) × (k.owner r.place ≡ Own i)
      × ((st.seats i).placed r.place ≡ Some x))
  fits_some i s None None x h e = absurd (cc)
  fits_some i s None (Some y) x h e = absurd h
  fits_some i s (Some o) None x h e = absurd h
  fits_some i s (Some o) (Some y) x h e = (
    h.covers,
    (
      h.key,
      ap Some h.is,
      h.dirty,
      h.placed.version,
      h.placed.own,
      h.placed.placed
          ∙ e,
    ),
  )

  pub fits_back : (i s : ℕ) (o : Option (Option Pointer)) (ov : Option Value) → Fits w st i s o ov
      → o ≡ None → ov ≡ None
  fits_back i s None None h e = refl
  fits_back i s None (Some y) h e = absurd h
  fits_back i s (Some o) ov h e = absurd (cc)

  -- a place of the seat, named by a new key
  pub new_aged : (k' : Books) → ((b : ℕ) → k.generations.durable b ≤ k'.generations.durable b)
      → (r : Pointer) → IsPinned (k.owner r.place) → r.version ≡ k.generations.version
      (w.books.bucket r.place) → k'.owner r.place ≡ Spent → IsAged w.books k' r
  new_aged k' grows r busy ver spent = (
    (let a = f.dated.settled (w.books.bucket r.place) (f.placed.calm r.place busy) in
        let b = grows (w.books.bucket r.place) in omega arith),
    λ _. spent,
  )

  pub named_spent : (keys : List Key) (r : Pointer) → names keys r.place ≡ true
      → (if names keys r.place then Spent else k.owner r.place) ≡ Spent
  named_spent keys r e = subst (λ z. (if z then Spent else k.owner r.place) ≡ Spent) (sym e) refl

  pub own_busy : (o : Owner) (i : ℕ) → o ≡ Own i → IsPinned o
  own_busy o i e = subst (λ x. IsPinned x) (sym e) tt

  pub kept_busy : (o : Owner) (c : ℕ) → o ≡ Kept c → IsPinned o
  kept_busy o c e = subst (λ x. IsPinned x) (sym e) tt

  pub keep_insert_write : (i line leaf : ℕ) (keys : List Key) (first : ℕ) (vs : List Value)
      → IsEnabled w st i (InsertWrite line leaf keys first vs) → IsTruthful w
      (after w st i (InsertWrite line leaf keys first vs))
  keep_insert_write i line leaf keys first vs on =
      let st' = after w st i (InsertWrite line leaf keys first vs) in
      let k' = books.after w.books k (Put leaf keys) in
      let x : Seat = record (st.seats i) {
        claim = with_write
            (claim_of st i) nothing;
        last = last_write line first vs
            (suc st.books.index.count) true;
      } in
      let excl = on.can.exclusive in
      let wr = on.can.first_write in
      let using = on.can.using in
      let fits = on.can.fits in
      let mine : Gives first vs (λ s y. Covers (claim_of st i) s) = λ s y h. (fits_some i s
      (hit keys s) (at_run first vs s) y (fits s) h).0 in
      let f' : IsInOrder w.books k' = kept_run w.books k (Put leaf keys ∷ []) f on.steps in
      let g : IsLater w.books k k' = law_stays w.books k (Put leaf keys ∷ []) f on.steps in
      let m : Moved w v (view w st')
      (λ s. at_run first vs s ≡ None) = record {
        books = g;
        cached = λ r y a d o. o;
        backed = λ s p h. h;
        stable = λ s p h o. o;
        present = λ s p. ap
            (λ (o : Option Value). unless o (now w.image st.history s)) p;
      } in
      let fresh : (n : ℕ) → k.index.count < n → n ≤ suc k.index.count → (s : ℕ)
      → at_run first vs s ≡ None → IsTrueAt w (view w st') (k'.index.at n s) s
      (now w.image st'.history s) =
      λ n lt le s p. subst (λ o. IsTrueAt w (view w st') o s (now w.image st'.history s))
      (sym (put_at leaf keys n s lt ∙ ap
      (λ (h : Option (Option Pointer)). over h (k.index.at k.index.count s))
      (fits_none i s (hit keys s) (at_run first vs s) (fits s) p)))
      (true_moved w v (view w st') (λ s. at_run first vs s ≡ None) m _ s p (inv.truth on.heard s)) in
      record {
        books = f';
        apart = apart_put st.seats i x (same_claim w st inv i) inv.apart;
        truth = λ _ s. there s (at_run first vs s) refl
            (fresh (suc k.index.count) (omega arith) (omega arith) s);
        notes = each_seat (λ j y. IsNoted w (view w st') y.claim) st.seats i x
            (blank w (view w st') (with_write (claim_of st i) nothing) refl refl refl (λ s. refl)
            (λ s. refl) (λ s. refl) (λ s. refl) (λ s. refl) (λ s. refl) (λ s y e. absurd (cc)))
            (λ j ne. seat_moved w v (view w st') (λ s. at_run first vs s ≡ None) f m fresh
            (claim_of st j) (run_miss w st inv i j first vs ne excl mine)
            (λ _ _ s q e n lt le. put_at leaf keys n s lt ∙ ap
            (λ (h : Option (Option Pointer)). over h (k.index.at k.index.count s))
            (fits_none i s (hit keys s) (at_run first vs s) (fits s)
            (run_miss w st inv i j first vs ne excl mine s q)) ∙ e) (inv.notes j));
        placed = λ h. each_seat (λ j y. ArePlaced (view w st') j y.placed) st.seats i x
            (λ t y own e. inv.placed h i t y (back t i own) e)
            (λ j _ t y own e. inv.placed h j t y (back t j own) e);
        candidates = λ c. (keep_candidate w st inv) st' (λ s. at_run first vs s ≡ None) f' m fresh c
            (λ t o. (
              by_bool (names keys t) (λ z. (if z then Spent else k.owner t) ≡ Kept c)
                  (λ q. elim (using t q) [ inl z ↦ absurd (cc) | inr z ↦ absurd (cc) ]) (λ _. o),
              λ y q. q,
            ))
            (λ s g. (
              guard_miss w st inv i first vs excl wr mine s g,
              guard_put st.seats i x s
                  (λ _ _. inr refl) g,
            ));
        legal = (tt, inv.legal);
        plain = λ e. let z = on.can.not_plain in absurd (cc);
      }
    where
      back : (t j : ℕ) → (if names keys t then Spent else k.owner t) ≡ Own j → k.owner t ≡ Own j
      back t j = by_bool (names keys t)
          (λ z. (if z then Spent else k.owner t) ≡ Own j → k.owner t ≡ Own j) (λ _ e. absurd (cc))
          (λ _ e. e)

      V : View
      V = view w (after w st i (InsertWrite line leaf keys first vs))

      there : (s : ℕ) (o : Option Value) → at_run first vs s ≡ o
          → (at_run first vs s ≡ None → IsTrueAt w
          (view w (after w st i (InsertWrite line leaf keys first vs)))
          ((books.after w.books k (Put leaf keys)).index.at (suc k.index.count) s) s
          (unless (at_run first vs s) (now w.image st.history s)))
          → IsTrueAt w (view w (after w st i (InsertWrite line leaf keys first vs)))
          ((books.after w.books k (Put leaf keys)).index.at (suc k.index.count) s) s
          (unless (at_run first vs s) (now w.image st.history s))
      there s None is old = old is
      there s (Some y) is old =
          let g = fits_some i s (hit keys s) (at_run first vs s) y (on.can.fits s) is in
          let r : Pointer = g.1.0 in
          let present : unless (at_run first vs s) (now w.image st.history s) ≡ y = ap
          (λ (o : Option Value). unless o (now w.image st.history s)) is in
          let t : IsTrueAt w (view w (after w st i (InsertWrite line leaf keys first vs)))
          (Some g.1.0) s (unless (at_run first vs s) (now w.image st.history s)) = (
            new_aged (books.after w.books k (Put leaf keys)) (λ b. omega arith) r
                (own_busy _ i g.1.4) g.1.3 (named_spent keys r (names_there keys s r g.1.1)),
            (λ _. only_at _ _ _ present (inv.placed on.heard i r.place y g.1.4 g.1.5)),
            λ c. let d = g.1.2 in absurd (cc),
          ) in
          subst (λ o. IsTrueAt w (view w (after w st i (InsertWrite line leaf keys first vs))) o s
          (unless (at_run first vs s) (now w.image st.history s)))
          (sym (put_at leaf keys (suc k.index.count) s (omega arith) ∙ ap
          (λ (h : Option (Option Pointer)). over h (k.index.at k.index.count s)) g.1.1)) t

  -- keys that change no value
  pub keep_quiet : (i : ℕ) (c' : Claim) (k' : Books) (keys : List Key) (candidates : ℕ → Candidate)
      → IsInOrder w.books k' → IsLater w.books k k' → k'.index.count ≡ suc k.index.count
      → ((n s : ℕ) → k.index.count < n → k'.index.at n s ≡ over (hit keys s)
      (k.index.at k.index.count s)) → st.halted ≡ false → w.plain ≡ false
      → ((s : ℕ) (o : Option Pointer) → hit keys s ≡ Some o → IsTrueAt w
      (record v { books = k' }) o s (now w.image st.history s))
      → ((j : ℕ) → (claim_of st j).exclusive ≡ true → (claim_of st j).wrote ≡ false → (s : ℕ)
      → Covers (claim_of st j) s → k.index.at k.index.count s ≡ None → (o : Option Pointer)
      → hit keys s ≡ Some o → o ≡ None)
      → c'.exclusive ≡ (claim_of st i).exclusive → c'.first ≡ (claim_of st i).first
      → c'.count ≡ (claim_of st i).count → c'.wrote ≡ (claim_of st i).wrote
      → (IsNoted w (record v { books = k' }) (claim_of st i) → IsNoted w (record v { books = k' }) c')
      → ((t j : ℕ) → k'.owner t ≡ Own j → k.owner t ≡ Own j)
      → (((c : ℕ) → ((t : ℕ) → k.owner t ≡ Kept c → k'.owner t ≡ Kept c) → IsKeptFor w
      (record v { books = k' }) (put_seat st.seats i (record (st.seats i) { claim = c' })) c
      (st.candidates c)) → (c : ℕ) → IsKeptFor w (record v { books = k' })
      (put_seat st.seats i (record (st.seats i) { claim = c' })) c (candidates c))
      → IsTruthful w (record st {
        books = k';
        seats = put_seat st.seats i
            (record (st.seats i) { claim = c' });
        candidates = candidates;
      })
  keep_quiet i c' k' keys candidates f' g more at on plain new hold ex a b wr note back cands =
      let x : Seat = record (st.seats i) { claim = c' } in
      let v' : View = record v { books = k' } in
      let st' : State = record st { books = k'; seats = put_seat st.seats i x; candidates = candidates } in
      let m : Moved w v v'
      (λ s. Unit {0}) = record { books = g; cached = λ r y a d o. o; backed = λ s p h. h; stable = λ s p h o. o; present = λ s p. refl } in
      let fresh : (n : ℕ) → k.index.count < n → n ≤ k'.index.count → (s : ℕ) → Unit {0}
      → IsTrueAt w v' (k'.index.at n s) s (now w.image st.history s) =
      λ n lt le s p. subst (λ o. IsTrueAt w v' o s (now w.image st.history s)) (sym (at n s lt))
      (by_hit (hit keys s) (k.index.at k.index.count s)
      (λ o. IsTrueAt w v' o s (now w.image st.history s)) (new s)
      (λ _. true_moved w v v' (λ s. Unit {0}) m _ s tt (inv.truth on s))) in
      let bare : (j : ℕ) → IsNoted w v' (claim_of st j) = λ j. seat_moved w v v'
      (λ s. Unit {0}) f m fresh (claim_of st j) (λ s q. tt)
      (λ e0 wr0 s q e n lt le. at n s lt ∙ by_hit (hit keys s) (k.index.at k.index.count s)
      (λ o. o ≡ None) (λ o h. hold j e0 wr0 s q e o h) (λ _. e)) (inv.notes j) in
      record {
        books = f';
        apart = apart_put st.seats i x
            (λ j ne. elim (same_claim w st inv i j ne) [
              | inl y ↦ inl (ex ∙ y.0, y.1)
              | inr y ↦ inr
                  (λ s p q. y s (let p0 = p.0 in let p1 = p.1 in
                  (omega arith, omega arith)) q)
            ]) inv.apart;
        truth = λ _ s. fresh k'.index.count (omega arith) (omega arith) s tt;
        notes = each_seat (λ j y. IsNoted w v' y.claim) st.seats i x (note (bare i)) (λ j _. bare j);
        placed = λ h. each_seat (λ j y. ArePlaced v' j y.placed) st.seats i x
            (λ t y own e. inv.placed h i t y (back t i own) e)
            (λ j _ t y own e. inv.placed h j t y (back t j own) e);
        candidates = cands (λ c owner. (keep_candidate w st inv) st' (λ s. Unit {0}) f' m fresh c
            (λ t o. (owner t o, λ y q. q))
            (λ s g. (tt, (guarded_as w st inv) i x ex a b (λ h. wr ∙ h) s g)));
        legal = inv.legal;
        plain = λ e. absurd (cc (plain, e));
      }

  pub dirty_or : (r : Pointer) → (r.kind ≡ Dirty → ⊥) → r.kind ≡ Clean
  dirty_or r h = go r.kind h
    where
      go : (x : Kind) → (x ≡ Dirty → ⊥) → x ≡ Clean
      go Clean h = refl
      go Dirty h = absurd (h refl)

  pub here : (s : ℕ) (r : Pointer) → st.halted ≡ false → index_of st s ≡ Some r → IsTrueAt w v
      (Some r) s (now w.image st.history s)
  here s r on e = subst (λ o. IsTrueAt w v o s (now w.image st.history s)) e (inv.truth on s)

  -- a key whose version is past isn't dirty
  pub stale_clean : (s : ℕ) (r : Pointer) → index_of st s ≡ Some r
      → r.version < k.generations.version (w.books.bucket r.place) → r.kind ≡ Clean
  stale_clean s r e lt = dirty_or r
      (λ d. let h1 = (f.known.keys k.index.count s (low w st inv) r e).live d in absurd (omega arith))

  -- the value of a move is the present one
  pub moved_value : (i s : ℕ) (o : Option Pointer) (mv : IsMoved w st i s o)
      → mv.value ≡ now w.image st.history s
  moved_value i s o mv = let c = (inv.notes i).cached s mv.value mv.old mv.read mv.seen in c.3
      (live_durable w k f mv.old c.2 mv.live)

  pub new_true : (i : ℕ) (form : Form) (leaf : ℕ) (keys : List Key) → IsEnabled w st i
      (Insert form leaf keys) → (s : ℕ) (o : Option Pointer) → hit keys s ≡ Some o → IsTrueAt w
      (record v { books = books.after w.books k (Put leaf keys) }) o s (now w.image st.history s)
  new_true i DropKeys leaf keys on s o h =
      let c = on.can.hits s o h in
      subst (λ z. IsTrueAt w (record v { books = books.after w.books k (Put leaf keys) }) z s
      (now w.image st.history s)) (sym c.is)
      (backed_value w st inv _ s _ (inv.truth on.heard s) c.backed)
  new_true i CleanKeys leaf keys on s o h =
      let c = on.can.hits s o h in
      let g = law_stays w.books k (Put leaf keys ∷ []) f on.steps in
      let t = here s c.old on.heard c.now in
      subst (λ z. IsTrueAt w (record v { books = books.after w.books k (Put leaf keys) }) z s
      (now w.image st.history s)) (sym c.is) (
        g.aged (record { kind = Clean; place = c.old.place; version = c.old.version }) t.0,
        t.1,
        λ _. ((inv.notes i).firmed s c.firm).1,
      )
  new_true i MoveKeys leaf keys on s o h =
      let c = on.can.hits s o h in
      let r : Pointer = c.new in
      let present = moved_value i s o c in
      let t = here s c.old on.heard c.now in
      subst (λ z. IsTrueAt w (record v { books = books.after w.books k (Put leaf keys) }) z s
      (now w.image st.history s)) (sym c.is) (
        new_aged (books.after w.books k (Put leaf keys)) (λ b. omega arith) r
            (own_busy _ i c.placed.own) c.placed.version
            (named_spent keys r (names_there keys s r (h ∙ ap Some c.is))),
        (λ _. only_at _ _ _ (sym present)
            (inv.placed on.heard i r.place c.value c.placed.own c.placed.placed)),
        λ cl. t.2 (sym c.kind ∙ cl),
      )
  new_true i StaleKeys leaf keys on s o h =
      let c = on.can.hits s o h in
      let t = here s c.old on.heard c.now in
      subst (λ z. IsTrueAt w (record v { books = books.after w.books k (Put leaf keys) }) z s
      (now w.image st.history s)) (sym c.is) (t.2 (stale_clean s c.old c.now c.past))

  pub bare_hit : (i : ℕ) (form : Form) (keys : List Key)
      → ((s : ℕ) (o : Option Pointer) → hit keys s ≡ Some o → MayInsert w st i form s o) → (s : ℕ)
      → index_of st s ≡ None → (o : Option Pointer) → hit keys s ≡ Some o → o ≡ None
  bare_hit i DropKeys keys on s e o h = (on s o h).is
  bare_hit i CleanKeys keys on s e o h = let c = (on s o h).now in absurd (cc)
  bare_hit i MoveKeys keys on s e o h = let c = (on s o h).now in absurd (cc)
  bare_hit i StaleKeys keys on s e o h = (on s o h).is

  pub insert_note : (i : ℕ) (form : Form) (leaf : ℕ) (keys : List Key) → IsEnabled w st i
      (Insert form leaf keys) → IsNoted w
      (record v { books = books.after w.books k (Put leaf keys) }) (claim_of st i)
      → IsNoted w (record v { books = books.after w.books k (Put leaf keys) })
      (record (claim_of st i) {
        gone = gone_after form keys
            (claim_of st i).gone;
        gone_keys = gone_keys_after form (suc k.index.count)
            (claim_of st i).gone_keys;
      })
  insert_note i CleanKeys leaf keys on n = n
  insert_note i MoveKeys leaf keys on n = n
  insert_note i StaleKeys leaf keys on n = n
  insert_note i DropKeys leaf keys on n = record {
    young = ((n.young).0, omega arith);
    bare = n.bare;
    sight = n.sight;
    deep = n.deep;
    cached = n.cached;
    backed = n.backed;
    checked = n.checked;
    copied = n.copied;
    firmed = n.firmed;
    through = n.through;
    gone = λ s. go s (hit keys s) refl ((inv.notes i).gone s) (n.gone s);
  }
    where
      k' : Books
      k' = books.after w.books k (Put leaf keys)

      go : (s : ℕ) (h : Option (Option Pointer)) → hit keys s ≡ h
          → ((claim_of st i).gone s ≡ true → Covers (claim_of st i) s
          × ((claim_of st i).exclusive ≡ true)
          × ((claim_of st i).wrote ≡ false → (n : ℕ) → IsSince k (claim_of st i).gone_keys n
          → k.index.at n s ≡ None))
          → ((claim_of st i).gone s ≡ true → Covers (claim_of st i) s
          × ((claim_of st i).exclusive ≡ true)
          × ((claim_of st i).wrote ≡ false → (n : ℕ) → IsSince
          (books.after w.books k (Put leaf keys)) (claim_of st i).gone_keys n
          → (books.after w.books k (Put leaf keys)).index.at n s ≡ None))
          → (is_hit h || (claim_of st i).gone s) ≡ true → Covers (claim_of st i) s
          × ((claim_of st i).exclusive ≡ true)
          × ((claim_of st i).wrote ≡ false → (n : ℕ) → IsSince
          (books.after w.books k (Put leaf keys)) (suc k.index.count) n
          → (books.after w.books k (Put leaf keys)).index.at n s ≡ None)
      go s None is old new e = let x = new e in let y = (inv.notes i).young in let y1 = y.1 in
          (x.0, x.1, λ wr n q. let q0 = q.0 in x.2 wr n (omega arith, q.1, q.2))
      go s (Some o) is old new e = let c = on.can.hits s o is in (
        c.covers,
        c.exclusive,
        λ wr n q. let q0 = q.0 in put_at leaf keys n s (omega arith) ∙ ap
            (λ (h : Option (Option Pointer)). over h (k.index.at k.index.count s)) is ∙ c.is,
      )

  pub put_back : (keys : List Key) (t j : ℕ) → (if names keys t then Spent else k.owner t) ≡ Own j
      → k.owner t ≡ Own j
  put_back keys t j = by_bool (names keys t)
      (λ z. (if z then Spent else k.owner t) ≡ Own j → k.owner t ≡ Own j) (λ _ e. absurd (cc))
      (λ _ e. e)

  pub keep_insert : (i : ℕ) (form : Form) (leaf : ℕ) (keys : List Key) → IsEnabled w st i
      (Insert form leaf keys) → st.halted ≡ false → IsTruthful w
      (after w st i (Insert form leaf keys))
  keep_insert i form leaf keys on run =
      let using = on.can.using in
      keep_quiet i _ (books.after w.books k (Put leaf keys)) keys st.candidates
      (kept_run w.books k (Put leaf keys ∷ []) f on.steps)
      (law_stays w.books k (Put leaf keys ∷ []) f on.steps) refl
      (put_at leaf keys) run on.can.not_plain
      (new_true i form leaf keys on)
      (λ j _ _ s _ e o h. bare_hit i form keys on.can.hits s e o h) refl refl refl refl
      (insert_note i form leaf keys on)
      (put_back keys)
      (λ move c. move c (λ t e. by_bool (names keys t)
      (λ z. (if z then Spent else k.owner t) ≡ Kept c)
      (λ q. elim (using t q) [ inl z ↦ absurd (cc) | inr z ↦ absurd (cc) ]) (λ _. e)))

  pub settle_true : (i number leaf : ℕ) (keys : List Key) → IsEnabled w st i
      (Settle number leaf keys) → (s : ℕ) (o : Option Pointer) → hit keys s ≡ Some o → IsTrueAt w
      (record v {
        books = books.fold w.books k
            (steps_of st.candidates i (Settle number leaf keys));
      }) o s (now w.image st.history s)
  settle_true i number leaf keys on s o h =
      let k1 = books.after w.books k (Put leaf keys) in
      let k' = books.fold w.books k (steps_of st.candidates i (Settle number leaf keys)) in
      let cand = inv.candidates number on.can.stands in
      let c = on.can.hits s o h in
      let pr = (cand.1 on.can.alive s c.place c.at).0 in
      let p : ℕ = c.place in
      let own = cand.0 c.place (in_place _ _ _ s c.place c.at) in
      let r : Pointer = record {
        kind = Clean;
        place = c.place;
        version = st.books.generations.version
            (w.books.bucket c.place);
      } in
      subst (λ z. IsTrueAt w (record v { books = k' }) z s (now w.image st.history s)) (sym c.is) (
        new_aged k' (λ b. omega arith) r (kept_busy _ number own) refl
            (put_run_cases k1.owner (st.candidates number).place
            (st.candidates number).count c.place Spent (λ o. o ≡ Spent)
            (λ no_. let z = in_place _ _ _ s c.place c.at in absurd (cc)) (λ _. refl)),
        (λ _. pr.cached),
        λ _. pr.backed,
      )

  pub settle_firm : (i number leaf : ℕ) (keys : List Key) → IsEnabled w st i
      (Settle number leaf keys) → (s : ℕ) (o : Option Pointer) → hit keys s ≡ Some o → Only
      (now w.image st.history s) (st.backing.leaves s)
  settle_firm i number leaf keys on s o h = let c = on.can.hits s o h in
      (((inv.candidates number on.can.stands).1 on.can.alive s c.place c.at).0).firm on.can.firm

  pub keep_settle : (i number leaf : ℕ) (keys : List Key) → IsEnabled w st i (Settle number leaf keys)
      → IsTruthful w (after w st i (Settle number leaf keys))
  keep_settle i number leaf keys on =
      let y : Candidate = st.candidates number in
      let k1 = books.after w.books k (Put leaf keys) in
      let k' = books.after w.books k1
      (Unpin (st.candidates number).place (st.candidates number).count) in
      let using = on.can.using in
      let cand = inv.candidates number on.can.stands in
      let dead : Candidate = record (st.candidates number) { stands = false } in
      let hits = on.can.hits in
      keep_quiet i (claim_of st i) k' keys (put st.candidates number dead)
      (kept_run w.books k (steps_of st.candidates i (Settle number leaf keys)) f on.steps)
      (law_stays w.books k (steps_of st.candidates i (Settle number leaf keys)) f on.steps) refl
      (put_at leaf keys) on.heard on.can.not_plain
      (settle_true i number leaf keys on)
      (λ j ex wr s q e o h. let c = hits s o h in let g =
      (cand.1 on.can.alive s c.place c.at).1 j ex q in absurd (cc))
      refl refl refl refl (λ n. n)
      (λ t j. put_run_cases k1.owner (st.candidates number).place
      (st.candidates number).count t Spent (λ o. o ≡ Own j → k.owner t ≡ Own j)
      (λ _ e. put_back keys t j e) (λ _ e. absurd (cc)))
      (λ move c. put_cases st.candidates number c dead
      (λ x. IsKeptFor w (record v { books = k' }) (put_seat st.seats i (st.seats i)) c x)
      (λ ne. move c (λ t e. put_run_cases k1.owner (st.candidates number).place
      (st.candidates number).count t Spent (λ o. o ≡ Kept c)
      (λ _. by_bool (names keys t) (λ z. (if z then Spent else k.owner t) ≡ Kept c)
      (λ q. elim (using t q) [
        | inl z ↦ absurd
            (ne (kept_same w st inv c number (sym e ∙ z)))
        | inr z ↦ absurd (cc)
      ]) (λ _. e))
      (λ q. let z = cand.0 t q in absurd (ne (kept_same w st inv c number (sym e ∙ z))))))
      (λ _ e. absurd (cc)))
