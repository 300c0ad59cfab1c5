-- Claims, and what seats learn.
use Rattle.std.proofs.Common.{◌≡◌, inl, inr, ℕ, suc, ◌+◌, ◌<◌, ◌≤◌, Bool, true, false, List, Option, Some, None, if◌then◌else◌, ◌&&◌, nat_le, refl, sym, ap, ◌∙◌, subst, arith}
use Rattle.bc_model.specs.Sector.{Value, at_run}
use Rattle.bc_model.specs.History.{now}
use Rattle.bc_model.proofs.Cases.{by_test, by_le}
use Rattle.bc_disk.specs.Device.{Among, Only}
use Rattle.bc_books.specs.Index.{Pointer}
use Rattle.bc_books.specs.Books.{Books}
use Rattle.bc_books.specs.Invariant.{IsInOrder}
use Rattle.bc_books.proofs.Cases.{some_ref}
use Rattle.bc_data.specs.Seats.{Seat, Covers, new_claim, put_seat, overlap}
use Rattle.bc_data.specs.Data.{Opening, State, Note, Look, CacheRead, BackingRead, MakeClaim, Release, Learn, claim_of}
use Rattle.bc_data.specs.Enabled.{IsBacked, IsEnabled}
use Rattle.bc_data.specs.Invariant.{View, view, IsTrueAt, IsNoted, ArePlaced, IsTruthful}
use Rattle.bc_data.specs.After.{unless_raised, learnt, after}
use Rattle.bc_data.proofs.Runs.{sector_range}
use Rattle.bc_data.proofs.Truth.{live_durable}
use Rattle.bc_data.proofs.Kept.{each_seat, apart_put, guard_put, noted_cases}
use Rattle.bc_data.proofs.Kept.{guarded_as, keep_seat, none_note, same_claim, seat_candidates}

module _ (w : Opening) (st : State) (inv : IsTruthful w st) where
  abbrev v : View
  v = view w st

  abbrev k : Books
  k = st.books

  f : IsInOrder w.books st.books
  f = inv.books

  pub keep_release : (i : ℕ) → IsTruthful w (after w st i Release)
  keep_release i =
      let x : Seat = record (st.seats i) { claim = new_claim 0 0 false } in
      keep_seat w st inv i x (λ j ne. inr (λ s p q. let p1 = p.1 in omega arith))
      (none_note w st inv 0 0 false)
      (λ h. inv.placed h i)
      (seat_candidates w st inv (put_seat st.seats i x)
      (λ s. guard_put st.seats i x s (λ e q. absurd (cc))))

  pub keep_make_claim : (i first count : ℕ) (exclusive : Bool) → IsEnabled w st i
      (MakeClaim first count exclusive) → IsTruthful w
      (after w st i (MakeClaim first count exclusive))
  keep_make_claim i first count exclusive on =
      let x : Seat = record (st.seats i) { claim = new_claim first count exclusive } in
      record {
        books = inv.books;
        apart = apart_put st.seats i x on.can.apart inv.apart;
        truth = inv.truth;
        notes = each_seat (λ j y. IsNoted w v y.claim) st.seats i x
            (none_note w st inv first count exclusive) (λ j _. inv.notes j);
        placed = λ h. each_seat (λ j y. ArePlaced v j y.placed) st.seats i x (inv.placed h i)
            (λ j _. inv.placed h j);
        candidates = λ c stands. let h = inv.candidates c stands in (
          h.0,
          λ alive s p at. let y = h.1 (was exclusive _ _ alive) s p at in (
            record { backed = y.0.backed; cached = y.0.cached; firm = y.0.firm },
            guard_put st.seats i x s (λ e q. absurd
                (hits exclusive first count _ _ s e q (sector_range _ _ _ s p at) _ alive)) y.1,
          ),
        );
        legal = inv.legal;
        plain = inv.plain;
      }
    where
      was : (e o a : Bool) → (if e && o then false else a) ≡ true → a ≡ true
      was true true a h = absurd (cc)
      was true false a h = h
      was false o a h = h

      hits : (e : Bool) (a n b m s : ℕ) → e ≡ true → (a ≤ s) × (s < a + n) → (b ≤ s) × (s < b + m)
          → (alive : Bool) → (if e && overlap a n b m then false else alive) ≡ true → ⊥
      hits false a n b m s e q r alive h = cc
      hits true a n b m s e q r alive h =
          let q0 = q.0 in let q1 = q.1 in let r0 = r.0 in let r1 = r.1 in
          go (nat_le (suc a) (b + m)) (nat_le (suc b) (a + n))
          (by_le (suc a) (b + m) (λ z. z ≡ true) (λ _. refl) (λ l. absurd (omega arith)))
          (by_le (suc b) (a + n) (λ z. z ≡ true) (λ _. refl) (λ l. absurd (omega arith))) _ h
        where
          go : (x y : Bool) → x ≡ true → y ≡ true → (alive : Bool)
              → (if x && y then false else alive) ≡ true → ⊥
          go true true a b alive h = cc
          go true false a b alive h = cc
          go false y a b alive h = cc

  -- notes that a seat learns
  pub keep_learn : (i : ℕ) (note : Note) → IsNoted w v (learnt w st.books (claim_of st i) note)
      → (learnt w st.books (claim_of st i) note).exclusive ≡ (claim_of st i).exclusive
      → (learnt w st.books (claim_of st i) note).first ≡ (claim_of st i).first
      → (learnt w st.books (claim_of st i) note).count ≡ (claim_of st i).count
      → (learnt w st.books (claim_of st i) note).wrote ≡ (claim_of st i).wrote → IsTruthful w
      (after w st i (Learn note))
  keep_learn i note new e a b wr =
      let x : Seat = record (st.seats i) { claim = learnt w st.books (claim_of st i) note } in
      keep_seat w st inv i x (λ j ne. elim (same_claim w st inv i j ne) [
        | inl y ↦ inl (e ∙ y.0, y.1)
        | inr y ↦ inr
            (λ s p q. y s (let p0 = p.0 in let p1 = p.1 in (omega arith, omega arith)) q)
      ]) new
      (λ h. inv.placed h i)
      (seat_candidates w st inv (put_seat st.seats i x) (guarded_as w st inv i x e a b (λ h. wr ∙ h)))

  pub raised_cases : (o : Option Pointer) (old : Option Value) (x : Value)
      → unless_raised w.books.bucket k.generations.version o old ≡ Some x → (r : Pointer)
      × (o ≡ Some r) × (k.generations.version (w.books.bucket r.place) ≡ r.version) × (old ≡ Some x)
  raised_cases None old x e = absurd (cc)
  raised_cases (Some r) old x e = by_test (k.generations.version (w.books.bucket r.place)) r.version
      (λ z. (if z then old else None) ≡ Some x → (q : Pointer) × (Some r ≡ Some q)
      × (k.generations.version (w.books.bucket q.place) ≡ q.version) × (old ≡ Some x))
      (λ is h. (r, refl, is, h)) (λ ne h. absurd (cc)) e

  pub keep_look : (i leaf : ℕ) → IsEnabled w st i (Learn (Look leaf)) → IsTruthful w
      (after w st i (Learn (Look leaf)))
  keep_look i leaf on =
      let n = inv.notes i in
      let c = claim_of st i in
      let at : (s : ℕ) → Covers (claim_of st i) s → (m : ℕ) → st.books.index.changed leaf ≤ m
      → st.books.index.at m s ≡ st.books.index.at st.books.index.count s = λ s q m le. f.still.still m s
      (let x : st.books.index.changed
      (st.books.index.leaf s) ≡ st.books.index.changed leaf = ap st.books.index.changed
      (on.can s q) in omega arith) in
      keep_learn i (Look leaf) (record {
        young = (f.counted.leaves leaf, (n.young).1);
        bare = λ _ _ _ s q e m since. at s q m since.0 ∙ e;
        gone = n.gone;
        sight = λ _ s q. inv.truth on.heard s;
        deep = λ _ s q m since. subst (λ o. IsTrueAt w v o s (now w.image st.history s))
            (sym (at s q m since.0)) (inv.truth on.heard s);
        cached = λ s x r e. absurd (cc);
        backed = λ s x e. absurd (cc);
        checked = λ s x e.
            let h = raised_cases (c.sight s) (c.from_cache s) x e in
            let y = n.cached s x h.0 h.3 h.1 in
            (y.1, y.3 (live_durable w k f h.0 y.2 h.2), n.deep y.0 s y.1);
        copied = n.copied;
        firmed = n.firmed;
        through = n.through;
      }) refl refl refl refl

  pub keep_cache_read : (i first : ℕ) (vs : List Value) → IsEnabled w st i (Learn (CacheRead first vs))
      → IsTruthful w (after w st i (Learn (CacheRead first vs)))
  keep_cache_read i first vs on =
      let n = inv.notes i in
      keep_learn i (CacheRead first vs) (record {
        young = n.young;
        bare = n.bare;
        gone = n.gone;
        sight = n.sight;
        deep = n.deep;
        cached = λ s x r e at. elim (noted_cases (at_run first vs s)
            ((claim_of st i).from_cache s) x e) [
              | inl h ↦
                  let c = on.can.1 s x h in
                  let same : c.1.0 ≡ r = some_ref c.1.0 r (sym c.1.1 ∙ at) in
                  let t : IsTrueAt w v (Some r) s (now w.image st.history s) = subst
                  (λ o. IsTrueAt w v o s (now w.image st.history s)) at (n.sight on.can.0 s c.0) in (
                    on.can.0,
                    c.0,
                    t.0,
                    λ d. t.1 d x
                        (subst (λ (q : Pointer). Among x (st.cache.reads q.place)) same c.1.2),
                  )
              | inr h ↦ n.cached s x r h.1 at
            ];
        backed = n.backed;
        checked = n.checked;
        copied = n.copied;
        firmed = n.firmed;
        through = n.through;
      }) refl refl refl refl

  pub backed_value : (o : Option Pointer) (s : ℕ) (x : Value) → IsTrueAt w v o s x → IsBacked o → Only x
      (st.backing.reads s)
  backed_value None s x h b = h
  backed_value (Some r) s x h b = h.2 b

  pub keep_backing_read : (i first : ℕ) (vs : List Value) → IsEnabled w st i
      (Learn (BackingRead first vs)) → IsTruthful w (after w st i (Learn (BackingRead first vs)))
  keep_backing_read i first vs on =
      let n = inv.notes i in
      keep_learn i (BackingRead first vs) (record {
        young = n.young;
        bare = n.bare;
        gone = n.gone;
        sight = n.sight;
        deep = n.deep;
        cached = n.cached;
        backed = λ s x e. elim (noted_cases (at_run first vs s) ((claim_of st i).from_backing s) x e) [
          | inl h ↦ let c = on.can.1 s x h in
              (c.0, λ b. let o = backed_value _ s _ (n.sight on.can.0 s c.0) b in (o x c.1, o))
          | inr h ↦ n.backed s x h.1
        ];
        checked = n.checked;
        copied = n.copied;
        firmed = n.firmed;
        through = n.through;
      }) refl refl refl refl
