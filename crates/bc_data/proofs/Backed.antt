-- What is said, and writes and barriers of the backing device.
use Rattle.std.proofs.Common.{◌≡◌, ◌≢◌, inl, inr, ℕ, ◌≤◌, true, false, List, [], ◌∷◌, Option, Some, None, refl, sym, ap, subst, arith}
use Rattle.bc_model.specs.Sector.{Value, at_run, unless, Gives}
use Rattle.bc_model.specs.History.{gives, now, IsLegal}
use Rattle.bc_model.specs.declared.history.Entry.{Entry}
use Rattle.bc_disk.specs.Device.{Only, instead, besides, written}
use Rattle.bc_books.specs.Books.{Books}
use Rattle.bc_books.specs.Invariant.{IsInOrder}
use Rattle.bc_books.proofs.Later.{law_stays}
use Rattle.bc_data.specs.Seats.{Seat, Covers, with_write, unless_run}
use Rattle.bc_data.specs.Data.{Opening, State, Around, Copy, Speech, Answer, BeginFlush, EndFlush, Acknowledge, BackingWrite, BackingBarrier, Say, index_of, claim_of}
use Rattle.bc_data.specs.Enabled.{IsBare, CanPutBack, CanSay, IsEnabled}
use Rattle.bc_data.specs.Invariant.{View, view, IsTrueAt, IsNoted, ArePlaced, IsGuarded, IsTruthful}
use Rattle.bc_data.specs.After.{last_write, spoken, after}
use Rattle.bc_data.proofs.Runs.{miss, only_one, reads_there, instead_only, besides_only}
use Rattle.bc_data.proofs.Truth.{live_durable, Moved, true_moved, only_at, seat_moved, blank}
use Rattle.bc_data.proofs.Kept.{each_seat, apart_put, guard_put}
use Rattle.bc_data.proofs.Kept.{guarded_as, keep_candidate, keep_flat, low, not_both, same_claim}

module _ (w : Opening) (st : State) (inv : IsTruthful w st) where
  abbrev v : View
  v = view w st

  abbrev k : Books
  k = st.books

  f : IsInOrder w.books st.books
  f = inv.books

  -- the history grows by what writes nothing
  pub says_nothing : (i : ℕ) (speech : Speech) (s : ℕ) → gives (spoken i speech) s ≡ None
  says_nothing i (Answer line first values) s = refl
  says_nothing i (BeginFlush line) s = refl
  says_nothing i (EndFlush line) s = refl
  says_nothing i (Acknowledge line first count) s = refl

  pub present_said : (e : Entry) (s : ℕ) → gives e s ≡ None → now w.image
      (e ∷ st.history) s ≡ now w.image st.history s
  present_said e s h = ap (λ (o : Option Value). unless o (now w.image st.history s)) h

  pub right : (i : ℕ) (speech : Speech) → CanSay w st i speech → IsLegal w.image
      (spoken i speech ∷ st.history)
  right i (Answer line first values) on = (
    (λ s x h. let q = on.1 s x h in let n = inv.notes i in elim q.1 [
      | inl y ↦ ((n.backed s x y.0).1 y.1).0
      | inr y ↦ (let c = n.cached s x y.0 y.3 y.1 in c.3 (live_durable w k f y.0 c.2 y.2))
    ]),
    inv.legal,
  )
  right i (BeginFlush line) on = (tt, inv.legal)
  right i (EndFlush line) on = (tt, inv.legal)
  right i (Acknowledge line first count) on = (tt, inv.legal)

  pub keep_say : (i : ℕ) (speech : Speech) → IsEnabled w st i (Say speech) → IsTruthful w
      (after w st i (Say speech))
  keep_say i speech on =
      let st' = after w st i (Say speech) in
      let x : Seat = (st'.seats i) in
      let same : (s : ℕ) → now w.image
      (spoken i speech ∷ st.history) s ≡ now w.image st.history s = λ s. present_said
      (spoken i speech) s (says_nothing i speech s) in
      let m : Moved w v (view w st')
      (λ s. Unit {0}) = record { books = law_stays w.books k [] f tt; cached = λ r y a d o. o; backed = λ s p h. h; stable = λ s p h o. o; present = λ s p. same s } in
      keep_flat w st inv st' f m refl (λ h. h) (right i speech on.can)
      (apart_put st.seats i _ (same_claim w st inv i) inv.apart)
      (λ move. each_seat (λ j y. IsNoted w (view w st') y.claim) st.seats i _ (move _ (inv.notes i))
      (λ j _. move _ (inv.notes j)))
      (λ h. each_seat (λ j y. ArePlaced (view w st') j y.placed) st.seats i _ (inv.placed h i)
      (λ j _. inv.placed h j))
      (λ c. (keep_candidate w st inv) st' (λ s. Unit {0}) f m (λ n lt le. absurd (omega arith)) c
      (λ t o. (o, λ y q. q)) (λ s g. (tt, (guarded_as w st inv) i _ refl refl refl (λ h. h) s g)))

  -- copies of what is present
  pub copy_value : (i first : ℕ) (vs : List Value) → CanPutBack w st i Copy first vs → (s : ℕ)
      (x : Value) → at_run first vs s ≡ Some x → Covers (claim_of st i) s
      × (x ≡ now w.image st.history s)
  copy_value i first vs on s x h = let c = on.checked s x h in let n =
      (inv.notes i).checked s x c.1 in (n.0, n.1)

  pub copied_reads : (i first : ℕ) (vs : List Value) → CanPutBack w st i Copy first vs → (s : ℕ) → Only
      (now w.image st.history s) (st.backing.reads s) → Only (now w.image st.history s)
      ((written first vs st.backing).reads s)
  copied_reads i first vs on s h = instead_only (at_run first vs s) (st.backing.reads s) _
      (λ x e. (copy_value i first vs on s x e).1) (λ _. h)

  pub copied_more : (i first : ℕ) (vs : List Value) → CanPutBack w st i Copy first vs → (s : ℕ)
      (old : List Value) → Only (now w.image st.history s) old → Only (now w.image st.history s)
      (besides (at_run first vs s) old)
  copied_more i first vs on s old h = besides_only (at_run first vs s) old _
      (λ x e. (copy_value i first vs on s x e).1) h

  pub keep_copy : (i first : ℕ) (vs : List Value) → IsEnabled w st i (BackingWrite Copy first vs)
      → IsTruthful w (after w st i (BackingWrite Copy first vs))
  keep_copy i first vs on =
      let st' = after w st i (BackingWrite Copy first vs) in
      let m : Moved w v (view w st')
      (λ s. Unit {0}) = record {
        books = law_stays w.books k [] f tt;
        cached = λ r y a d o. o;
        backed = λ s p h. copied_reads i first vs on.can s h;
        stable = λ s p h o. copied_more i first vs on.can s
            (st.backing.leaves s) o;
        present = λ s p. refl;
      } in
      keep_flat w st inv st' f m refl (λ h. h) inv.legal
      (apart_put st.seats i _ (same_claim w st inv i) inv.apart)
      (λ move. each_seat (λ j y. IsNoted w (view w st') y.claim) st.seats i _
      (let n = move _ (inv.notes i) in record {
        young = n.young;
        bare = n.bare;
        gone = n.gone;
        sight = n.sight;
        deep = n.deep;
        cached = n.cached;
        backed = n.backed;
        checked = n.checked;
        firmed = n.firmed;
        through = n.through;
        copied = λ s. copied s (at_run first vs s) refl (n.copied s);
      }) (λ j _. move _ (inv.notes j)))
      (λ h. each_seat (λ j y. ArePlaced (view w st') j y.placed) st.seats i _ (inv.placed h i)
      (λ j _. inv.placed h j))
      (λ c. (keep_candidate w st inv) st' (λ s. Unit {0}) f m (λ n lt le. absurd (omega arith)) c
      (λ t o. (o, λ y q. q)) (λ s g. (tt, (guarded_as w st inv) i _ refl refl refl (λ h. h) s g)))
    where
      B : ℕ → Type 0
      B s = Covers (claim_of st i) s × Only (now w.image st.history s)
          ((written first vs st.backing).reads s)

      copied : (s : ℕ) (o : Option Value) → at_run first vs s ≡ o
          → ((claim_of st i).back s ≡ true → B s) → unless_run o
          ((claim_of st i).back s) true ≡ true → Covers (claim_of st i) s × Only
          (now w.image st.history s) ((written first vs st.backing).reads s)
      copied s None is old e = old e
      copied s (Some x) is old e = let c = copy_value i first vs on.can s x is in (
        c.0,
        instead_only (at_run first vs s) (st.backing.reads s) _
            (λ y z. (copy_value i first vs on.can s y z).1) (λ z. absurd (cc)),
      )

  pub keep_backing_barrier : (i : ℕ) → IsTruthful w (after w st i BackingBarrier)
  keep_backing_barrier i =
      let st' = after w st i BackingBarrier in
      let m : Moved w v (view w st')
      (λ s. Unit {0}) = record { books = law_stays w.books k [] f tt; cached = λ r y a d o. o; backed = λ s p h. h; stable = λ s p h o. h; present = λ s p. refl } in
      keep_flat w st inv st' f m refl (λ h. h) inv.legal inv.apart
      (λ move j. let n = move _ (inv.notes j) in record {
        young = n.young;
        bare = n.bare;
        gone = n.gone;
        sight = n.sight;
        deep = n.deep;
        cached = n.cached;
        backed = n.backed;
        checked = n.checked;
        copied = n.copied;
        through = n.through;
        firmed = λ s e. let c = (inv.notes j).copied s e in (c.0, c.1, c.1);
      })
      inv.placed
      (λ c stands. let h = inv.candidates c stands in (
        h.0,
        λ alive s p at. let y = h.1 alive s p at in
            (record { backed = y.0.backed; cached = y.0.cached; firm = λ _. y.0.backed }, y.1),
      ))

  -- what is written around the cache
  pub bare_index : (i s : ℕ) → (claim_of st i).exclusive ≡ true → (claim_of st i).wrote ≡ false
      → Covers (claim_of st i) s → IsBare w.plain (claim_of st i) k.journal.durable s → (n : ℕ)
      → k.journal.durable ≤ n → n ≤ k.index.count → k.index.at n s ≡ None
  bare_index i s x wr q b n le top = elim b [
    | inl p ↦ (let z = inv.plain p in let z0 = z.0 in let is : n ≡ 0 = omega arith in subst
        (λ m. k.index.at m s ≡ None) (sym is) (z.1 s))
    | inr b2 ↦ elim b2 [
      | inl h ↦ (let few = h.2 in (inv.notes i).bare h.0 x wr s q h.1 n (omega arith, le, top))
      | inr h ↦ (let few = h.1 in ((inv.notes i).gone s h.0).2 wr n (omega arith, le, top))
    ]
  ]

  pub run_miss : (i j first : ℕ) (vs : List Value) → j ≢ i → (claim_of st i).exclusive ≡ true
      → Gives first vs (λ s x. Covers (claim_of st i) s) → (s : ℕ) → Covers (claim_of st j) s
      → at_run first vs s ≡ None
  run_miss i j first vs ne x mine s q = miss (at_run first vs s)
      (λ y h. (not_both w st inv) i j ne x s (mine s y h) q)

  pub guard_miss : (i first : ℕ) (vs : List Value) → (claim_of st i).exclusive ≡ true
      → (claim_of st i).wrote ≡ false → Gives first vs (λ s x. Covers (claim_of st i) s) → (s : ℕ)
      → IsGuarded st.seats s → at_run first vs s ≡ None
  guard_miss i first vs x wr mine s g = miss (at_run first vs s)
      (λ y h. let z = g i x (mine s y h) in absurd (cc))

  pub keep_around : (i line first : ℕ) (vs : List Value) → IsEnabled w st i
      (BackingWrite (Around line) first vs) → IsTruthful w
      (after w st i (BackingWrite (Around line) first vs))
  keep_around i line first vs on =
      let st' = after w st i (BackingWrite (Around line) first vs) in
      let P : ℕ → Type 0 = λ s. at_run first vs s ≡ None in
      let x : Seat = record (st.seats i) {
        claim = with_write (claim_of st i)
            (at_run first vs);
        last = last_write line first vs st.books.journal.durable false;
      } in
      let mine : Gives first vs (λ s y. Covers (claim_of st i) s) = λ s y h. (on.can.bare s y h).0 in
      let excl = on.can.exclusive in
      let wr = on.can.first_write in
      let m : Moved w v (view w st') (λ s. at_run first vs s ≡ None) = record {
        books = law_stays w.books k [] f tt;
        cached = λ r y a d o. o;
        backed = λ s p h. subst (λ l. Only (now w.image st.history s) l)
            (sym (ap (λ (o : Option Value). instead o (st.backing.reads s)) p)) h;
        stable = λ s p h o. subst (λ l. Only (now w.image st.history s) l)
            (sym (ap (λ (o : Option Value). besides o (st.backing.leaves s)) p)) o;
        present = λ s p. ap (λ (o : Option Value). unless o (now w.image st.history s)) p;
      } in
      record {
        books = f;
        apart = apart_put st.seats i x (same_claim w st inv i) inv.apart;
        truth = λ h s. there s (at_run first vs s) refl
            (λ is. true_moved w v (view w st') (λ s. at_run first vs s ≡ None) m _ s is
            (inv.truth h s));
        notes = each_seat (λ j y. IsNoted w (view w st') y.claim) st.seats i x
            (blank w (view w st') (with_write (claim_of st i) (at_run first vs)) refl refl refl
            (λ s. refl) (λ s. refl) (λ s. refl) (λ s. refl) (λ s. refl) (λ s. refl)
            (λ s y e. (
              mine s y e,
              excl,
              refl,
              sym (new_present s y e),
              only_at _ _ _
                  (new_present s y e) (new_reads s y e),
            )))
            (λ j ne. seat_moved w v (view w st') (λ s. at_run first vs s ≡ None) f m
            (λ n lt le. absurd (omega arith)) (claim_of st j)
            (run_miss i j first vs ne excl mine) (λ _ _ s q e n lt le. absurd (omega arith))
            (inv.notes j));
        placed = λ h. each_seat (λ j y. ArePlaced (view w st') j y.placed) st.seats i x
            (inv.placed h i) (λ j _. inv.placed h j);
        candidates = λ c. (keep_candidate w st inv) st' (λ s. at_run first vs s ≡ None) f m
            (λ n lt le. absurd (omega arith)) c (λ t o. (o, λ y q. q))
            (λ s g. (
              guard_miss i first vs excl wr mine s g,
              guard_put st.seats i x s
                  (λ _ _. inr refl) g,
            ));
        legal = (tt, inv.legal);
        plain = inv.plain;
      }
    where
      new_present : (s : ℕ) (y : Value) → at_run first vs s ≡ Some y → unless (at_run first vs s)
          (now w.image st.history s) ≡ y
      new_present s y e = ap (λ (o : Option Value). unless o (now w.image st.history s)) e

      new_reads : (s : ℕ) (y : Value) → at_run first vs s ≡ Some y → Only y
          ((written first vs st.backing).reads s)
      new_reads s y e = subst (λ l. Only y l) (sym (reads_there st.backing first vs s y e)) (only_one y)

      there : (s : ℕ) (o : Option Value) → at_run first vs s ≡ o
          → (at_run first vs s ≡ None → IsTrueAt w
          (view w (after w st i (BackingWrite (Around line) first vs))) (index_of st s) s
          (unless (at_run first vs s) (now w.image st.history s)))
          → IsTrueAt w (view w (after w st i (BackingWrite (Around line) first vs)))
          (index_of st s) s (unless (at_run first vs s) (now w.image st.history s))
      there s None is old = old is
      there s (Some y) is old =
          let g = on.can.bare s y is in
          subst (λ o. IsTrueAt w (view w (after w st i (BackingWrite (Around line) first vs))) o s
          (unless (at_run first vs s) (now w.image st.history s)))
          (sym (bare_index i s on.can.exclusive on.can.first_write g.0 g.1 k.index.count (low w st inv)
          (omega arith))) (only_at _ _ _ (new_present s y is) (new_reads s y is))
