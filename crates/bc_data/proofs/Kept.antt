-- What an act leaves of the invariant that it doesn't touch.
use Rattle.std.proofs.Common.{◌≡◌, ◌≢◌, ◌⊎◌, inl, inr, ℕ, ◌<◌, ◌≤◌, Bool, true, false, Option, Some, None, if◌then◌else◌, refl, sym, ap, ◌∙◌, subst, arith}
use Rattle.bc_model.specs.Sector.{Value}
use Rattle.bc_model.specs.History.{now, IsLegal}
use Rattle.bc_model.proofs.Cases.{by_test}
use Rattle.bc_disk.specs.Device.{Only}
use Rattle.bc_books.specs.Shelves.{Own, Kept}
use Rattle.bc_books.specs.Books.{Books}
use Rattle.bc_books.specs.Invariant.{IsInOrder}
use Rattle.bc_books.proofs.Cases.{in_place}
use Rattle.bc_data.specs.Seats.{Claim, Seat, Covers, Apart, new_claim, put_seat, noted}
use Rattle.bc_data.specs.Data.{Opening, State, claim_of}
use Rattle.bc_data.specs.Invariant.{View, view, IsTrueAt, IsNoted, ArePlaced, IsGuarded, IsKeptFor, AreApart, IsTruthful}
use Rattle.bc_data.proofs.Truth.{counts_of, Moved, true_moved, seat_moved, promise_moved, blank}

pub each_seat : (P : ℕ → Seat → Type 0) (seats : ℕ → Seat) (i : ℕ) (x : Seat) → P i x
    → ((k : ℕ) → k ≢ i → P k (seats k)) → (k : ℕ) → P k (put_seat seats i x k)
each_seat P seats i x here others k =
    by_test k i (λ b. P k (if b then x else seats k)) (λ e. subst (λ n. P n x) (sym e) here)
    (λ ne. others k ne)

pub apart_sym : (a b : Claim) → Apart a b → Apart b a
apart_sym a b (inl h) = inl (h.1, h.0)
apart_sym a b (inr h) = inr (λ s q p. h s p q)

pub apart_put : (seats : ℕ → Seat) (i : ℕ) (x : Seat)
    → ((k : ℕ) → k ≢ i → Apart x.claim (seats k).claim) → AreApart seats → AreApart
    (put_seat seats i x)
apart_put seats i x new old =
    each_seat (λ a y. (k : ℕ) → a ≢ k → Apart y.claim (put_seat seats i x k).claim) seats i x
    (each_seat (λ k y. i ≢ k → Apart x.claim y.claim) seats i x (λ ne. absurd (ne refl))
    (λ k ne _. new k ne))
    (λ a ne. each_seat (λ k y. a ≢ k → Apart (seats a).claim y.claim) seats i x
    (λ _. apart_sym x.claim (seats a).claim (new a ne)) (λ k _. old a k))

-- a seat's claim that stands as it did keeps what guards a sector
pub guard_put : (seats : ℕ → Seat) (i : ℕ) (x : Seat) (s : ℕ)
    → (x.claim.exclusive ≡ true → Covers x.claim s
    → (((seats i).claim.exclusive ≡ true) × Covers (seats i).claim s
    × ((seats i).claim.wrote ≡ true → x.claim.wrote ≡ true)) ⊎ (x.claim.wrote ≡ true))
    → IsGuarded seats s → IsGuarded (put_seat seats i x) s
guard_put seats i x s same g = each_seat
    (λ k y. y.claim.exclusive ≡ true → Covers y.claim s → y.claim.wrote ≡ true) seats i x
    (λ e q. elim (same e q) [ inl m ↦ m.2 (g i m.0 m.1) | inr y ↦ y ]) (λ k _. g k)

pub noted_cases : (o old : Option Value) (v : Value) → noted o old ≡ Some v → (o ≡ Some v)
    ⊎ ((o ≡ None) × (old ≡ Some v))
noted_cases None old v h = inr (refl, h)
noted_cases (Some x) old v h = inl h

pub All : ℕ → Type 0
All s = Unit {0}

module _ (w : Opening) (st : State) (inv : IsTruthful w st) where
  abbrev v : View
  v = view w st

  abbrev k : Books
  k = st.books

  f : IsInOrder w.books st.books
  f = inv.books

  pub same_claim : (i j : ℕ) → j ≢ i → Apart (claim_of st i) (claim_of st j)
  same_claim i j ne = inv.apart i j (λ e. ne (sym e))

  -- an event that inserts no key
  pub keep_flat : (st' : State) → IsInOrder w.books st'.books → Moved w (view w st) (view w st')
      (λ s. Unit {0}) → st'.books.index.count ≡ st.books.index.count
      → (st'.halted ≡ false → st.halted ≡ false)
      → IsLegal w.image st'.history → AreApart st'.seats
      → (((c : Claim) → IsNoted w (view w st) c → IsNoted w (view w st') c) → (i : ℕ) → IsNoted w
      (view w st') (claim_of st' i))
      → (st'.halted ≡ false → (i : ℕ) → ArePlaced (view w st') i (st'.seats i).placed)
      → ((c : ℕ) → IsKeptFor w (view w st') st'.seats c (st'.candidates c)) → IsTruthful w st'
  keep_flat st' f' m same was legal apart notes placed candidates = record {
    books = f';
    apart = apart;
    truth = λ x s. subst (λ n. IsTrueAt w (view w st') (st'.books.index.at n s) s
        (now w.image st'.history s)) (sym same)
        (subst (λ o. IsTrueAt w (view w st') o s (now w.image st'.history s))
        (sym (m.books.index k.index.count s (omega arith)))
        (true_moved w (view w st) (view w st') (λ s. Unit {0}) m _ s tt (inv.truth (was x) s)));
    notes = notes (λ c. seat_moved w (view w st) (view w st') (λ s. Unit {0}) f m
        (λ n lt le. absurd (omega arith)) c (λ s q. tt)
        (λ x wr s q e n lt le. absurd (omega arith)));
    placed = placed;
    candidates = candidates;
    legal = legal;
    plain = λ e. let x = inv.plain e in (same ∙ x.0, λ s. m.books.index 0 s (omega arith) ∙ x.1 s);
  }

  -- a candidate that the event leaves alone
  pub keep_candidate : (st' : State) (P : ℕ → Type 0) → IsInOrder w.books st'.books → Moved w
      (view w st) (view w st') P → ((n : ℕ) → k.index.count < n → n ≤ st'.books.index.count
      → (s : ℕ) → P s → IsTrueAt w (view w st') (st'.books.index.at n s) s
      (now w.image st'.history s)) → (c : ℕ)
      → ((t : ℕ) → k.owner t ≡ Kept c → (st'.books.owner t ≡ Kept c)
      × ((x : Value) → Only x (st.cache.reads t) → Only x (st'.cache.reads t)))
      → ((s : ℕ) → IsGuarded st.seats s → P s × IsGuarded st'.seats s)
      → IsKeptFor w (view w st') st'.seats c (st.candidates c)
  keep_candidate st' P f' m fresh c owner guard stands =
      let h = inv.candidates c stands in (
        (λ t q. (owner t (h.0 t q)).0),
        λ alive s p at. let y = h.1 alive s p at in let g = guard s y.1 in (
          promise_moved w (view w st) (view w st') P f m fresh (st.candidates c) s p g.0
              (owner p (h.0 p (in_place _ _ _ s p at))).1 y.0,
          g.1,
        ),
      )

  pub still : (st' : State) → st'.books.index.count ≡ k.index.count → (n : ℕ) → k.index.count < n
      → n ≤ st'.books.index.count → (s : ℕ) → Unit {0} → IsTrueAt w (view w st')
      (st'.books.index.at n s) s (now w.image st'.history s)
  still st' same n lt le = absurd (omega arith)

  -- a seat's note changes, and nothing else but claims
  pub keep_seat : (i : ℕ) (x : Seat) → ((j : ℕ) → j ≢ i → Apart x.claim (claim_of st j))
      → IsNoted w v x.claim → (st.halted ≡ false → ArePlaced v i x.placed)
      → ((c : ℕ) → IsKeptFor w v (put_seat st.seats i x) c (st.candidates c)) → IsTruthful w
      (record st { seats = put_seat st.seats i x })
  keep_seat i x apart note placed candidates = record {
    books = inv.books;
    apart = apart_put st.seats i x apart inv.apart;
    truth = inv.truth;
    notes = each_seat (λ j y. IsNoted w v y.claim) st.seats i x note (λ j _. inv.notes j);
    placed = λ h. each_seat (λ j y. ArePlaced v j y.placed) st.seats i x (placed h)
        (λ j _. inv.placed h j);
    candidates = candidates;
    legal = inv.legal;
    plain = inv.plain;
  }

  -- the seat's claim stands as it did
  pub guarded_as : (i : ℕ) (x : Seat) → x.claim.exclusive ≡ (claim_of st i).exclusive
      → x.claim.first ≡ (claim_of st i).first → x.claim.count ≡ (claim_of st i).count
      → ((claim_of st i).wrote ≡ true → x.claim.wrote ≡ true) → (s : ℕ) → IsGuarded st.seats s
      → IsGuarded (put_seat st.seats i x) s
  guarded_as i x e a b wr s = guard_put st.seats i x s
      (λ ex q. let q0 = q.0 in let q1 = q.1 in inl (sym e ∙ ex, (omega arith, omega arith), wr))

  pub seat_candidates : (seats : ℕ → Seat) → ((s : ℕ) → IsGuarded st.seats s → IsGuarded seats s)
      → (c : ℕ) → IsKeptFor w v seats c (st.candidates c)
  seat_candidates seats guard c stands = let h = inv.candidates c stands in
      (h.0, λ alive s p at. let y = h.1 alive s p at in (y.0, guard s y.1))

  pub none_note : (first count : ℕ) (exclusive : Bool) → IsNoted w v (new_claim first count exclusive)
  none_note first count exclusive = blank w v (new_claim first count exclusive) refl refl refl
      (λ s. refl) (λ s. refl) (λ s. refl) (λ s. refl) (λ s. refl) (λ s. refl) (λ s x e. absurd (cc))

  pub own_same : (i j : ℕ) → Own i ≡ Own j → i ≡ j
  own_same i j e = cc

  pub kept_same : (a b : ℕ) → Kept a ≡ Kept b → a ≡ b
  kept_same a b e = cc

  -- an exclusive claim of i and what another seat's claim covers
  pub not_both : (i j : ℕ) → j ≢ i → (claim_of st i).exclusive ≡ true → (s : ℕ) → Covers
      (claim_of st i) s → Covers (claim_of st j) s → ⊥
  not_both i j ne x s mine covers = elim
      (inv.apart i j (λ e. ne (sym e))) [
        | inl both ↦
            (let y = both.0 in absurd (cc))
        | inr apart ↦ apart s mine covers
      ]

  -- a shared claim of i and another seat's exclusive one
  pub shared_guard : (i s : ℕ) → (claim_of st i).exclusive ≡ false → Covers (claim_of st i) s
      → IsGuarded st.seats s
  shared_guard i s e q j x p = by_test j i (λ _. (claim_of st j).wrote ≡ true)
      (λ is. let y = ap (λ (n : ℕ). (claim_of st n).exclusive) is in absurd (cc))
      (λ ne. absurd (not_both j i (λ z. ne (sym z)) x s p q))

  pub own_guard : (i s : ℕ) → (claim_of st i).exclusive ≡ true → (claim_of st i).wrote ≡ true → Covers
      (claim_of st i) s → IsGuarded st.seats s
  own_guard i s e wr q j x p = by_test j i (λ _. (claim_of st j).wrote ≡ true)
      (λ is. ap (λ (n : ℕ). (claim_of st n).wrote) is ∙ wr) (λ ne. absurd (not_both i j ne e s q p))

  pub low : k.journal.durable ≤ k.index.count
  low = let x = (counts_of w.books k f) in let x0 = x.0 in let x1 = x.1 in omega arith
