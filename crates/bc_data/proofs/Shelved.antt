-- Steps of the books, pins and candidates.
use Rattle.std.proofs.Common.{◌≡◌, ◌≢◌, ◌⊎◌, inl, inr, ℕ, true, false, [], ◌∷◌, Some, None, if◌then◌else◌, refl, sym, ap, ◌∙◌, subst}
use Rattle.bc_model.specs.Sector.{Value}
use Rattle.bc_model.specs.History.{now}
use Rattle.bc_model.proofs.Cases.{by_test}
use Rattle.bc_disk.specs.Device.{Only}
use Rattle.bc_books.specs.Index.{within, put}
use Rattle.bc_books.specs.Shelves.{Fresh, Own, Kept, Spent, IsPinned}
use Rattle.bc_books.specs.Books.{Books, Step, Put, Pin, Unpin, Keep, Raise}
use Rattle.bc_books.specs.Enabled.{CanStep}
use Rattle.bc_books.specs.After as books
use Rattle.bc_books.specs.Invariant.{IsInOrder}
use Rattle.bc_books.specs.Laws.{IsLater}
use Rattle.bc_books.proofs.Cases.{by_bool, put_run_cases, put_cases, in_place}
use Rattle.bc_books.proofs.Opening.{kept_run}
use Rattle.bc_books.proofs.Later.{law_stays}
use Rattle.bc_data.specs.Seats.{Claim, Seat, Candidate, Apart, put_seat}
use Rattle.bc_data.specs.Data.{Opening, State, Stage, NoteCandidate, PinPlaces, UnpinPlaces, UnpinDead, Shelve, claim_of}
use Rattle.bc_data.specs.Enabled.{IsShelving, IsEnabled}
use Rattle.bc_data.specs.Invariant.{View, view, IsNoted, ArePlaced, IsGuarded, IsPromised, IsKeptFor, IsTruthful}
use Rattle.bc_data.specs.After.{after}
use Rattle.bc_data.proofs.Truth.{Moved, only_at}
use Rattle.bc_data.proofs.Kept.{each_seat, apart_put}
use Rattle.bc_data.proofs.Kept.{guarded_as, keep_flat, kept_same, own_guard, own_same, same_claim, shared_guard}

module _ (w : Opening) (st : State) (inv : IsTruthful w st) where
  abbrev v : View
  v = view w st

  abbrev k : Books
  k = st.books

  f : IsInOrder w.books st.books
  f = inv.books

  pub shelf_facts : (stage : Stage) (i : ℕ) (x : Step) → IsShelving stage i x → CanStep w.books k x
      → ((books.after w.books k x).index.count ≡ k.index.count)
      × ((t : ℕ) → ((books.after w.books k x).owner t ≡ k.owner t)
      ⊎ (((books.after w.books k x).owner t ≡ Fresh) × (IsPinned (k.owner t) → ⊥)))
  shelf_facts stage i (Put leaf keys) q on = absurd q
  shelf_facts stage i (Pin j place count) q on = absurd q
  shelf_facts stage i (Unpin place count) q on = absurd q
  shelf_facts stage i (Keep c place count) q on = absurd q
  shelf_facts stage i (Raise b) q on = (
    refl,
    λ t. by_test (w.books.bucket t) b
        (λ z. ((if z then Fresh else k.owner t) ≡ k.owner t)
        ⊎ (((if z then Fresh else k.owner t) ≡ Fresh) × (IsPinned (k.owner t) → ⊥)))
        (λ is. inr (refl, on.0.unpinned t is)) (λ _. inl refl),
  )
  shelf_facts stage i x q on = (refl, λ t. inl refl)

  -- the books alone change, and the seat's list of what it placed
  pub keep_books : (i : ℕ) (x : Seat) (k' : Books) (candidates : ℕ → Candidate)
      → x.claim ≡ claim_of st i → IsInOrder w.books k' → IsLater w.books k k'
      → k'.index.count ≡ k.index.count
      → (st.halted ≡ false → ArePlaced (record v { books = k' }) i x.placed)
      → ((t j : ℕ) → j ≢ i → k'.owner t ≡ Own j → k.owner t ≡ Own j)
      → ((c : ℕ) → ((st' : State) → IsKeptFor w (record v { books = k' }) (put_seat st.seats i x) c
      (candidates c)))
      → IsTruthful w (record st { books = k'; seats = put_seat st.seats i x; candidates = candidates })
  keep_books i x k' candidates claim f' g same mine others kept =
      let st' : State = record st { books = k'; seats = put_seat st.seats i x; candidates = candidates } in
      let m : Moved w v (view w st')
      (λ s. Unit {0}) = record { books = g; cached = λ r y a d o. o; backed = λ s p h. h; stable = λ s p h o. o; present = λ s p. refl } in
      keep_flat w st inv st' f' m same (λ h. h) inv.legal
      (apart_put st.seats i x (λ j ne. subst (λ c. Apart c (claim_of st j)) (sym claim)
      (same_claim w st inv i j ne)) inv.apart)
      (λ move. each_seat (λ j y. IsNoted w (view w st') y.claim) st.seats i x
      (subst (λ c. IsNoted w (view w st') c) (sym claim) (move _ (inv.notes i)))
      (λ j _. move _ (inv.notes j)))
      (λ h. each_seat (λ j y. ArePlaced (view w st') j y.placed) st.seats i x (mine h)
      (λ j ne t y own e. inv.placed h j t y (others t j ne own) e))
      (λ c. kept c st')

  -- a candidate of which the books leave every place alone
  pub book_candidate : (i : ℕ) (x : Seat) (k' : Books) → x.claim ≡ claim_of st i → (c : ℕ)
      → ((t : ℕ) → k.owner t ≡ Kept c → k'.owner t ≡ Kept c) → IsKeptFor w (record v { books = k' })
      (put_seat st.seats i x) c (st.candidates c)
  book_candidate i x k' claim c owner stands =
      let h = inv.candidates c stands in (
        (λ t q. owner t (h.0 t q)),
        λ alive s p at. let y = h.1 alive s p at in (
          record { backed = y.0.backed; cached = y.0.cached; firm = y.0.firm },
          guarded_as w st inv i x
              (ap (λ (c : Claim). c.exclusive) claim) (ap (λ (c : Claim). c.first) claim)
              (ap (λ (c : Claim). c.count) claim)
              (λ h. ap (λ (c : Claim). c.wrote) claim ∙ h) s y.1,
        ),
      )

  pub keep_shelf : (i : ℕ) (step : Step) → IsEnabled w st i (Shelve step) → IsTruthful w
      (after w st i (Shelve step))
  keep_shelf i step on =
      let facts = shelf_facts st.stage i step on.can on.steps.0 in
      let back : (t j : ℕ) → (books.after w.books k step).owner t ≡ Own j
      → k.owner t ≡ Own j = λ t j e. elim
      (facts.1 t) [ inl y ↦ sym y ∙ e | inr y ↦ (let z = y.0 in absurd (cc)) ] in
      keep_books i (st.seats i) (books.after w.books k step) st.candidates refl
      (kept_run w.books k (step ∷ []) f on.steps)
      (law_stays w.books k (step ∷ []) f on.steps) facts.0
      (λ h t y own e. inv.placed h i t y (back t i own) e) (λ t j _. back t j)
      (λ c _. book_candidate i (st.seats i) (books.after w.books k step) refl c
      (λ t e. elim (facts.1 t) [
        | inl y ↦ y ∙ e
        | inr y ↦ absurd
            (y.1 (subst (λ o. IsPinned o) (sym e) tt))
      ]))

  pub keep_pin : (i place count : ℕ) → IsEnabled w st i (PinPlaces place count) → IsTruthful w
      (after w st i (PinPlaces place count))
  keep_pin i place count on =
      let k' = books.after w.books k (Pin i place count) in
      let x : Seat = record (st.seats i) {
        placed = λ t. if within place count t then None else
            (st.seats i).placed t;
      } in
      keep_books i x k' st.candidates refl (kept_run w.books k (Pin i place count ∷ []) f on.steps)
      (law_stays w.books k (Pin i place count ∷ []) f on.steps) refl
      (λ h t y. by_bool (within place count t)
      (λ z. (if z then Own i else k.owner t) ≡ Own i
      → (if z then None else (st.seats i).placed t) ≡ Some y → Only y (st.cache.reads t))
      (λ _ _ e. absurd (cc)) (λ _ own e. inv.placed h i t y own e))
      (λ t j ne. put_run_cases k.owner place count t (Own i) (λ o. o ≡ Own j → k.owner t ≡ Own j)
      (λ _ e. e) (λ _ e. absurd (ne (sym (own_same w st inv i j e)))))
      (λ c _. book_candidate i x k' refl c
      (λ t e. put_run_cases k.owner place count t (Own i) (λ o. o ≡ Kept c) (λ _. e)
      (λ q. let z = on.steps.0.fresh t q in absurd (cc))))

  pub keep_unpin : (i place count : ℕ) → IsEnabled w st i (UnpinPlaces place count) → IsTruthful w
      (after w st i (UnpinPlaces place count))
  keep_unpin i place count on =
      let k' = books.after w.books k (Unpin place count) in
      let back : (t j : ℕ) → k'.owner t ≡ Own j
      → k.owner t ≡ Own j = λ t j. put_run_cases k.owner place count t Spent
      (λ o. o ≡ Own j → k.owner t ≡ Own j) (λ _ e. e) (λ _ e. absurd (cc)) in
      keep_books i (st.seats i) k' st.candidates refl
      (kept_run w.books k (Unpin place count ∷ []) f on.steps)
      (law_stays w.books k (Unpin place count ∷ []) f on.steps) refl
      (λ h t y own e. inv.placed h i t y (back t i own) e) (λ t j _. back t j)
      (λ c _. book_candidate i (st.seats i) k' refl c
      (λ t e. put_run_cases k.owner place count t Spent (λ o. o ≡ Kept c) (λ _. e)
      (λ q. elim (on.can t q) [ inl z ↦ absurd (cc) | inr z ↦ absurd (cc) ])))

  pub keep_unpin_dead : (i number : ℕ) → IsEnabled w st i (UnpinDead number) → IsTruthful w
      (after w st i (UnpinDead number))
  keep_unpin_dead i number on =
      let place = (st.candidates number).place in let count = (st.candidates number).count in
      let k' = books.after w.books k
      (Unpin (st.candidates number).place (st.candidates number).count) in
      let back : (t j : ℕ) → k'.owner t ≡ Own j → k.owner t ≡ Own j = λ t j. put_run_cases k.owner
      (st.candidates number).place (st.candidates number).count t Spent
      (λ o. o ≡ Own j → k.owner t ≡ Own j) (λ _ e. e) (λ _ e. absurd (cc)) in
      keep_books i (st.seats i) k' (put st.candidates number
      (record (st.candidates number) { stands = false })) refl
      (kept_run w.books k (Unpin place count ∷ []) f on.steps)
      (law_stays w.books k (Unpin place count ∷ []) f on.steps) refl
      (λ h t y own e. inv.placed h i t y (back t i own) e) (λ t j _. back t j)
      (λ c _. put_cases st.candidates number c (record (st.candidates number) { stands = false })
      (λ x. IsKeptFor w (record v { books = k' }) (put_seat st.seats i (st.seats i)) c x)
      (λ ne. book_candidate i (st.seats i) k' refl c
      (λ t e. put_run_cases k.owner (st.candidates number).place
      (st.candidates number).count t Spent (λ o. o ≡ Kept c) (λ _. e)
      (λ q. let z = (inv.candidates number on.can.0).0 t q in absurd
      (ne (kept_same w st inv c number (sym e ∙ z))))))
      (λ _ e. absurd (cc)))

  pub keep_note_candidate : (i number first count place : ℕ) → IsEnabled w st i
      (NoteCandidate number first count place) → IsTruthful w
      (after w st i (NoteCandidate number first count place))
  keep_note_candidate i number first count place on =
      let k' = books.after w.books k (Keep number place count) in
      let x = st.seats i in
      let n = inv.notes i in
      let own : (t : ℕ) → within place count t ≡ true → k.owner t ≡ Own i = on.can.own in
      let back : (t j : ℕ) → k'.owner t ≡ Own j
      → k.owner t ≡ Own j = λ t j. put_run_cases k.owner place count t (Kept number)
      (λ o. o ≡ Own j → k.owner t ≡ Own j) (λ _ e. e) (λ _ e. absurd (cc)) in
      let new : Candidate = record { first = first; count = count; place = place; stands = true; alive = true; firm = false } in
      let promised : (s p : ℕ) (y : Value) → st.halted ≡ false → IsGuarded st.seats s
      → y ≡ now w.image st.history s → Only (now w.image st.history s) (st.backing.reads s)
      → k.owner p ≡ Own i → (st.seats i).placed p ≡ Some y → IsPromised w
      (record v { books = k' }) new s p × IsGuarded (put_seat st.seats i (st.seats i)) s =
      λ s p y h g is o own2 e. (
        record {
          backed = o;
          cached = only_at _ _ _ (sym is)
              (inv.placed h i p y own2 e);
          firm = λ z. absurd (cc);
        },
        guarded_as w st inv i
            (st.seats i) refl refl refl (λ z. z) s g,
      ) in
      keep_books i x k' (put st.candidates number new) refl
      (kept_run w.books k (Keep number place count ∷ []) f on.steps)
      (law_stays w.books k (Keep number place count ∷ []) f on.steps) refl
      (λ h t y own2 e. inv.placed h i t y (back t i own2) e) (λ t j _. back t j)
      (λ c _. put_cases st.candidates number c new
      (λ x. IsKeptFor w (record v { books = k' }) (put_seat st.seats i (st.seats i)) c x)
      (λ ne. book_candidate i (st.seats i) k' refl c
      (λ t e. put_run_cases k.owner place count t (Kept number) (λ o. o ≡ Kept c) (λ _. e)
      (λ q. let z = own t q in absurd (cc))))
      (λ is _. (
        (λ t q. put_run_cases k.owner place count t (Kept number) (λ o. o ≡ Kept c)
            (λ no_. absurd (cc)) (λ _. ap Kept (sym is))),
        λ _ s p at.
            let m = on.can.values s p at in
            let own2 = own p (in_place first place count s p at) in
            elim m.source [
              | inl h ↦ (let b = (n.backed s m.value h.read).1 h.backed in
                  promised s p m.value on.heard
                  (shared_guard w st inv i s h.shared m.covers) b.0 b.1 own2 m.placed)
              | inr h ↦ (let b = n.through s m.value h in promised s p m.value on.heard
                  (own_guard w st inv i s b.1 b.2 b.0) b.3 b.4 own2 m.placed)
            ],
      )))
