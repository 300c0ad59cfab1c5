-- Writes and barriers of the cache device.
use Rattle.std.proofs.Common.{◌≡◌, ◌≢◌, ◌⊎◌, inl, inr, ℕ, List, [], Option, Some, None, refl, sym, ap, ◌∙◌, subst, arith}
use Rattle.bc_model.specs.Sector.{Value, at_run}
use Rattle.bc_disk.specs.Device.{Only, instead, besides, written, failed}
use Rattle.bc_books.specs.Index.{Pointer}
use Rattle.bc_books.specs.Shelves.{Fresh, Own, Raised, IsPinned}
use Rattle.bc_books.specs.Books.{Books}
use Rattle.bc_books.specs.Invariant.{IsInOrder}
use Rattle.bc_books.specs.Laws.{IsAged}
use Rattle.bc_books.proofs.Opening.{kept_run}
use Rattle.bc_books.proofs.Later.{law_stays}
use Rattle.bc_data.specs.Seats.{Seat}
use Rattle.bc_data.specs.Data.{Opening, State, Payload, Data, Metadata, JournalEntry, CacheWrite, CacheBarrier}
use Rattle.bc_data.specs.Enabled.{steps_of, IsSpare, MayWrite, CanWrite, IsEnabled}
use Rattle.bc_data.specs.Invariant.{View, view, IsLasting, IsNoted, ArePlaced, IsTruthful}
use Rattle.bc_data.specs.After.{placed_after, after}
use Rattle.bc_data.proofs.Runs.{miss, only_one, reads_there}
use Rattle.bc_data.proofs.Truth.{live_spent, Moved}
use Rattle.bc_data.proofs.Kept.{each_seat, apart_put, noted_cases}
use Rattle.bc_data.proofs.Kept.{guarded_as, keep_candidate, keep_flat, own_same, same_claim}

module _ (w : Opening) (st : State) (inv : IsTruthful w st) where
  abbrev v : View
  v = view w st

  abbrev k : Books
  k = st.books

  f : IsInOrder w.books st.books
  f = inv.books

  -- writes of the cache device
  pub spare_calm : (i t : ℕ) → IsSpare w.books k i t → k.shelf (w.books.bucket t) ≢ Raised
  spare_calm i t h r = elim h.apart [
    | inl x ↦
        (let y = f.marked.loose (w.books.bucket t) x in absurd (cc))
    | inr x ↦
        (let y = x.1 in absurd (cc))
  ]

  pub free_run : (i : ℕ) (payload : Payload) (t : ℕ) → MayWrite w.books k i payload t
      → ((k.owner t ≡ Own i) ⊎ (k.owner t ≡ Fresh)) × (k.shelf (w.books.bucket t) ≢ Raised)
  free_run i Data t h = (inl h, f.placed.calm t (subst (λ o. IsPinned o) (sym h) tt))
  free_run i Metadata t h = (inr h.fresh, spare_calm i t h)
  free_run i JournalEntry t h = (inr h.fresh, spare_calm i t h)

  pub live_miss : (i : ℕ) (payload : Payload) (place : ℕ) (vs : List Value)
      → CanWrite w st i payload place vs → (r : Pointer) → IsAged w.books k r → IsLasting w k r
      → at_run place vs r.place ≡ None
  live_miss i payload place vs on r a d = miss (at_run place vs r.place)
      (λ x e. let q = free_run i payload r.place (on.places r.place x e) in
      let s = live_spent w k f r a d q.1 in elim q.0 [ inl y ↦ absurd (cc) | inr y ↦ absurd (cc) ])

  pub other_miss : (i : ℕ) (payload : Payload) (place : ℕ) (vs : List Value)
      → CanWrite w st i payload place vs → (t : ℕ) → k.owner t ≢ Own i → k.owner t ≢ Fresh
      → at_run place vs t ≡ None
  other_miss i payload place vs on t not_own nf = miss (at_run place vs t)
      (λ x e. let q = free_run i payload t (on.places t x e) in
      elim q.0 [ inl y ↦ not_own y | inr y ↦ nf y ])

  pub written_miss : (place : ℕ) (vs : List Value) (t : ℕ) (x : Value) → at_run place vs t ≡ None
      → Only x (st.cache.reads t) → Only x ((written place vs st.cache).reads t)
  written_miss place vs t x e h = subst (λ l. Only x l)
      (sym (ap (λ (o : Option Value). instead o (st.cache.reads t)) e)) h

  pub failed_miss : (place : ℕ) (vs : List Value) (t : ℕ) (x : Value) → at_run place vs t ≡ None
      → Only x (st.cache.reads t) → Only x ((failed place vs st.cache).reads t)
  failed_miss place vs t x e h = subst (λ l. Only x l)
      (sym (ap (λ (o : Option Value). besides o (st.cache.reads t)) e)) h

  pub placed_write : (i : ℕ) (payload : Payload) (place : ℕ) (vs : List Value)
      → CanWrite w st i payload place vs → ArePlaced v i (st.seats i).placed → (t : ℕ) (x : Value)
      → k.owner t ≡ Own i → placed_after payload place vs (st.seats i).placed t ≡ Some x → Only x
      ((written place vs st.cache).reads t)
  placed_write i Data place vs on old t x own e = elim
      (noted_cases (at_run place vs t) ((st.seats i).placed t) x e) [
        | inl h ↦ subst (λ l. Only x l) (sym (reads_there st.cache place vs t x h)) (only_one x)
        | inr h ↦ written_miss place vs t x h.0 (old t x own h.1)
      ]
  placed_write i Metadata place vs on old t x own e = written_miss place vs t x
      (miss (at_run place vs t) (λ y h. let z = (on.places t y h).fresh in absurd (cc)))
      (old t x own e)
  placed_write i JournalEntry place vs on old t x own e = written_miss place vs t x
      (miss (at_run place vs t) (λ y h. let z = (on.places t y h).fresh in absurd (cc)))
      (old t x own e)

  pub keep_cache_write : (i : ℕ) (payload : Payload) (place : ℕ) (vs : List Value) → IsEnabled w st i
      (CacheWrite payload place vs) → IsTruthful w (after w st i (CacheWrite payload place vs))
  keep_cache_write i payload place vs on =
      let st' = after w st i (CacheWrite payload place vs) in
      let x : Seat = record (st.seats i) {
        placed = placed_after payload place vs
            (st.seats i).placed;
      } in
      let f' : IsInOrder w.books st'.books = kept_run w.books k
      (steps_of st.candidates i (CacheWrite payload place vs)) f on.steps in
      let m : Moved w v (view w st')
      (λ s. Unit {0}) = record {
        books = law_stays w.books k
            (steps_of st.candidates i
            (CacheWrite payload place vs)) f on.steps;
        cached = λ r y a d o. written_miss place vs r.place y
            (live_miss i payload place vs on.can r a d) o;
        backed = λ s p h. h;
        stable = λ s p h o. o;
        present = λ s p. refl;
      } in
      keep_flat w st inv st' f' m refl (λ h. h) inv.legal
      (apart_put st.seats i x (same_claim w st inv i) inv.apart)
      (λ move. each_seat (λ j y. IsNoted w (view w st') y.claim) st.seats i x (move _ (inv.notes i))
      (λ j _. move _ (inv.notes j)))
      (λ h. each_seat (λ j y. ArePlaced (view w st') j y.placed) st.seats i x
      (λ t y own. placed_write i payload place vs on.can (inv.placed h i) t y own)
      (λ j ne t y own e. let o : k.owner t ≡ Own j = own in written_miss place vs t y
      (other_miss i payload place vs on.can t (λ z. ne (own_same w st inv j i (sym o ∙ z)))
      (λ z. absurd (cc))) (inv.placed h j t y o e)))
      (λ c. (keep_candidate w st inv) st' (λ s. Unit {0}) f' m (λ n lt le. absurd (omega arith)) c
      (λ t o. (
        o,
        λ y. written_miss place vs t y
            (other_miss i payload place vs on.can t (λ z. absurd (cc)) (λ z. absurd (cc))),
      ))
      (λ s g. (tt, (guarded_as w st inv) i x refl refl refl (λ h. h) s g)))

  pub keep_cache_barrier : (i : ℕ) → IsEnabled w st i CacheBarrier → IsTruthful w
      (after w st i CacheBarrier)
  keep_cache_barrier i on =
      let st' = after w st i CacheBarrier in
      let x = st.seats i in
      let f' : IsInOrder w.books st'.books = f in
      let m : Moved w v (view w st')
      (λ s. Unit {0}) = record { books = law_stays w.books k [] f tt; cached = λ r y a d o. o; backed = λ s p h. h; stable = λ s p h o. o; present = λ s p. refl } in
      keep_flat w st inv st' f' m refl (λ h. h) inv.legal
      (apart_put st.seats i x (same_claim w st inv i) inv.apart)
      (λ move. each_seat (λ j y. IsNoted w (view w st') y.claim) st.seats i x (move _ (inv.notes i))
      (λ j _. move _ (inv.notes j)))
      (λ h. each_seat (λ j y. ArePlaced (view w st') j y.placed) st.seats i x (inv.placed h i)
      (λ j _. inv.placed h j))
      (λ c. (keep_candidate w st inv) st' (λ s. Unit {0}) f' m (λ n lt le. absurd (omega arith)) c
      (λ t o. (o, λ y q. q)) (λ s g. (tt, (guarded_as w st inv) i x refl refl refl (λ h. h) s g)))
