-- Each act keeps what the law on answers rests on.
use Rattle.bc_data.proofs.Learnt.{keep_backing_read, keep_cache_read, keep_look, keep_make_claim, keep_release}
use Rattle.bc_data.proofs.Shelved.{keep_note_candidate, keep_pin, keep_shelf, keep_unpin, keep_unpin_dead}
use Rattle.bc_data.proofs.Inserted.{keep_insert, keep_insert_write, keep_settle}
use Rattle.std.proofs.Common.{◌≡◌, inr, ℕ, true, List, [], ◌∷◌, Option, None, refl, sym, ap, subst, arith}
use Rattle.bc_model.specs.Sector.{Value, at_run, Gives}
use Rattle.bc_model.specs.History.{now}
use Rattle.bc_disk.specs.Device.{Content, Only, besides, failed}
use Rattle.bc_books.specs.Shelves.{Kept}
use Rattle.bc_books.specs.Books.{Books}
use Rattle.bc_books.specs.Invariant.{IsInOrder}
use Rattle.bc_books.proofs.Later.{law_stays}
use Rattle.bc_data.specs.Seats.{Seat, Covers, nothing, with_write, put_seat}
use Rattle.bc_data.specs.Data.{Opening, State, Look, CacheRead, BackingRead, Around, Copy, Fault, CacheFault, BackingFault, BarrierFault, ReadFault, Act, MakeClaim, Release, Learn, CacheWrite, CacheBarrier, BackingWrite, BackingBarrier, InsertWrite, Insert, NoteCandidate, Settle, PinPlaces, UnpinPlaces, UnpinDead, Shelve, Say, Fail, Event, claim_of}
use Rattle.bc_data.specs.Enabled.{IsEnabled}
use Rattle.bc_data.specs.Invariant.{View, view, IsNoted, IsTruthfulOf, IsTruthful}
use Rattle.bc_data.specs.After.{after, IsCourse, course}
use Rattle.bc_data.proofs.Truth.{Moved, seat_moved, blank}
use Rattle.bc_data.proofs.Kept.{each_seat, apart_put, guard_put}
use Rattle.bc_data.proofs.Kept.{guarded_as, keep_candidate, keep_flat, keep_seat, same_claim, seat_candidates}
use Rattle.bc_data.proofs.Placed.{failed_miss, keep_cache_barrier, keep_cache_write, live_miss, other_miss}
use Rattle.bc_data.proofs.Backed.{copied_more, guard_miss, keep_around, keep_backing_barrier, keep_copy, keep_say, run_miss}

module _ (w : Opening) (st : State) (inv : IsTruthful w st) where
  abbrev v : View
  v = view w st

  abbrev k : Books
  k = st.books

  f : IsInOrder w.books st.books
  f = inv.books

  -- a fault that leaves the claims as they are
  pub keep_fault : (i : ℕ) (d e : Content) (fault : Fault) → Moved w v
      (record v { cache = d.reads; reads = e.reads; leaves = e.leaves }) (λ s. Unit {0})
      → ((t c : ℕ) (x : Value) → k.owner t ≡ Kept c → Only x (st.cache.reads t) → Only x
      (d.reads t)) → IsTruthfulOf w
      (record v { cache = d.reads; reads = e.reads; leaves = e.leaves }) true
      (put_seat st.seats i (st.seats i)) st.candidates st.history
  keep_fault i d e fault m kept =
      let st' : State = record st {
        cache = d;
        backing = e;
        halted = true;
        seats = put_seat st.seats i
            (st.seats i);
      } in
      keep_flat w st inv st' f m refl (λ h. absurd (cc)) inv.legal
      (apart_put st.seats i (st.seats i) (same_claim w st inv i) inv.apart)
      (λ move. each_seat (λ j y. IsNoted w (view w st') y.claim) st.seats i (st.seats i)
      (move _ (inv.notes i)) (λ j _. move _ (inv.notes j)))
      (λ h. absurd (cc))
      (λ c. (keep_candidate w st inv) st' (λ s. Unit {0}) f m (λ n lt le. absurd (omega arith)) c
      (λ t o. (o, λ y. kept t c y o))
      (λ s g. (tt, (guarded_as w st inv) i (st.seats i) refl refl refl (λ h. h) s g)))

  pub same_moved : Moved w v v (λ s. Unit {0})
  same_moved = record { books = law_stays w.books k [] f tt; cached = λ r y a d o. o; backed = λ s p h. h; stable = λ s p h o. o; present = λ s p. refl }

  pub keep_fail : (i : ℕ) (fault : Fault) → IsEnabled w st i (Fail fault) → IsTruthful w
      (after w st i (Fail fault))
  keep_fail i (CacheFault payload place vs) on =
      keep_fault i (failed place vs st.cache) st.backing (CacheFault payload place vs)
      (record {
        books = law_stays w.books k [] f tt;
        cached = λ r y a d o. (failed_miss w st inv) place vs r.place y
            (live_miss w st inv i payload place vs on.can r a d) o;
        backed = λ s p h. h;
        stable = λ s p h o. o;
        present = λ s p. refl;
      })
      (λ t c x o. (failed_miss w st inv) place vs t x
      (other_miss w st inv i payload place vs on.can t (λ z. absurd (cc)) (λ z. absurd (cc))))
  keep_fail i (BackingFault Copy first vs) on =
      keep_fault i st.cache (failed first vs st.backing) (BackingFault Copy first vs)
      (record {
        books = law_stays w.books k [] f tt;
        cached = λ r y a d o. o;
        backed = λ s p h. (copied_more w st inv) i first vs on.can s
            (st.backing.reads s) h;
        stable = λ s p h o. (copied_more w st inv) i first vs on.can s
            (st.backing.leaves s) o;
        present = λ s p. refl;
      })
      (λ t c x o h. h)
  keep_fail i BarrierFault on = keep_fault i st.cache st.backing BarrierFault same_moved
      (λ t c x o h. h)
  keep_fail i ReadFault on =
      keep_seat w st inv i (st.seats i) (same_claim w st inv i) (inv.notes i) (λ h. inv.placed h i)
      (seat_candidates w st inv (put_seat st.seats i (st.seats i))
      (guarded_as w st inv i (st.seats i) refl refl refl (λ h. h)))
  keep_fail i (BackingFault (Around line) first vs) on =
      let st' = after w st i (Fail (BackingFault (Around line) first vs)) in
      let x : Seat = record (st.seats i) { claim = with_write (claim_of st i) nothing } in
      let mine : Gives first vs (λ s y. Covers (claim_of st i) s) = λ s y h. (on.can.bare s y h).0 in
      let excl = on.can.exclusive in
      let wr = on.can.first_write in
      let m : Moved w v (view w st') (λ s. at_run first vs s ≡ None) = record {
        books = law_stays w.books k [] f tt;
        cached = λ r y a d o. o;
        backed = λ s p h. subst (λ l. Only (now w.image st.history s) l)
            (sym (ap (λ (o : Option Value). besides o (st.backing.reads s)) p)) h;
        stable = λ s p h o. subst (λ l. Only (now w.image st.history s) l)
            (sym (ap (λ (o : Option Value). besides o (st.backing.leaves s)) p)) o;
        present = λ s p. refl;
      } in
      record {
        books = f;
        apart = apart_put st.seats i x (same_claim w st inv i) inv.apart;
        truth = λ h. absurd (cc);
        notes = each_seat (λ j y. IsNoted w (view w st') y.claim) st.seats i x
            (blank w (view w st') (with_write (claim_of st i) nothing) refl refl refl (λ s. refl)
            (λ s. refl) (λ s. refl) (λ s. refl) (λ s. refl) (λ s. refl) (λ s y e. absurd (cc)))
            (λ j ne. seat_moved w v (view w st') (λ s. at_run first vs s ≡ None) f m
            (λ n lt le. absurd (omega arith)) (claim_of st j)
            (run_miss w st inv i j first vs ne excl mine) (λ _ _ s q e n lt le. absurd (omega arith))
            (inv.notes j));
        placed = λ h. absurd (cc);
        candidates = λ c. (keep_candidate w st inv) st' (λ s. at_run first vs s ≡ None) f m
            (λ n lt le. absurd (omega arith)) c (λ t o. (o, λ y q. q))
            (λ s g. (
              guard_miss w st inv i first vs excl wr mine s g,
              guard_put st.seats i x s
                  (λ _ _. inr refl) g,
            ));
        legal = (tt, inv.legal);
        plain = inv.plain;
      }

pub keep_act : (w : Opening) (st : State) (i : ℕ) (act : Act) → IsEnabled w st i act
    → IsTruthful w st → IsTruthful w (after w st i act)
keep_act w st i
    (MakeClaim first count exclusive) on inv = keep_make_claim w st inv i first count exclusive on
keep_act w st i Release on inv = keep_release w st inv i
keep_act w st i (Learn (Look leaf)) on inv = keep_look w st inv i leaf on
keep_act w st i (Learn (CacheRead first vs)) on inv = keep_cache_read w st inv i first vs on
keep_act w st i (Learn (BackingRead first vs)) on inv = keep_backing_read w st inv i first vs on
keep_act w st i (CacheWrite payload place vs) on inv = keep_cache_write w st inv i payload place vs on
keep_act w st i CacheBarrier on inv = keep_cache_barrier w st inv i on
keep_act w st i (BackingWrite (Around line) first vs) on inv = keep_around w st inv i line first vs on
keep_act w st i (BackingWrite Copy first vs) on inv = keep_copy w st inv i first vs on
keep_act w st i BackingBarrier on inv = keep_backing_barrier w st inv i
keep_act w st i
    (InsertWrite line leaf keys first vs) on inv = keep_insert_write w st inv i line leaf keys first vs on
keep_act w st i (Insert form leaf keys) on inv = keep_insert w st inv i form leaf keys on on.heard
keep_act w st i
    (NoteCandidate number first count place) on inv = keep_note_candidate w st inv i number first count place on
keep_act w st i (Settle number leaf keys) on inv = keep_settle w st inv i number leaf keys on
keep_act w st i (PinPlaces place count) on inv = keep_pin w st inv i place count on
keep_act w st i (UnpinPlaces place count) on inv = keep_unpin w st inv i place count on
keep_act w st i (UnpinDead number) on inv = keep_unpin_dead w st inv i number on
keep_act w st i (Shelve step) on inv = keep_shelf w st inv i step on
keep_act w st i (Say speech) on inv = keep_say w st inv i speech on
keep_act w st i (Fail fault) on inv = keep_fail w st inv i fault on

pub keep_course : (w : Opening) (st : State) (es : List Event) → IsCourse w st es → IsTruthful w st
    → IsTruthful w (course w st es)
keep_course w st [] run inv = inv
keep_course w st (e ∷ es) run inv = keep_course w (after w st e.seat e.act) es run.1
    (keep_act w st e.seat e.act run.0 inv)
