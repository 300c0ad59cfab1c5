-- Calls of the devices that change nothing that is shown.
use Rattle.std.proofs.Common.{◌≡◌, ◌⊎◌, inl, inr, ℕ, ◌≤◌, Bool, true, false, List, [], Option, Some, if◌then◌else◌, refl, sym, ap, ◌∙◌, subst, arith}
use Rattle.bc_model.specs.Sector.{Value, at_run}
use Rattle.bc_model.specs.History.{now}
use Rattle.bc_model.specs.declared.history.Entry.{Entry}
use Rattle.bc_disk.specs.Device.{Content, Among, instead, besides, written, settled}
use Rattle.bc_books.specs.Index.{Pointer}
use Rattle.bc_books.specs.Books.{Books}
use Rattle.bc_books.specs.Invariant.{IsInOrder}
use Rattle.bc_books.specs.Laws.{IsAged, IsLater}
use Rattle.bc_books.proofs.Later.{law_stays, key_aged}
use Rattle.bc_data.specs.Seats.{Seat}
use Rattle.bc_data.specs.Data.{Opening, Stage, State, Payload, Copy, CacheWrite, CacheBarrier, BackingWrite, BackingBarrier}
use Rattle.bc_data.specs.Enabled.{CanPutBack, IsEnabled}
use Rattle.bc_data.specs.After.{stage_after, placed_after, after}
use Rattle.bc_data.specs.Invariant.{view, IsLasting, IsTrueAt, IsTruthful}
use Rattle.bc_data.proofs.Truth.{counts_of, was_live}
use Rattle.bc_data.proofs.Placed.{live_miss}
use Rattle.bc_data.proofs.Backed.{copy_value}
use Rattle.bc_crash.specs.Tables.{Tables, tables_after}
use Rattle.bc_crash.specs.Invariant.{IsGood, any_flush, IsSeatKnown, IsHarmlessOf, IsHarmless}
use Rattle.bc_crash.proofs.Good.{good_less}
use Rattle.bc_crash.proofs.Kept.{flat_write, besides_case, instead_case, honest_written, filled_written, Flat}
use Rattle.bc_crash.proofs.Kept.{crash_books, same_fine, seat_claim}

module _ (w : Opening) (st : State) (inv : IsTruthful w st) (table : Tables)
    (c : IsHarmless w st table) where
  abbrev k : Books
  k = st.books

  abbrev H : List Entry
  H = st.history

  f : IsInOrder w.books st.books
  f = inv.books

  low : k.journal.durable ≤ k.index.count
  low = let x = (counts_of w.books k f) in let x0 = x.0 in let x1 = x.1 in omega arith

  -- the cache changes where no live key points
  pub crash_cache : (k' : Books) (stage' : Stage) → Flat k st.stage k' stage' → IsLater w.books k k'
      → (new : Content) (all : ℕ → Seat) (halted : Bool) → (halted ≡ false → st.halted ≡ false)
      → ((i : ℕ) → IsSeatKnown i halted st.history table.need table.safe (all i))
      → ((t : ℕ) (x : Value) → Among x (new.reads t) → Among x (new.leaves t))
      → ((t : ℕ) → (x : Value) × Among x (new.reads t))
      → ((r : Pointer) → IsAged w.books k r → IsLasting w k r
      → (new.reads r.place ≡ st.cache.reads r.place)
      × (new.leaves r.place ≡ st.cache.leaves r.place))
      → IsHarmlessOf w k' stage' new st.backing all st.history halted table.need table.safe
  crash_cache k' stage' flat g new all halted was seats honest filled same =
      let b = (crash_books w st inv table c) k' stage' flat g st.seats c.seats in
      record {
        tables = b.tables;
        floors = b.floors;
        begun = c.begun;
        seats = seats;
        honest = honest;
        honest_back = b.honest_back;
        filled = filled;
        cached = λ n s r le top e d. subst
            (λ l. IsGood w.image st.history s n (table.need s) any_flush (λ x. Among x l))
            (sym (at n s r (let l = flat.later in omega arith) e d).0) (b.cached n s r le top e d);
        backed = b.backed;
        present = λ h. b.present (was h);
        firm = λ n s r q e d x a.
            let y = at n s r (elim (flat.stands n q) [ inl z ↦ omega arith | inr z ↦ z.1 ]) e d in
            subst (λ l. Among x l) (sym y.0) (b.firm n s r q e d x (subst (λ l. Among x l) y.1 a));
        agree = λ n s r le top e cl d x y a. b.agree n s r le top e cl d x y
            (subst (λ l. Among x l) (at n s r (let l = flat.later in omega arith) e d).0 a);
      }
    where
      at : (n s : ℕ) (r : Pointer) → k.journal.durable ≤ n → k'.index.at n s ≡ Some r
          → IsLasting w k' r → (new.reads r.place ≡ st.cache.reads r.place)
          × (new.leaves r.place ≡ st.cache.leaves r.place)
      at n s r le e d = let a = key_aged w.books k f n s r le (sym (flat.index n s) ∙ e) in same r a
          (was_live w k k' g r a d)

  pub crash_cache_write : (i : ℕ) (payload : Payload) (place : ℕ) (vs : List Value) → IsEnabled w st i
      (CacheWrite payload place vs) → IsHarmless w (after w st i (CacheWrite payload place vs))
      (tables_after st table (CacheWrite payload place vs))
  crash_cache_write i payload place vs on =
      crash_cache k (stage_after st.stage (CacheWrite payload place vs))
      (flat_write k st.stage payload place vs on.can.sendable) (law_stays w.books k [] f tt)
      (written place vs st.cache) _ st.halted (λ h. h)
      (seat_claim w st inv table c i _
      (same_fine w st inv table c i (st.seats i)
      (placed_after payload place vs (st.seats i).placed)
      (c.seats i)))
      (honest_written st.cache place vs c.honest) (filled_written st.cache place vs c.filled)
      (λ r a d. let e = live_miss w st inv i payload place vs on.can r a d in (
        ap (λ (o : Option Value). instead o (st.cache.reads r.place)) e,
        ap
            (λ (o : Option Value). besides o (st.cache.leaves r.place)) e,
      ))

  pub crash_cache_barrier : (i : ℕ) → IsEnabled w st i CacheBarrier → IsHarmless w
      (after w st i CacheBarrier) (tables_after st table CacheBarrier)
  crash_cache_barrier i on = record {
    tables = c.tables;
    floors = c.floors;
    begun = c.begun;
    seats = (seat_claim w st inv table c) i (st.seats i) (c.seats i);
    honest = λ t x a. a;
    honest_back = c.honest_back;
    filled = c.filled;
    cached = c.cached;
    backed = c.backed;
    present = c.present;
    firm = λ n s r q e d x a. a;
    agree = c.agree;
  }

  -- copies of the present
  pub crash_copy : (i first : ℕ) (vs : List Value) (new : Content) (all : ℕ → Seat) (halted : Bool)
      → CanPutBack w st i Copy first vs → (halted ≡ false → st.halted ≡ false)
      → ((i : ℕ) → IsSeatKnown i halted st.history table.need table.safe (all i))
      → ((t : ℕ) (x : Value) → Among x (new.reads t) → Among x (new.leaves t))
      → ((s : ℕ) (x : Value) → Among x (new.reads s) → Among x (st.backing.reads s)
      ⊎ (at_run first vs s ≡ Some x))
      → ((s : ℕ) (x : Value) → Among x (new.leaves s) → Among x (st.backing.leaves s)
      ⊎ (at_run first vs s ≡ Some x))
      → IsHarmlessOf w k st.stage st.cache new all st.history halted table.need table.safe
  crash_copy i first vs new all halted on was seats honest reads leaves = record {
    tables = c.tables;
    floors = c.floors;
    begun = c.begun;
    seats = seats;
    honest = c.honest;
    honest_back = honest;
    filled = c.filled;
    cached = c.cached;
    backed = λ n s le top b. good_less w.image st.history s n (table.need s) _ _ _ _ (λ f q. q)
        (λ x h. elim (leaves s x h) [
          | inl y ↦ inl y
          | inr y ↦ inr
              (copy_value w st inv i first vs on s x y).1
        ]) (c.backed n s le top b);
    present = λ h n s le top b. good_less w.image st.history s n (table.need s) _ _ _ _ (λ f q. q)
        (λ x h. elim (reads s x h) [
          | inl y ↦ inl y
          | inr y ↦ inr
              (copy_value w st inv i first vs on s x y).1
        ]) (c.present (was h) n s le top b);
    firm = c.firm;
    agree = λ n s r le top e cl d x y a b. elim (leaves s y b) [
      | inl z ↦ c.agree n s r le top e cl d x y a z
      | inr z ↦
          (let v = copy_value w st inv i first vs on s y z in
          let n1 = (inv.notes i).checked s y (on.checked s y z).1 in
          let t = subst (λ o. IsTrueAt w (view w st) o s (now w.image st.history s)) e
          (n1.2 n ((let q = on.known in omega arith), le, top)) in
          t.1 d x a ∙ sym v.1)
    ];
  }

  pub crash_backing_barrier : (i : ℕ) → IsHarmless w (after w st i BackingBarrier)
      (tables_after st table BackingBarrier)
  crash_backing_barrier i = go st.halted refl
    where
      seat_firm : (z : Bool) → st.halted ≡ z → (j : ℕ)
          → IsSeatKnown j st.halted st.history table.need (if z then table.safe else (λ s f. true))
          ((after w st i BackingBarrier).seats j)
      seat_firm true is j = record {
        flush = λ a. absurd (cc);
        last = λ a. absurd (cc);
        few = (c.seats j).few;
        gone = (c.seats j).gone;
      }
      seat_firm false is j = record {
        flush = λ a b. let y = (c.seats j).flush a b in
            record { begun = y.begun; counted = y.counted; firm = λ _ s. refl };
        last = λ a b. let y = (c.seats j).last a b in
            record { exclusive = y.exclusive; some = y.some; covers = y.covers; counted = y.counted; firm = λ _ s q. refl };
        few = (c.seats j).few;
        gone = (c.seats j).gone;
      }

      go : (z : Bool) → st.halted ≡ z → IsHarmlessOf w st.books st.stage st.cache
          (settled st.backing) (after w st i BackingBarrier).seats st.history st.halted table.need
          (if z then table.safe else (λ s f. true))
      go true is = record {
        tables = c.tables;
        floors = c.floors;
        begun = c.begun;
        seats = seat_firm true is;
        honest = c.honest;
        honest_back = λ t x a. a;
        filled = c.filled;
        cached = c.cached;
        backed = λ n s le top b. good_less w.image st.history s n (table.need s) _ _ _ _ (λ f q. q)
            (λ x h. inl (c.honest_back s x h)) (c.backed n s le top b);
        present = c.present;
        firm = c.firm;
        agree = λ n s r le top e cl d x y a b. c.agree n s r le top e cl d x y a (c.honest_back s y b);
      }
      go false is = record {
        tables = λ s. let t = c.tables s in
            record { zero = t.zero; top = t.top; mono = t.mono; flat = t.flat; safe_zero = refl; safe_flat = λ f l. refl };
        floors = λ s. let x = c.floors s in (refl, x.1, x.2);
        begun = c.begun;
        seats = seat_firm false is;
        honest = c.honest;
        honest_back = λ t x a. a;
        filled = c.filled;
        cached = c.cached;
        backed = λ n s le top b. good_less w.image st.history s n (table.need s) any_flush _
            (λ x. Among x (st.backing.reads s)) _ (λ f q. tt) (λ x h. inl h)
            (c.present is n s le top b);
        present = c.present;
        firm = c.firm;
        agree = λ n s r le top e cl d x y a b. c.agree n s r le top e cl d x y a (c.honest_back s y b);
      }

  pub crash_copied : (i first : ℕ) (vs : List Value) → IsEnabled w st i (BackingWrite Copy first vs)
      → IsHarmless w (after w st i (BackingWrite Copy first vs))
      (tables_after st table (BackingWrite Copy first vs))
  crash_copied i first vs on =
      crash_copy i first vs (written first vs st.backing) _ st.halted on.can (λ h. h)
      (seat_claim w st inv table c i _ (let h = c.seats i in record {
        flush = λ a b. let y = h.flush a b in
            record { begun = y.begun; counted = y.counted; firm = y.firm };
        last = λ a b. let y = h.last a b in
            record { exclusive = y.exclusive; some = y.some; covers = y.covers; counted = y.counted; firm = y.firm };
        few = h.few;
        gone = h.gone;
      }))
      (honest_written st.backing first vs c.honest_back)
      (λ s x a. instead_case (at_run first vs s) (st.backing.reads s) x a)
      (λ s x a. besides_case (at_run first vs s) (st.backing.leaves s) x a)
