-- Each act keeps what the law on crashes rests on.
use Rattle.bc_crash.proofs.Said.{crash_say}
use Rattle.bc_crash.proofs.Moved.{crash_insert, crash_settle, owner_flat}
use Rattle.bc_crash.proofs.Written.{crash_insert_write}
use Rattle.std.proofs.Common.{◌≡◌, ℕ, ◌≤◌, true, false, List, [], ◌∷◌, length, Option, refl, sym, ap, subst, arith}
use Rattle.bc_model.specs.Sector.{Value, at_run}
use Rattle.bc_model.specs.declared.history.Entry.{Entry}
use Rattle.bc_disk.specs.Device.{besides, failed}
use Rattle.bc_books.specs.Books.{Books}
use Rattle.bc_books.specs.Invariant.{IsInOrder}
use Rattle.bc_books.proofs.Later.{law_stays}
use Rattle.bc_data.specs.Seats.{Claim, Seat, Covers, put_seat}
use Rattle.bc_data.specs.Data.{Opening, State, Around, Copy, Fault, CacheFault, BackingFault, BarrierFault, ReadFault, Act, MakeClaim, Release, Learn, CacheWrite, CacheBarrier, BackingWrite, BackingBarrier, InsertWrite, Insert, NoteCandidate, Settle, PinPlaces, UnpinPlaces, UnpinDead, Shelve, Say, Fail, Event, claim_of}
use Rattle.bc_data.specs.Enabled.{steps_of, IsEnabled}
use Rattle.bc_data.specs.After.{stage_at_step, after, IsCourse, course}
use Rattle.bc_data.specs.Invariant.{IsTruthful}
use Rattle.bc_data.proofs.Truth.{counts_of}
use Rattle.bc_data.proofs.Kept.{each_seat}
use Rattle.bc_data.proofs.Placed.{live_miss}
use Rattle.bc_data.proofs.Now.{keep_act}
use Rattle.bc_crash.specs.Tables.{Tables, tables_after, tables_of}
use Rattle.bc_crash.specs.Invariant.{IsSeatKnown, IsHarmless}
use Rattle.bc_crash.proofs.Kept.{flat_same, flat_shelf, besides_case, honest_failed, filled_failed}
use Rattle.bc_crash.proofs.Kept.{crash_books, learn_fine, none_fine, same_fine, seat_claim}
use Rattle.bc_crash.proofs.Devices.{crash_backing_barrier, crash_cache, crash_cache_barrier, crash_cache_write, crash_copied, crash_copy}
use Rattle.bc_crash.proofs.Around.{crash_around_bad, crash_around_good}

module _ (w : Opening) (st : State) (inv : IsTruthful w st) (table : Tables)
    (c : IsHarmless w st table) where
  abbrev k : Books
  k = st.books

  abbrev H : List Entry
  H = st.history

  f : IsInOrder w.books st.books
  f = inv.books

  low : k.journal.durable ≤ k.index.count
  low = let x = (counts_of w.books k f) in let x0 = x.0 in let x1 = x.1 in omega arith

  pub fault_seats : (i : ℕ) (x : Seat) → x.claim ≡ claim_of st i → (j : ℕ)
      → IsSeatKnown j true st.history table.need table.safe (put_seat st.seats i x j)
  fault_seats i x same = each_seat
      (λ j y. IsSeatKnown j true st.history table.need table.safe y) st.seats i x
      (let y = c.seats i in record {
        flush = λ h. absurd (cc);
        last = λ h. absurd (cc);
        few = subst (λ (q : Claim). q.looked ≡ true → q.exclusive ≡ true → (s : ℕ) → Covers q s
            → table.need s (length st.history) ≤ q.keys) (sym same) y.few;
        gone = subst (λ (q : Claim). (s : ℕ) → q.gone s ≡ true → Covers q s × (q.exclusive ≡ true)
            × (table.need s (length st.history) ≤ q.gone_keys)) (sym same) y.gone;
      })
      (λ j _. let y = c.seats j in record {
        flush = λ h. absurd (cc);
        last = λ h. absurd (cc);
        few = y.few;
        gone = y.gone;
      })

  pub crash_fail : (i : ℕ) (fault : Fault) → IsEnabled w st i (Fail fault) → IsHarmless w
      (after w st i (Fail fault)) (tables_after st table (Fail fault))
  crash_fail i (CacheFault payload place vs) on =
      crash_cache w st inv table c k st.stage (flat_same k st.stage) (law_stays w.books k [] f tt)
      (failed place vs st.cache) _ true (λ h. absurd (cc)) (fault_seats i (st.seats i) refl)
      (honest_failed st.cache place vs c.honest) (filled_failed st.cache place vs c.filled)
      (λ r a d. let e = live_miss w st inv i payload place vs on.can r a d in (
        ap (λ (o : Option Value). besides o (st.cache.reads r.place)) e,
        ap
            (λ (o : Option Value). besides o (st.cache.leaves r.place)) e,
      ))
  crash_fail i (BackingFault Copy first vs) on =
      crash_copy w st inv table c i first vs (failed first vs st.backing) _ true on.can
      (λ h. absurd (cc))
      (fault_seats i (st.seats i) refl) (honest_failed st.backing first vs c.honest_back)
      (λ s x a. besides_case (at_run first vs s) (st.backing.reads s) x a)
      (λ s x a. besides_case (at_run first vs s) (st.backing.leaves s) x a)
  crash_fail i (BackingFault (Around line) first vs) on =
      (crash_around_bad w st inv table c) i line first vs on.can
  crash_fail i BarrierFault on =
      record {
        tables = c.tables;
        floors = c.floors;
        begun = c.begun;
        seats = fault_seats i
            (st.seats i) refl;
        honest = c.honest;
        honest_back = c.honest_back;
        filled = c.filled;
        cached = c.cached;
        backed = c.backed;
        present = λ h. absurd (cc);
        firm = c.firm;
        agree = c.agree;
      }
  crash_fail i ReadFault on = (crash_books w st inv table c) k st.stage (flat_same k st.stage)
      (law_stays w.books k [] f tt) _ (seat_claim w st inv table c i (st.seats i) (c.seats i))

pub crash_act : (w : Opening) (st : State) (table : Tables) (i : ℕ) (act : Act)
    → IsEnabled w st i act → IsTruthful w st → IsHarmless w st table → IsHarmless w
    (after w st i act) (tables_after st table act)
crash_act w st table i
    (MakeClaim first count exclusive) on inv c = crash_books w st inv table c st.books st.stage
    (flat_same st.books st.stage) (law_stays w.books st.books [] inv.books tt) _
    (seat_claim w st inv table c i _ (none_fine w st inv table c i first count exclusive))
crash_act w st table i Release on inv c = crash_books w st inv table c st.books st.stage
    (flat_same st.books st.stage) (law_stays w.books st.books [] inv.books tt) _
    (seat_claim w st inv table c i _ (none_fine w st inv table c i 0 0 false))
crash_act w st table i (Learn note) on inv c = crash_books w st inv table c st.books st.stage
    (flat_same st.books st.stage) (law_stays w.books st.books [] inv.books tt) _
    (seat_claim w st inv table c i _ (learn_fine w st inv table c i note on))
crash_act w st table i
    (CacheWrite payload place vs) on inv c = crash_cache_write w st inv table c i payload place vs on
crash_act w st table i CacheBarrier on inv c = crash_cache_barrier w st inv table c i on
crash_act w st table i (BackingWrite
    (Around line) first vs) on inv c = crash_around_good w st inv table c i line first vs on.can
crash_act w st table i
    (BackingWrite Copy first vs) on inv c = crash_copied w st inv table c i first vs on
crash_act w st table i BackingBarrier on inv c = crash_backing_barrier w st inv table c i
crash_act w st table i
    (InsertWrite line leaf keys first vs) on inv c = crash_insert_write w st inv table c i line leaf keys first vs on
crash_act w st table i
    (Insert form leaf keys) on inv c = crash_insert w st inv table c i form leaf keys on
crash_act w st table i
    (NoteCandidate number first count place) on inv c = crash_books w st inv table c _ st.stage
    (owner_flat w st inv table c _)
    (law_stays w.books st.books (steps_of st.candidates i
    (NoteCandidate number first count place)) inv.books on.steps) _
    (seat_claim w st inv table c i _ (c.seats i))
crash_act w st table i
    (Settle number leaf keys) on inv c = crash_settle w st inv table c i number leaf keys on
crash_act w st table i (PinPlaces place count) on inv c = crash_books w st inv table c _ st.stage
    (owner_flat w st inv table c _)
    (law_stays w.books st.books (steps_of st.candidates i
    (PinPlaces place count)) inv.books on.steps) _
    (seat_claim w st inv table c i _ (same_fine w st inv table c i (st.seats i) _ (c.seats i)))
crash_act w st table i (UnpinPlaces place count) on inv c = crash_books w st inv table c _ st.stage
    (owner_flat w st inv table c _)
    (law_stays w.books st.books (steps_of st.candidates i
    (UnpinPlaces place count)) inv.books on.steps) _ (seat_claim w st inv table c i _ (c.seats i))
crash_act w st table i (UnpinDead number) on inv c = crash_books w st inv table c _ st.stage
    (owner_flat w st inv table c _)
    (law_stays w.books st.books (steps_of st.candidates i (UnpinDead number)) inv.books on.steps) _
    (seat_claim w st inv table c i _ (c.seats i))
crash_act w st table i (Shelve step) on inv c = crash_books w st inv table c _
    (stage_at_step st.stage step)
    (flat_shelf w st.books st.stage i step inv.books on.can on.steps.0)
    (law_stays w.books st.books (steps_of st.candidates i (Shelve step)) inv.books on.steps) _
    (seat_claim w st inv table c i _ (c.seats i))
crash_act w st table i (Say speech) on inv c = crash_say w st inv table c i speech on
crash_act w st table i (Fail fault) on inv c = crash_fail w st inv table c i fault on

pub crash_course : (w : Opening) (st : State) (table : Tables) (es : List Event) → IsCourse w st es
    → IsTruthful w st → IsHarmless w st table → IsTruthful w (course w st es) × IsHarmless w
    (course w st es) (tables_of w st table es)
crash_course w st table [] run inv c = (inv, c)
crash_course w st table (e ∷ es) run inv c = crash_course w (after w st e.seat e.act)
    (tables_after st table e.act) es run.1 (keep_act w st e.seat e.act run.0 inv)
    (crash_act w st table e.seat e.act run.0 inv c)
