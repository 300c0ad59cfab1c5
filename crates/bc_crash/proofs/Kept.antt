-- What an act leaves of the invariant that it doesn't touch.
use Rattle.std.proofs.Common.{◌≡◌, ◌≢◌, ◌⊎◌, inl, inr, ℕ, suc, ◌+◌, ◌<◌, ◌≤◌, max, Bool, true, false, List, [], ◌∷◌, length, Option, Some, None, if◌then◌else◌, ◌==◌, ◌&&◌, refl, sym, ap, ◌∙◌, subst, arith}
use Rattle.bc_model.specs.Sector.{Value, at_run}
use Rattle.bc_model.specs.History.{is_write}
use Rattle.bc_model.specs.declared.history.Entry.{Entry}
use Rattle.bc_model.specs.declared.history.Entry.TheVariants.{Write}
use Rattle.bc_model.proofs.Cases.{by_test, by_le}
use Rattle.bc_disk.specs.Device.{Content, Among, instead, besides, written, failed}
use Rattle.bc_books.specs.Index.{Pointer, Key, within, put, from_on, hit, over}
use Rattle.bc_books.specs.Books.{Books, Step, Put, Regroup, Pin, Unpin, Keep, Seal, SealChain, Sealed}
use Rattle.bc_books.specs.Enabled.{CanStep}
use Rattle.bc_books.specs.After as books
use Rattle.bc_books.specs.Invariant.{IsInOrder}
use Rattle.bc_books.specs.Laws.{IsLater}
use Rattle.bc_books.proofs.Cases.{by_hit, by_within, put_kept, put_cases}
use Rattle.bc_books.proofs.Later.{key_aged}
use Rattle.bc_data.specs.Seats.{Seat, new_claim, put_seat, unless_run}
use Rattle.bc_data.specs.Data.{Opening, Stage, Nothing, Fixed, Sent, State, Note, Look, CacheRead, BackingRead, Payload, Data, Metadata, JournalEntry, Learn, CacheWrite, claim_of}
use Rattle.bc_data.specs.Enabled.{IsBacked, IsShelving, IsSendable, IsEnabled}
use Rattle.bc_data.specs.After.{stage_after, stage_at_step, learnt}
use Rattle.bc_data.specs.Invariant.{IsLasting, IsTruthful}
use Rattle.bc_data.proofs.Truth.{counts_of, was_live}
use Rattle.bc_data.proofs.Kept.{each_seat}
use Rattle.bc_data.proofs.Inserted.{put_at}
use Rattle.bc_crash.specs.Laws.{IsReady}
use Rattle.bc_crash.specs.Tables.{Tables, on_write}
use Rattle.bc_crash.specs.Reached.{reached}
use Rattle.bc_crash.specs.Invariant.{IsGood, IsTable, IsSeatKnown, MayStand, IsAnswered, IsHarmlessOf, IsHarmless}
use Rattle.bc_crash.proofs.Good.{on_below, on_above, table_grown}

-- books that get no key
pub record Flat (k : Books) (stage : Stage) (k' : Books) (stage' : Stage) : Type 0 where
  pub count : k'.index.count ≡ k.index.count
  pub index : (n s : ℕ) → k'.index.at n s ≡ k.index.at n s
  pub changed : (s : ℕ) → k.index.changed (k.index.leaf s) ≤ k'.index.changed (k'.index.leaf s)
  pub later : k.journal.durable ≤ k'.journal.durable
  pub stands : (n : ℕ) → MayStand k' stage' n → MayStand k stage n

pub flat_same : (k : Books) (stage : Stage) → Flat k stage k stage
flat_same k stage = record { count = refl; index = λ n s. refl; changed = λ l. omega arith; later = omega arith; stands = λ n h. h }

pub plainly : (k : Books) (stage : Stage) (k' : Books) (stage' : Stage) → k'.index.count ≡ k.index.count
    → ((n s : ℕ) → k'.index.at n s ≡ k.index.at n s)
    → ((s : ℕ) → k.index.changed (k.index.leaf s) ≤ k'.index.changed (k'.index.leaf s))
    → k.journal.durable ≤ k'.journal.durable → ((n : ℕ) → MayStand k' stage' n → MayStand k stage n)
    → Flat k stage k' stage'
plainly k stage k' stage' a b c d e = record { count = a; index = b; changed = c; later = d; stands = e }

pub flat_shelf : (w : Opening) (k : Books) (stage : Stage) (i : ℕ) (x : Step) → IsInOrder w.books k
    → IsShelving stage i x → CanStep w.books k x → Flat k stage (books.after w.books k x)
    (stage_at_step stage x)
flat_shelf w k stage i (Put leaf keys) f q on = absurd q
flat_shelf w k stage i (Pin j place count) f q on = absurd q
flat_shelf w k stage i (Unpin place count) f q on = absurd q
flat_shelf w k stage i (Keep c place count) f q on = absurd q
flat_shelf w k stage i (Regroup leaf changed counts last) f q on = plainly k stage _ stage refl
    (λ n s. refl) on.later (omega arith) (λ n h. h)
flat_shelf w k stage i Seal f q on = plainly k stage _ Fixed refl (λ n s. refl) (λ l. omega arith)
    (omega arith) (λ n h. elim h [ inl e ↦ inl e | inr x ↦ absurd x.0 ])
flat_shelf w k stage i (SealChain j versions chain) f q on = plainly k stage _ Fixed refl
    (λ n s. refl) (λ l. omega arith) (omega arith)
    (λ n h. elim h [ inl e ↦ inl e | inr x ↦ absurd x.0 ])
flat_shelf w k stage i Sealed f q on = let c0 = f.counted.durable in plainly k stage _ Nothing refl
    (λ n s. refl) (λ l. omega arith) c0
    (λ n h. elim h [
      | inl e ↦ inr (
        subst (λ z. IsReady z) (sym q) tt,
        omega arith,
        omega arith,
      )
      | inr x ↦ absurd x.0
    ])
flat_shelf w k stage i x f q on = plainly k stage _ stage refl (λ n s. refl) (λ l. omega arith)
    (omega arith) (λ n h. h)

pub flat_write : (k : Books) (stage : Stage) (payload : Payload) (place : ℕ) (vs : List Value)
    → IsSendable stage payload → Flat k stage k (stage_after stage (CacheWrite payload place vs))
flat_write k stage Data place vs on = flat_same k stage
flat_write k stage Metadata place vs on = flat_same k stage
flat_write k stage JournalEntry place vs on = plainly k stage k Sent refl (λ n s. refl)
    (λ l. omega arith) (omega arith)
    (λ n h. elim h [ inl e ↦ inl e | inr x ↦ inr (subst (λ z. IsReady z) (sym on) tt, x.1, x.2) ])

pub put_there : {A : Type 0} → (f : ℕ → A) (i : ℕ) (x : A) → put f i x i ≡ x
put_there f i x = put_cases f i i x (λ y. y ≡ x) (λ ne. absurd (ne refl)) (λ e. refl)

pub besides_case : (o : Option Value) (old : List Value) (x : Value) → Among x (besides o old)
    → Among x old ⊎ (o ≡ Some x)
besides_case None old x h = inl h
besides_case (Some y) old x (inl e) = inr (ap Some (sym e))
besides_case (Some y) old x (inr n) = inl n

pub instead_case : (o : Option Value) (old : List Value) (x : Value) → Among x (instead o old)
    → Among x old ⊎ (o ≡ Some x)
instead_case None old x h = inl h
instead_case (Some y) old x (inl e) = inr (ap Some (sym e))
instead_case (Some y) old x (inr n) = absurd n

pub honest_written : (d : Content) (first : ℕ) (vs : List Value)
    → ((t : ℕ) (x : Value) → Among x (d.reads t) → Among x (d.leaves t)) → (t : ℕ) (x : Value)
    → Among x ((written first vs d).reads t) → Among x ((written first vs d).leaves t)
honest_written d first vs h t x = go (at_run first vs t)
  where
    go : (o : Option Value) → Among x (instead o (d.reads t)) → Among x (besides o (d.leaves t))
    go None a = h t x a
    go (Some y) (inl e) = inl e
    go (Some y) (inr n) = absurd n

pub honest_failed : (d : Content) (first : ℕ) (vs : List Value)
    → ((t : ℕ) (x : Value) → Among x (d.reads t) → Among x (d.leaves t)) → (t : ℕ) (x : Value)
    → Among x ((failed first vs d).reads t) → Among x ((failed first vs d).leaves t)
honest_failed d first vs h t x = go (at_run first vs t)
  where
    go : (o : Option Value) → Among x (besides o (d.reads t)) → Among x (besides o (d.leaves t))
    go None a = h t x a
    go (Some y) (inl e) = inl e
    go (Some y) (inr n) = inr (h t x n)

pub filled_written : (d : Content) (first : ℕ) (vs : List Value)
    → ((t : ℕ) → (x : Value) × Among x (d.reads t)) → (t : ℕ) → (x : Value) × Among x
    ((written first vs d).reads t)
filled_written d first vs h t = go (at_run first vs t)
  where
    go : (o : Option Value) → (x : Value) × Among x (instead o (d.reads t))
    go None = h t
    go (Some y) = (y, inl refl)

pub filled_failed : (d : Content) (first : ℕ) (vs : List Value)
    → ((t : ℕ) → (x : Value) × Among x (d.reads t)) → (t : ℕ) → (x : Value) × Among x
    ((failed first vs d).reads t)
filled_failed d first vs h t = go (at_run first vs t)
  where
    go : (o : Option Value) → (x : Value) × Among x (besides o (d.reads t))
    go None = h t
    go (Some y) = (y, inl refl)

pub of_max : (a b : ℕ) (P : ℕ → Type 0) → P a → P b → P (max a b)
of_max a b P x y = go (either_max a b)
  where
    either_max : (a b : ℕ) → (max a b ≡ a) ⊎ (max a b ≡ b)
    either_max a b = grind arith

    go : (max a b ≡ a) ⊎ (max a b ≡ b) → P (max a b)
    go (inl e) = subst P (sym e) x
    go (inr e) = subst P (sym e) y

-- a run's sector has a value of it
pub run_value : (first : ℕ) (vs : List Value) (s : ℕ) → within first (length vs) s ≡ true → (x : Value)
    × (at_run first vs s ≡ Some x)
run_value first vs s e = by_within first (length vs) s
    (λ b. b ≡ true → (x : Value) × (at_run first vs s ≡ Some x)) (λ r _. value first vs s r.0 r.1)
    (λ no_ h. absurd (cc)) e
  where
    value : (first : ℕ) (vs : List Value) (s : ℕ) → first ≤ s → s < first + length vs → (x : Value)
        × (at_run first vs s ≡ Some x)
    value first [] s a b = absurd (omega arith)
    value first (v ∷ vs) s a b =
        let ih = value (suc first) vs s in
        by_test first s (λ z. (x : Value)
        × ((if z then Some v else at_run (suc first) vs s) ≡ Some x)) (λ _. (v, refl))
        (λ ne. ih (omega arith) (omega arith))

pub first_within : (first : ℕ) (vs : List Value) → vs ≢ [] → within first (length vs) first ≡ true
first_within first [] ne = absurd (ne refl)
first_within first (v ∷ vs) ne = by_within first (suc (length vs)) first (λ b. b ≡ true) (λ _. refl)
    (λ no_. absurd (no_ (omega arith, omega arith)))

module _ (w : Opening) (st : State) (inv : IsTruthful w st) (table : Tables)
    (c : IsHarmless w st table) where
  abbrev k : Books
  k = st.books

  abbrev H : List Entry
  H = st.history

  f : IsInOrder w.books st.books
  f = inv.books

  low : k.journal.durable ≤ k.index.count
  low = let x = (counts_of w.books k f) in let x0 = x.0 in let x1 = x.1 in omega arith

  pub changed_few : (l : ℕ) → k.index.changed l ≤ k.index.count
  changed_few l = f.counted.leaves l

  -- the books move on without a key, and seats change
  pub crash_books : (k' : Books) (stage' : Stage) → Flat k st.stage k' stage' → IsLater w.books k k'
      → (all : ℕ → Seat) → ((i : ℕ) → IsSeatKnown i st.halted st.history table.need table.safe
      (all i)) → IsHarmlessOf w k' stage' st.cache st.backing all st.history st.halted table.need table.safe
  crash_books k' stage' flat g all seats = record {
    tables = λ s. table_grown _ _ _ _ (table.need s) (table.safe s)
        (let e = flat.changed s in omega arith) (omega arith) (c.tables s);
    floors = λ s. let x = c.floors s in (x.0, (let x1 = x.1 in let l = flat.later in omega arith), x.2);
    begun = c.begun;
    seats = seats;
    honest = c.honest;
    honest_back = c.honest_back;
    filled = c.filled;
    cached = λ n s r le top e d. c.cached n s r (let l = flat.later in omega arith)
        (let q = flat.count in omega arith) (sym (flat.index n s) ∙ e)
        (live n s r (let l = flat.later in omega arith) e d);
    backed = λ n s le top b. c.backed n s (let l = flat.later in omega arith)
        (let q = flat.count in omega arith) (subst (λ o. IsBacked o) (flat.index n s) b);
    present = λ h n s le top b. c.present h n s (let l = flat.later in omega arith)
        (let q = flat.count in omega arith) (subst (λ o. IsBacked o) (flat.index n s) b);
    firm = λ n s r q e d. let q2 = flat.stands n q in c.firm n s r q2 (sym (flat.index n s) ∙ e)
        (live n s r (elim q2 [ inl x ↦ omega arith | inr x ↦ x.1 ]) e d);
    agree = λ n s r le top e cl d. c.agree n s r (let l = flat.later in omega arith)
        (let q = flat.count in omega arith) (sym (flat.index n s) ∙ e) cl
        (live n s r (let l = flat.later in omega arith) e d);
  }
    where
      live : (n s : ℕ) (r : Pointer) → k.journal.durable ≤ n → k'.index.at n s ≡ Some r
          → IsLasting w k' r → IsLasting w k r
      live n s r le e d = was_live w k k' g r
          (key_aged w.books k f n s r le (sym (flat.index n s) ∙ e)) d

  -- one seat changes its claim
  pub seat_claim : (i : ℕ) (x : Seat) → IsSeatKnown i st.halted st.history table.need table.safe x
      → (j : ℕ) → IsSeatKnown j st.halted st.history table.need table.safe (put_seat st.seats i x j)
  seat_claim i x fine = each_seat
      (λ j y. IsSeatKnown j st.halted st.history table.need table.safe y) st.seats i x fine
      (λ j _. c.seats j)

  pub same_fine : (i : ℕ) (x : Seat) (placed : ℕ → Option Value)
      → IsSeatKnown i st.halted st.history table.need table.safe x
      → IsSeatKnown i st.halted st.history table.need table.safe (record x { placed = placed })
  same_fine i x placed h = record {
    flush = λ a b. let y = h.flush a b in
        record { begun = y.begun; counted = y.counted; firm = y.firm };
    last = λ a b. let y = h.last a b in
        record { exclusive = y.exclusive; some = y.some; covers = y.covers; counted = y.counted; firm = y.firm };
    few = h.few;
    gone = h.gone;
  }

  pub none_fine : (i first count : ℕ) (exclusive : Bool)
      → IsSeatKnown i st.halted st.history table.need table.safe
      (record (st.seats i) { claim = new_claim first count exclusive })
  none_fine i first count exclusive = record {
    flush = λ a b. let y = (c.seats i).flush a b in
        record { begun = y.begun; counted = y.counted; firm = y.firm };
    last = λ a b. absurd (cc);
    few = λ l. absurd (cc);
    gone = λ s e. absurd (cc);
  }

  pub learn_fine : (i : ℕ) (note : Note) → IsEnabled w st i (Learn note)
      → IsSeatKnown i st.halted st.history table.need table.safe
      (record (st.seats i) { claim = learnt w st.books (claim_of st i) note })
  learn_fine i (Look leaf) on = record {
    flush = λ a b. let y = (c.seats i).flush a b in
        record { begun = y.begun; counted = y.counted; firm = y.firm };
    last = λ a b. let y = (c.seats i).last a b in
        record { exclusive = y.exclusive; some = y.some; covers = y.covers; counted = y.counted; firm = y.firm };
    few = λ _ _ s q. let t = (c.tables s).top (length st.history) in let e : k.index.changed
        (k.index.leaf s) ≡ k.index.changed leaf = ap k.index.changed (on.can s q) in omega arith;
    gone = (c.seats i).gone;
  }
  learn_fine i (CacheRead first vs) on = record {
    flush = λ a b. let y = (c.seats i).flush a b in
        record { begun = y.begun; counted = y.counted; firm = y.firm };
    last = λ a b. let y = (c.seats i).last a b in
        record { exclusive = y.exclusive; some = y.some; covers = y.covers; counted = y.counted; firm = y.firm };
    few = (c.seats i).few;
    gone = (c.seats i).gone;
  }
  learn_fine i (BackingRead first vs) on = record {
    flush = λ a b. let y = (c.seats i).flush a b in
        record { begun = y.begun; counted = y.counted; firm = y.firm };
    last = λ a b. let y = (c.seats i).last a b in
        record { exclusive = y.exclusive; some = y.some; covers = y.covers; counted = y.counted; firm = y.firm };
    few = (c.seats i).few;
    gone = (c.seats i).gone;
  }

  -- the history grows by an entry; the floor, and where the tables go on
  pub no_done : (s : ℕ) → IsAnswered k.journal.durable st.history (table.need s) (table.safe s) 0
  no_done s = let t = c.tables s in let z = t.zero in (t.safe_zero, omega arith, omega arith)

  pub floor_next : (s done : ℕ) (e : Entry) (need' : ℕ → ℕ) (safe' : ℕ → Bool)
      → ((f : ℕ) → f ≤ length st.history → (need' f ≡ table.need s f) × (safe' f ≡ table.safe s f))
      → IsAnswered k.journal.durable st.history (table.need s) (table.safe s) done
      → IsAnswered k.journal.durable (e ∷ st.history) need' safe' (max done (reached st.history s))
  floor_next s done e need' safe' same new =
      let m = of_max done (reached st.history s)
      (λ f. IsAnswered k.journal.durable st.history (table.need s) (table.safe s) f) new
      (c.floors s) in
      let l = m.2 in
      let q = same (max done (reached st.history s)) l in
      let q0 = q.0 in
      let m1 = m.1 in
      (q.1 ∙ m.0, omega arith, omega arith)

  pub unmoved : (s f : ℕ) → f ≤ length st.history → (table.need s f ≡ table.need s f)
      × (table.safe s f ≡ table.safe s f)
  unmoved s f le = (refl, refl)

  pub zeros : (s : ℕ) → (table.need s 0 ≡ 0) × (table.safe s 0 ≡ true)
  zeros s = let t = c.tables s in (t.zero, t.safe_zero)

  pub goes_on : (s : ℕ) → table.need s (suc (length st.history)) ≡ table.need s (length st.history)
  goes_on s = let t = c.tables s in t.flat (suc (length st.history)) (omega arith)

  pub safe_on : (s : ℕ) → table.safe s (suc (length st.history)) ≡ true → table.safe s
      (length st.history) ≡ true
  safe_on s h = let t = c.tables s in sym (t.safe_flat (suc (length st.history)) (omega arith)) ∙ h

  -- a run that the history got a write of, or a failed one
  pub on_old : {A : Type 0} → (old : ℕ → ℕ → A) (first : ℕ) (vs : List Value) (x : A) (s f : ℕ)
      → f ≤ length st.history → on_write st.history old first vs x s f ≡ old s f
  on_old old first vs x s f le = go (at_run first vs s)
    where
      go : (o : Option Value) → unless_run o (old s)
          (from_on (suc (length st.history)) (old s) x) f ≡ old s f
      go None = refl
      go (Some v) = on_below (suc (length st.history)) f (old s) x (omega arith)

  pub on_miss : {A : Type 0} → (old : ℕ → ℕ → A) (first : ℕ) (vs : List Value) (x : A) (s f : ℕ)
      → at_run first vs s ≡ None → on_write st.history old first vs x s f ≡ old s f
  on_miss old first vs x s f e = ap
      (λ (o : Option Value). unless_run o (old s) (from_on (suc (length st.history)) (old s) x) f) e

  pub on_hit : {A : Type 0} → (old : ℕ → ℕ → A) (first : ℕ) (vs : List Value) (x : A) (s f : ℕ)
      (v : Value) → at_run first vs s ≡ Some v → suc (length st.history) ≤ f
      → on_write st.history old first vs x s f ≡ x
  on_hit old first vs x s f v e le = ap
      (λ (o : Option Value). unless_run o (old s) (from_on (suc (length st.history)) (old s) x) f) e
      ∙ on_above (suc (length st.history)) f (old s) x le

  -- another worker's write
  pub other_write : (i j line first : ℕ) (vs : List Value) (x : Seat) → j ≢ i
      → is_write j x.last.line x.last.first (Write i line first vs) ≡ false
  other_write i j line first vs x ne = by_test i j
      (λ b. (b && ((line == x.last.line) && (first == x.last.first))) ≡ false)
      (λ is. absurd (ne (sym is))) (λ _. refl)

  pub all_few : (s f : ℕ) → table.need s f ≤ k.index.count
  all_few s f = let t = (c.tables s).top f in let x = changed_few (k.index.leaf s) in omega arith

  -- all insertions answer for what the last one answered for
  pub widen : (s n : ℕ) (ok : ℕ → Type 0) (src : Value → Type 0)
      → IsGood w.image st.history s k.index.count (table.need s) ok src
      → IsGood w.image st.history s n (table.need s) ok src
  widen s n ok src good g le few is x show = good g le (all_few s g) is x show

  pub split : (n : ℕ) → (n ≤ k.index.count) ⊎ (k.index.count < n)
  split n = grind arith

  pub old_index : (leaf : ℕ) (keys : List Key) (n s : ℕ) → n ≤ k.index.count
      → (books.after w.books k (Put leaf keys)).index.at n s ≡ k.index.at n s
  old_index leaf keys n s le = by_le (suc k.index.count) n
      (λ z. (if z then (λ x. over (hit keys x)
      (k.index.at k.index.count x)) else k.index.at n) s ≡ k.index.at n s)
      (λ l. absurd (omega arith)) (λ _. refl)

  pub stands_top : (n : ℕ) → MayStand k st.stage n → (k.journal.durable ≤ n) × (n ≤ k.index.count)
  stands_top n h = let x = (counts_of w.books k f) in let x0 = x.0 in let x1 = x.1 in
      elim h [ inl e ↦ (omega arith, omega arith) | inr y ↦ (y.1, let y2 = y.2 in omega arith) ]

  -- of an index after an insertion: an old one, or the new one where a key hits, or where none does
  pub by_put : (leaf : ℕ) (keys : List Key) (n s : ℕ) (P : Option Pointer → Type 0)
      → (n ≤ k.index.count → P (k.index.at n s))
      → (k.index.count < n → (o : Option Pointer) → hit keys s ≡ Some o → P o)
      → (k.index.count < n → hit keys s ≡ None → P (k.index.at k.index.count s)) → P
      ((books.after w.books k (Put leaf keys)).index.at n s)
  by_put leaf keys n s P old new same = elim (split n) [
    | inl le ↦ subst P (sym (old_index leaf keys n s le)) (old le)
    | inr lt ↦ subst P (sym (put_at w st inv leaf keys n s lt))
        (by_hit (hit keys s) (k.index.at k.index.count s) P (new lt) (same lt))
  ]

  pub grown_table : (leaf : ℕ) (s len : ℕ) → length st.history ≤ len → IsTable
      (put k.index.changed leaf (suc k.index.count) (k.index.leaf s)) len (table.need s)
      (table.safe s)
  grown_table leaf s len le = table_grown _ _ _ _ (table.need s) (table.safe s)
      (put_kept k.index.changed leaf (k.index.leaf s) (suc k.index.count)
      (λ x. k.index.changed (k.index.leaf s) ≤ x) (omega arith)
      (let q = changed_few (k.index.leaf s) in omega arith)) le (c.tables s)
