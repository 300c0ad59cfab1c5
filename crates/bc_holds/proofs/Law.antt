-- The laws on what a seat holds.
use Rattle.std.proofs.Common.{◌≡◌, ◌≢◌, ℕ, suc, ◌≤◌, Bool, true, false, List, [], ◌∷◌, refl, sym, ap, ◌∙◌, arith, if◌then◌else◌}
use Rattle.bc_key.specs.declared.key.Key.{Key}
use Rattle.bc_books.specs.Shelves.{Purpose, Held, Own}
use Rattle.bc_books.specs.Books.{Setup, Books, Step, Regroup, MakeNode, DropNode, Raise, SealChain}
use Rattle.bc_books.specs.Books as book
use Rattle.bc_books.specs.After as book_step
use Rattle.bc_data.specs.Data as flow
use Rattle.bc_data.specs.Enabled.{steps_of}
use Rattle.bc_data.specs.Enabled as flow_act
use Rattle.bc_data.specs.Invariant.{IsTruthful}
use Rattle.bc_data.specs.After as flow_step
use Rattle.bc_meta.proofs.Lists.{by_test}
use Rattle.bc_leaves.specs.Parts as parts
use Rattle.bc_whole.specs.State.{Opening, SameChain, NewChain}
use Rattle.bc_whole.specs.Together.{is_quiet, shelved, Brings}
use Rattle.bc_whole.specs.Run.{by}
use Rattle.bc_whole.proofs.Kept.{truthful}
use Rattle.bc_known.specs.Acts.{State, Act, Alone, Keyed, Seal, Take, LetGo, ReadyChain, Install, after}
use Rattle.bc_known.specs.Asked.{AsksSteps}
use Rattle.bc_known.specs.Laws.{IsSound}
use Rattle.bc_known.specs.Run.{IsEnabled, IsRun, run, data_of}
use Rattle.bc_known.proofs.Law.{At, inv_at, order_at, keep}
use Rattle.bc_events.specs.Acts.{acts_of}
use Rattle.bc_events.specs.Run as core
use Rattle.bc_events.specs.declared.event.Event.{Event}
use Rattle.bc_shares.specs.Shares.{books_of}
use Rattle.bc_shares.specs.Laws.{Happens}
use Rattle.bc_shares.proofs.Law.{in_order, at_state}
use Rattle.bc_holds.specs.Laws.{LawPinned, LawHeld, IsLater, LawLater}
use Rattle.bc_holds.proofs.Steps.{Place, place_act, bucket_shelved, bucket_ready}

-- ---- acts of one seat

-- a relation of states that acts of seat j keep
record IsKeptBy (w : Opening) (x : parts.State) (j : ℕ) (R : State → State → Type 0) : Type 0 where
  same : (a : State) → R a a
  both : (a b c : State) → R a b → R b c → R a c
  one : (st : State) (act : Act) → At w x st → IsEnabled w st j act → R st (after w st j act)

kept_by : (w : Opening) (x : parts.State) → IsSound w x → (j : ℕ) (R : State → State → Type 0)
    → IsKeptBy w x j R → (st : State) (acts : List Act) → At w x st → IsRun w st (core.by j acts)
    → R st (run w st (core.by j acts))
kept_by w x sound j R k st [] at on = k.same st
kept_by w x sound j R k st (act ∷ acts) at on = k.both st (after w st j act) _
    (k.one st act at on.0) (kept_by w x sound j R k (after w st j act) acts
    (keep w x sound st j at act on.0) on.1)

-- so does an event of it
kept_event : (w : core.Opening) (x : parts.State) (n : ℕ) (es : List Event) (e : Event)
    → Happens w x n es e → (R : State → State → Type 0) → IsKeptBy w.machine x e.seat R
    → let st = core.run w (core.start w x n) es in R st.machine (core.after w st e).machine
kept_event w x n es e h R k =
    let st = core.run w (core.start w x n) es in
    kept_by w.machine x h.sound e.seat R k st.machine
    (core.acts_or_none (acts_of w.machine st.machine e.seat e.deed))
    (at_state w x n es h.sound h.course)
    (in_order w st e (acts_of w.machine st.machine e.seat e.deed) h.enabled)

truth_at : (w : Opening) (x : parts.State) → IsSound w x → (st : State) → At w x st
    → IsTruthful w.flow st.whole.flow
truth_at w x sound st at =
    truthful w x st.whole.flow sound.whole (inv_at w x st.whole sound at.at).flow

-- ---- pinned places

abbrev Pinned : Opening → ℕ → ℕ → State → State → Type 0
Pinned w i t a b = (books_of a).owner t ≡ Own i → Place w.flow.books i t (books_of a) (books_of b)

installed_place : (w : Opening) (f : flow.State) (p : parts.State) (j i t : ℕ) (un : ℕ → Bool)
    (xs : List Step) → AsksSteps p j un xs → f.books.owner t ≡ Own i
    → Place w.flow.books i t f.books (flow_step.course w.flow f (by j (shelved xs))).books
installed_place w f p j i t un [] asks is = record { owner = is; version = refl }
installed_place w f p j i t un (Regroup leaf changed counts last ∷ xs) asks is =
    let rest = installed_place w
    (flow_step.after w.flow f j (flow.Shelve (Regroup leaf changed counts last))) p j i t un xs
    asks.1 is in
    record { owner = rest.owner; version = rest.version }
installed_place w f p j i t un (MakeNode h b ∷ xs) asks is =
    let rest = installed_place w (flow_step.after w.flow f j (flow.Shelve (MakeNode h b))) p j i t un
    xs asks.1 is in
    record { owner = rest.owner; version = rest.version }
installed_place w f p j i t un (DropNode b ∷ xs) asks is =
    let rest = installed_place w (flow_step.after w.flow f j (flow.Shelve (DropNode b))) p j i t un
    xs asks.1 is in
    record { owner = rest.owner; version = rest.version }
installed_place w f p j i t un (x ∷ xs) asks is = absurd asks.0

module _ (w : Opening) (x : parts.State) (sound : IsSound w x) (j i : ℕ) (ne : j ≢ i) (t : ℕ) where
  pinned_one : (st : State) (act : Act) → At w x st → IsEnabled w st j act
      → Pinned w i t st (after w st j act)
  pinned_one st (Alone act) at on is = place_act w.flow st.whole.flow (truth_at w x sound st at) j i
      ne t is act on.data_allows.0
  pinned_one st (Keyed act slot keys) at on is = place_act w.flow st.whole.flow
      (truth_at w x sound st at) j i ne t is act on.data_allows.0
  pinned_one st (Seal last_seq rest root SameChain) at on is = record { owner = is; version = refl }
  pinned_one st (Seal last_seq rest root (NewChain buckets gens)) at on is =
      record { owner = is; version = refl }
  pinned_one st (Install un steps) at on is =
      installed_place w st.whole.flow st.whole.parts j i t un steps on.asks.2 is
  pinned_one st act at on is = record { owner = is; version = refl }

  pinned_kept : IsKeptBy w x j (Pinned w i t)
  pinned_kept = record {
    same = λ a is. record { owner = is; version = refl };
    both = λ a b c one two is. let y = one is in let z = two y.owner in
        record { owner = z.owner; version = z.version ∙ y.version };
    one = pinned_one;
  }

pub law_pinned : LawPinned
law_pinned w x n es e h i ne t is =
    let p = kept_event w x n es e h (Pinned w.machine i t)
    (pinned_kept w.machine x h.sound e.seat i ne t) is in
    record { owner = p.owner; version = p.version }

-- ---- held buckets

abbrev IsHeld : ℕ → ℕ → Purpose → State → State → Type 0
IsHeld i q p a b = (books_of a).shelf q ≡ Held i p → (books_of b).shelf q ≡ Held i p

no_chain : (x : Step) → is_quiet (flow.Shelve x) ≡ true → (room : ℕ → Bool)
    → x ≡ book.ReadyChain room → ⊥
no_chain x quiet room is = let off : false ≡ true =
    sym (ap (λ (y : Step). is_quiet (flow.Shelve y)) is) ∙ quiet in absurd (cc)

installed_held : (w : Opening) (f : flow.State) (p : parts.State) (j i q : ℕ) (r : Purpose)
    (un : ℕ → Bool) (xs : List Step) → j ≢ i → AsksSteps p j un xs
    → flow_step.IsCourse w.flow f (by j (shelved xs)) → f.books.shelf q ≡ Held i r
    → (flow_step.course w.flow f (by j (shelved xs))).books.shelf q ≡ Held i r
installed_held w f p j i q r un [] ne asks on is = is
installed_held w f p j i q r un (Regroup leaf changed counts last ∷ xs) ne asks on is =
    installed_held w (flow_step.after w.flow f j (flow.Shelve (Regroup leaf changed counts last)))
    p j i q r un xs ne asks.1 on.1 is
installed_held w f p j i q r un (MakeNode h b ∷ xs) ne asks on is =
    installed_held w (flow_step.after w.flow f j (flow.Shelve (MakeNode h b))) p j i q r un xs ne
    asks.1 on.1 (bucket_shelved w.flow.books f.books j i ne q r is (MakeNode h b) f.stage
    on.0.steps.0 on.0.can (λ room e. no_chain_is h b room e))
  where
    no_chain_is : (h b : ℕ) (room : ℕ → Bool) → MakeNode h b ≡ book.ReadyChain room → ⊥
    no_chain_is h b room e = cc
installed_held w f p j i q r un (DropNode b ∷ xs) ne asks on is =
    installed_held w (flow_step.after w.flow f j (flow.Shelve (DropNode b))) p j i q r un xs ne
    asks.1 on.1 is
installed_held w f p j i q r un (x ∷ xs) ne asks on is = absurd asks.0

alone_held : (w : Opening) (f : flow.State) (j i q : ℕ) (r : Purpose) (act : flow.Act) → j ≢ i
    → is_quiet act ≡ true → flow_act.IsEnabled w.flow f j act → f.books.shelf q ≡ Held i r
    → (book_step.fold w.flow.books f.books (steps_of f.candidates j act)).shelf q ≡ Held i r
alone_held w f j i q r (flow.Shelve x) ne quiet on is = bucket_shelved w.flow.books f.books j i ne q r
    is x f.stage on.steps.0 on.can (no_chain x quiet)
alone_held w f j i q r act ne quiet on is = is

keyed_held : (w : Opening) (f : flow.State) (j i q slot : ℕ) (r : Purpose) (act : flow.Act)
    (keys : List Key) → Brings act slot keys → f.books.shelf q ≡ Held i r
    → (book_step.fold w.flow.books f.books (steps_of f.candidates j act)).shelf q ≡ Held i r
keyed_held w f j i q slot r (flow.InsertWrite line leaf ks first values) keys b is = is
keyed_held w f j i q slot r (flow.Insert form leaf ks) keys b is = is
keyed_held w f j i q slot r (flow.Settle number leaf ks) keys b is = is
keyed_held w f j i q slot r act keys b is = absurd b

take_no : (j : ℕ) (p : Purpose) (b : ℕ) (room : ℕ → Bool) → book.Take j p b ≡ book.ReadyChain room → ⊥
take_no j p b room e = cc

let_go_no : (j b : ℕ) (room : Bool) (rooms : ℕ → Bool) → book.LetGo j b room ≡ book.ReadyChain rooms → ⊥
let_go_no j b room rooms e = cc

module _ (w : Opening) (x : parts.State) (sound : IsSound w x) (j i : ℕ) (ne : j ≢ i) (q : ℕ)
    (r : Purpose) where
  held_one : (st : State) (act : Act) → At w x st → IsEnabled w st j act
      → IsHeld i q r st (after w st j act)
  held_one st (Alone act) at on is =
      alone_held w st.whole.flow j i q r act ne on.asks on.data_allows.0 is
  held_one st (Keyed act slot keys) at on is =
      keyed_held w st.whole.flow j i q slot r act keys on.asks.0 is
  held_one st (Seal last_seq rest root SameChain) at on is = is
  held_one st (Seal last_seq rest root (NewChain buckets gens)) at on is = is
  held_one st (Take p b) at on is = bucket_shelved w.flow.books (books_of st) j i ne q r is
      (book.Take j p b) st.whole.flow.stage on.data_allows.0.steps.0 on.data_allows.0.can
      (take_no j p b)
  held_one st (LetGo b room) at on is = bucket_shelved w.flow.books (books_of st) j i ne q r is
      (book.LetGo j b room) st.whole.flow.stage on.data_allows.0.steps.0 on.data_allows.0.can
      (let_go_no j b room)
  held_one st (ReadyChain room) at on is = bucket_ready w.flow.books (books_of st) j i ne q r is room
      (order_at w x st.whole sound at.at) on.asks.1
  held_one st (Install un steps) at on is = installed_held w st.whole.flow st.whole.parts j i q r un
      steps ne on.asks.2 on.data_allows is
  held_one st act at on is = is

  held_kept : IsKeptBy w x j (IsHeld i q r)
  held_kept = record {
    same = λ a is. is;
    both = λ a b c one two is. two (one is);
    one = held_one;
  }

pub law_held : LawHeld
law_held w x n es e h i ne q p = kept_event w x n es e h (IsHeld i q p)
    (held_kept w.machine x h.sound e.seat i ne q p)

-- ---- what never goes back

same_later : (a : Books) → IsLater a a
same_later a = record { version = λ q. omega arith; count = omega arith }

both_later : (a b c : Books) → IsLater a b → IsLater b c → IsLater a c
both_later a b c x y = record {
  version = λ q. let one = x.version q in let two = y.version q in omega (arith, one, two);
  count = let one = x.count in let two = y.count in omega (arith, one, two);
}

later_step : (w : Setup) (k : Books) (x : Step) → IsLater k (book_step.after w k x)
later_step w k (book.Put leaf keys) = record { version = λ q. omega arith; count = omega arith }
later_step w k (Raise b) = record {
  version = λ q. by_test q b (λ t. k.generations.version q
      ≤ (if t then suc (k.generations.version b) else k.generations.version q))
      (λ same. let at = ap k.generations.version same in omega (arith, at)) (λ ne. omega arith);
  count = omega arith;
}
later_step w k x = record { version = λ q. omega arith; count = omega arith }

later_fold : (w : Setup) (k : Books) (xs : List Step) → IsLater k (book_step.fold w k xs)
later_fold w k [] = same_later k
later_fold w k (x ∷ xs) = both_later k (book_step.after w k x) _ (later_step w k x)
    (later_fold w (book_step.after w k x) xs)

later_course : (w : flow.Opening) (f : flow.State) (j : ℕ) (acts : List flow.Act)
    → IsLater f.books (flow_step.course w f (by j acts)).books
later_course w f j [] = same_later f.books
later_course w f j (act ∷ acts) = both_later f.books (flow_step.after w f j act).books _
    (later_fold w.books f.books (steps_of f.candidates j act))
    (later_course w (flow_step.after w f j act) j acts)

later_one : (w : Opening) (st : State) (j : ℕ) (act : Act)
    → IsLater (books_of st) (books_of (after w st j act))
later_one w st j (Alone act) = later_course w.flow st.whole.flow j (act ∷ [])
later_one w st j act = later_course w.flow st.whole.flow j (data_of w st j act)

pub law_later : LawLater
law_later w x n es e h = kept_event w x n es e h (λ a b. IsLater (books_of a) (books_of b)) (record {
  same = λ a. same_later (books_of a);
  both = λ a b c. both_later (books_of a) (books_of b) (books_of c);
  one = λ st act at on. later_one w.machine st e.seat act;
})
