-- A plain run goes on as one.
use Rattle.std.proofs.Common.{◌≡◌, ◌≢◌, ◌⊎◌, inl, inr, ℕ, Bool, true, false, List, [], ◌∷◌, Option, Some, None, refl, sym, ap, ◌∙◌, subst}
use Rattle.std.specs.Prelude.{◌==◌, ◌&&◌, if◌then◌else◌}
use Rattle.bc_model.specs.Sector.{Value}
use Rattle.bc_books.specs.Shelves.{Plain}
use Rattle.bc_books.specs.Index.{Index, latest}
use Rattle.bc_books.specs.Books as book
use Rattle.bc_books.specs.After as books_step
use Rattle.bc_data.specs.Seats.{Seat, put_seat}
use Rattle.bc_data.specs.Data as flow
use Rattle.bc_data.specs.After as flow_step
use Rattle.bc_data.specs.After.{seat_after, seats_after}
use Rattle.bc_whole.specs.State as whole
use Rattle.bc_whole.specs.Together.{is_quiet, is_quiet_step}
use Rattle.bc_known.specs.Acts.{Act, Alone}
use Rattle.bc_known.specs.Acts as known
use Rattle.bc_known.specs.Run as machine
use Rattle.bc_events.specs.Acts.{acts_of}
use Rattle.bc_events.specs.Run as core
use Rattle.bc_events.specs.Run.{IsSome, CanDo, AreAlone, acts_or_none}
use Rattle.bc_events.specs.declared.event.Event.{Event}
use Rattle.bc_leaves.specs.Parts as parts
use Rattle.bc_machine.specs.World.{World, IsEnabled, after}
use Rattle.bc_machine.specs.Bare.{IsBare, IsBareRun}
use Rattle.bc_machine.specs.Frame.{by_test}
use Rattle.bc_machine.specs.Standing.{told_event}

step_index : (w : book.Setup) (k : book.Books) (x : book.Step) → is_quiet_step x ≡ true
    → (books_step.after w k x).index ≡ k.index
step_index w k (book.Put leaf keys) on = absurd (cc)
step_index w k (book.Regroup leaf changed counts last) on = absurd (cc)
step_index w k x on = refl

step_journal : (w : book.Setup) (k : book.Books) (x : book.Step) → is_quiet_step x ≡ true
    → (books_step.after w k x).journal ≡ k.journal
step_journal w k book.Seal on = absurd (cc)
step_journal w k (book.SealChain i versions chain) on = absurd (cc)
step_journal w k book.Sealed on = absurd (cc)
step_journal w k x on = refl

act_index : (w : flow.Opening) (st : flow.State) (i : ℕ) (act : flow.Act) → is_quiet act ≡ true
    → (flow_step.after w st i act).books.index ≡ st.books.index
act_index w st i (flow.InsertWrite line leaf keys first values) on = absurd (cc)
act_index w st i (flow.Insert form leaf keys) on = absurd (cc)
act_index w st i (flow.Settle number leaf keys) on = absurd (cc)
act_index w st i (flow.Shelve x) on = step_index w.books st.books x on
act_index w st i act on = refl

act_journal : (w : flow.Opening) (st : flow.State) (i : ℕ) (act : flow.Act) → is_quiet act ≡ true
    → (flow_step.after w st i act).books.journal ≡ st.books.journal
act_journal w st i (flow.InsertWrite line leaf keys first values) on = absurd (cc)
act_journal w st i (flow.Insert form leaf keys) on = absurd (cc)
act_journal w st i (flow.Settle number leaf keys) on = absurd (cc)
act_journal w st i (flow.Shelve x) on = step_journal w.books st.books x on
act_journal w st i act on = refl

-- the keys that a flush and a write wait for
said_keys : (count : ℕ) (x : Seat) (speech : flow.Speech) → count ≡ 0 → x.flush.keys ≡ 0
    → (flow_step.flush_after count x.flush speech).keys ≡ 0
said_keys count x (flow.BeginFlush line) none old = none
said_keys count x (flow.EndFlush line) none old = old
said_keys count x (flow.Answer line first values) none old = old
said_keys count x (flow.Acknowledge line first count') none old = old

seat_flush : (w : flow.Opening) (k : book.Books) (x : Seat) (act : flow.Act) → k.index.count ≡ 0
    → x.flush.keys ≡ 0 → (seat_after w k x act).flush.keys ≡ 0
seat_flush w k x (flow.Say speech) none old = said_keys k.index.count x speech none old
seat_flush w k x (flow.BackingWrite (flow.Around line) first values) none old = old
seat_flush w k x (flow.BackingWrite flow.Copy first values) none old = old
seat_flush w k x act none old = old

seat_write : (w : flow.Opening) (k : book.Books) (x : Seat) (act : flow.Act) → is_quiet act ≡ true
    → k.journal.durable ≡ 0 → x.last.keys ≡ 0 → (seat_after w k x act).last.keys ≡ 0
seat_write w k x (flow.BackingWrite (flow.Around line) first values) on none old = none
seat_write w k x (flow.BackingWrite flow.Copy first values) on none old = old
seat_write w k x (flow.InsertWrite line leaf keys first values) on none old = absurd (cc)
seat_write w k x act on none old = old

put_keys : (seats : ℕ → Seat) (i n : ℕ) (x : Seat) (keys : Seat → ℕ) → keys x ≡ 0
    → ((k : ℕ) → keys (seats k) ≡ 0) → keys (put_seat seats i x n) ≡ 0
put_keys seats i n x keys new old =
    by_test n i (λ b. keys (if b then x else seats n) ≡ 0) (λ is. new) (λ no. old n)

seats_flush : (w : flow.Opening) (k : book.Books) (seats : ℕ → Seat) (i n : ℕ) (act : flow.Act)
    → k.index.count ≡ 0 → ((j : ℕ) → (seats j).flush.keys ≡ 0)
    → (seats_after w k seats i act n).flush.keys ≡ 0
seats_flush w k seats i n flow.BackingBarrier none old = old n
seats_flush w k seats i n act none old = put_keys seats i n (seat_after w k (seats i) act)
    (λ x. x.flush.keys) (seat_flush w k (seats i) act none (old i)) old

seats_write : (w : flow.Opening) (k : book.Books) (seats : ℕ → Seat) (i n : ℕ) (act : flow.Act)
    → is_quiet act ≡ true → k.journal.durable ≡ 0 → ((j : ℕ) → (seats j).last.keys ≡ 0)
    → (seats_after w k seats i act n).last.keys ≡ 0
seats_write w k seats i n flow.BackingBarrier on none old = old n
seats_write w k seats i n act on none old = put_keys seats i n (seat_after w k (seats i) act)
    (λ x. x.last.keys) (seat_write w k (seats i) act on none (old i)) old

-- what a look saw
abbrev Sees : flow.Opening → Seat → Type 0
Sees w x = (s : ℕ) → (x.claim.sight s ≡ None) ⊎ (x.claim.sight s ≡ w.books.index s)

seat_sees : (w : flow.Opening) (k : book.Books) (x : Seat) (act : flow.Act) → is_quiet act ≡ true
    → k.index ≡ (book.opened w.books).index → Sees w x → Sees w (seat_after w k x act)
seat_sees w k x (flow.MakeClaim first count exclusive) on is old = λ s. inl refl
seat_sees w k x flow.Release on is old = λ s. inl refl
seat_sees w k x (flow.Learn (flow.Look leaf)) on is old = λ s. inr (ap (λ (i : Index). latest i s) is)
seat_sees w k x (flow.Learn (flow.CacheRead first values)) on is old = old
seat_sees w k x (flow.Learn (flow.BackingRead first values)) on is old = old
seat_sees w k x (flow.BackingWrite (flow.Around line) first values) on is old = λ s. inl refl
seat_sees w k x (flow.BackingWrite flow.Copy first values) on is old = old
seat_sees w k x (flow.InsertWrite line leaf keys first values) on is old = absurd (cc)
seat_sees w k x (flow.Insert form leaf keys) on is old = absurd (cc)
seat_sees w k x (flow.Fail (flow.BackingFault (flow.Around line) first values)) on is old = λ s. inl refl
seat_sees w k x (flow.Fail (flow.BackingFault flow.Copy first values)) on is old = old
seat_sees w k x (flow.Fail (flow.CacheFault payload place values)) on is old = old
seat_sees w k x (flow.Fail flow.BarrierFault) on is old = old
seat_sees w k x (flow.Fail flow.ReadFault) on is old = old
seat_sees w k x act on is old = old

seats_see : (w : flow.Opening) (k : book.Books) (seats : ℕ → Seat) (i n : ℕ) (act : flow.Act)
    → is_quiet act ≡ true → k.index ≡ (book.opened w.books).index → ((j : ℕ) → Sees w (seats j))
    → Sees w (seats_after w k seats i act n)
seats_see w k seats i n flow.BackingBarrier on is old = old n
seats_see w k seats i n act on is old = by_test n i
    (λ b. Sees w (if b then seat_after w k (seats i) act else seats n))
    (λ same. seat_sees w k (seats i) act on is (old i)) (λ no. old n)

bare_act : (w : flow.Opening) (st : flow.State) (i : ℕ) (act : flow.Act) → is_quiet act ≡ true
    → IsBare w st → IsBare w (flow_step.after w st i act)
bare_act w st i act on h = record {
  index = act_index w st i act on ∙ h.index;
  journal = act_journal w st i act on ∙ h.journal;
  flushes = λ n. seats_flush w st.books st.seats i n act (ap (λ x. x.count) h.index) h.flushes;
  writes = λ n. seats_write w st.books st.seats i n act on (ap (λ x. x.durable) h.journal) h.writes;
  sights = λ n. seats_see w st.books st.seats i n act on h.index h.sights;
}

bare_acts : (w : whole.Opening) (st : known.State) (i : ℕ) (acts : List Act) → IsBare w.flow st.whole.flow
    → AreAlone acts → machine.IsRun w st (core.by i acts)
    → IsBare w.flow (machine.run w st (core.by i acts)).whole.flow
bare_acts w st i [] h alone on = h
bare_acts w st i (Alone act ∷ acts) h alone on = bare_acts w (known.after w st i (Alone act)) i acts
    (bare_act w.flow st.whole.flow i act on.0.asks h) alone.1 on.1
bare_acts w st i (act ∷ acts) h alone on = absurd alone.0

bare_row : (w : core.Opening) (st : core.State) (e : Event) (o : Option (List Act))
    → w.machine.flow.plain ≡ true → IsBare w.machine.flow st.machine.whole.flow
    → IsSome o (CanDo w st e) → IsBare w.machine.flow
    (machine.run w.machine st.machine (core.by e.seat (acts_or_none o))).whole.flow
bare_row w st e None plain h on = absurd on
bare_row w st e (Some acts) plain h on =
    bare_acts w.machine st.machine e.seat acts h (on.plain plain) on.course

pub bare_event : (x : World) (e : Event) → IsEnabled x e → IsBareRun x → IsBareRun (after x e)
bare_event x e may h told plain = let before = sym (told_event x e) ∙ told in
    bare_row x.opening x.now e (acts_of x.opening.machine x.now.machine e.seat e.deed) plain
    (h before plain) (may.allowed before plain).enabled

-- as a run opens
pub bare_opened : (w : core.Opening) (parts : parts.State) (n : ℕ)
    → IsBare w.machine.flow (core.start w parts n).machine.whole.flow
bare_opened w parts n = record {
  index = refl;
  journal = refl;
  flushes = λ n. refl;
  writes = λ n. refl;
  sights = λ n s. inl refl;
}
