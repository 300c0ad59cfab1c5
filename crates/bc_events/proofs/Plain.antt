-- A plain run is one of the data alone, in which no key ever comes in.
use Rattle.std.proofs.Common.{◌≡◌, ℕ, true, false, List, [], ◌∷◌, ◌++◌, Option, Some, None, refl, sym, ap, ◌∙◌, subst, inl, arith}
use Rattle.bc_model.specs.Sector.{Value, Image}
use Rattle.bc_model.specs.History.{now, IsLegal, Allowed}
use Rattle.bc_disk.specs.Device.{Content, Among, MayLeave, quiet}
use Rattle.bc_books.specs.Books as book
use Rattle.bc_books.specs.After as books_step
use Rattle.bc_books.specs.Laws.{durable_snapshot}
use Rattle.bc_data.specs.Data as flow
use Rattle.bc_data.specs.Enabled as flow_ask
use Rattle.bc_data.specs.After as flow_step
use Rattle.bc_data.specs.Laws.{IsPair, shown_by}
use Rattle.bc_data.specs.Laws as data_law
use Rattle.bc_data.specs.Invariant.{IsTruthful}
use Rattle.bc_data.proofs.Truth.{counts_of}
use Rattle.bc_data.proofs.Now.{keep_course}
use Rattle.bc_data.proofs.Opening as data_now
use Rattle.bc_crash.specs.Laws as crash_law
use Rattle.bc_crash.proofs.Survive as data_crash
use Rattle.bc_leaves.specs.Parts as parts
use Rattle.bc_whole.specs.State as whole
use Rattle.bc_whole.specs.Together.{is_quiet, is_quiet_step, is_quiet_fault}
use Rattle.bc_known.specs.Acts.{Act, Alone}
use Rattle.bc_known.specs.Acts as known
use Rattle.bc_known.specs.Run as machine
use Rattle.bc_events.specs.Acts.{acts_of}
use Rattle.bc_events.specs.Run.{Opening, State, start, by, IsSome, CanDo, AreAlone, acts_or_none, after, IsRun, run}
use Rattle.bc_events.specs.Laws.{LawPlainNow, LawPlainCrash, LawPlainStable, LawPlainCache}
use Rattle.bc_events.proofs.Machine.{now_same, legal_renamed}
use Rattle.bc_events.specs.declared.event.Deed.TheVariants.{BackingBarrier}
use Rattle.bc_events.specs.declared.event.Event.{Event}

-- ---- one act leaves the index and the cache device

-- where each sector points in every index, and the cache device, are as at the opening
record IsBare (w : flow.Opening) (st : flow.State) : Type 0 where
  index : st.books.index.at ≡ (λ n s. w.books.index s)
  cache : st.cache ≡ quiet w.cache

step_bare : (w : book.Setup) (k : book.Books) (x : book.Step) → is_quiet_step x ≡ true
    → (books_step.after w k x).index.at ≡ k.index.at
step_bare w k (book.Put leaf keys) on = absurd (cc)
step_bare w k (book.Regroup leaf changed counts last) on = absurd (cc)
step_bare w k x on = refl

fault_bare : (d : Content) (x : flow.Fault) → is_quiet_fault x ≡ true
    → flow_step.cache_at_fault d x ≡ d
fault_bare d (flow.CacheFault payload place values) on = absurd (cc)
fault_bare d x on = refl

act_index : (w : flow.Opening) (st : flow.State) (i : ℕ) (act : flow.Act) → is_quiet act ≡ true
    → (flow_step.after w st i act).books.index.at ≡ st.books.index.at
act_index w st i (flow.CacheWrite payload place values) on = absurd (cc)
act_index w st i flow.CacheBarrier on = absurd (cc)
act_index w st i (flow.InsertWrite line leaf keys first values) on = absurd (cc)
act_index w st i (flow.Insert form leaf keys) on = absurd (cc)
act_index w st i (flow.Settle number leaf keys) on = absurd (cc)
act_index w st i (flow.Shelve x) on = step_bare w.books st.books x on
act_index w st i act on = refl

act_cache : (w : flow.Opening) (st : flow.State) (i : ℕ) (act : flow.Act) → is_quiet act ≡ true
    → (flow_step.after w st i act).cache ≡ st.cache
act_cache w st i (flow.CacheWrite payload place values) on = absurd (cc)
act_cache w st i flow.CacheBarrier on = absurd (cc)
act_cache w st i (flow.InsertWrite line leaf keys first values) on = absurd (cc)
act_cache w st i (flow.Insert form leaf keys) on = absurd (cc)
act_cache w st i (flow.Settle number leaf keys) on = absurd (cc)
act_cache w st i (flow.Fail x) on = fault_bare st.cache x on
act_cache w st i act on = refl

-- ---- a plain run

course_join : (w : flow.Opening) (st : flow.State) (xs ys : List flow.Event)
    → flow_step.course w st (xs ++ ys) ≡ flow_step.course w (flow_step.course w st xs) ys
course_join w st [] ys = refl
course_join w st (x ∷ xs) ys = course_join w (flow_step.after w st x.seat x.act) xs ys

is_course_join : (w : flow.Opening) (st : flow.State) (xs ys : List flow.Event)
    → flow_step.IsCourse w st xs → flow_step.IsCourse w (flow_step.course w st xs) ys
    → flow_step.IsCourse w st (xs ++ ys)
is_course_join w st [] ys a b = b
is_course_join w st (x ∷ xs) ys a b =
    (a.0, is_course_join w (flow_step.after w st x.seat x.act) xs ys a.1 b)

-- a state of a run of the data
record AtPlain (w : flow.Opening) (st : flow.State) : Type 0 where
  events : List flow.Event
  course : flow_step.IsCourse w (flow.start w) events
  is : st ≡ flow_step.course w (flow.start w) events
  bare : IsBare w st

one_more : (w : flow.Opening) (st : flow.State) (i : ℕ) (act : flow.Act) → AtPlain w st
    → flow_ask.IsEnabled w st i act → is_quiet act ≡ true
    → AtPlain w (flow_step.after w st i act)
one_more w st i act h on quiet_act =
    let e : flow.Event = record { seat = i; act = act } in record {
      events = h.events ++ (e ∷ []);
      course = is_course_join w (flow.start w) h.events (e ∷ []) h.course
          (subst (λ y. flow_step.IsCourse w y (e ∷ [])) h.is (on, tt));
      is = ap (λ y. flow_step.after w y i act) h.is
          ∙ sym (course_join w (flow.start w) h.events (e ∷ []));
      bare = record {
        index = act_index w st i act quiet_act ∙ h.bare.index;
        cache = act_cache w st i act quiet_act ∙ h.bare.cache;
      };
    }

all_acts : (w : whole.Opening) (st : known.State) (i : ℕ) (acts : List Act) → AtPlain w.flow st.whole.flow
    → AreAlone acts → machine.IsRun w st (by i acts)
    → AtPlain w.flow (machine.run w st (by i acts)).whole.flow
all_acts w st i [] h alone on = h
all_acts w st i (Alone act ∷ acts) h alone on =
    all_acts w (known.after w st i (Alone act)) i acts
    (one_more w.flow st.whole.flow i act h on.0.data_allows.0 on.0.asks) alone.1 on.1
all_acts w st i (act ∷ acts) h alone on = absurd alone.0

one_event : (w : Opening) (st : State) (e : Event) (o : Option (List Act))
    → w.machine.flow.plain ≡ true → AtPlain w.machine.flow st.machine.whole.flow
    → IsSome o (CanDo w st e)
    → AtPlain w.machine.flow
    (machine.run w.machine st.machine (by e.seat (acts_or_none o))).whole.flow
one_event w st e None plain h on = absurd on
one_event w st e (Some acts) plain h on =
    all_acts w.machine st.machine e.seat acts h (on.plain plain) on.course

reached : (w : Opening) (st : State) (es : List Event) → w.machine.flow.plain ≡ true
    → AtPlain w.machine.flow st.machine.whole.flow → IsRun w st es
    → AtPlain w.machine.flow (run w st es).machine.whole.flow
reached w st [] plain h on = h
reached w st (e ∷ es) plain h on = reached w (after w st e) es plain
    (one_event w st e (acts_of w.machine st.machine e.seat e.deed) plain h on.0) on.1

opened : (w : flow.Opening) → AtPlain w (flow.start w)
opened w = record {
  events = [];
  course = tt;
  is = refl;
  bare = record { index = refl; cache = refl };
}

module _ (w : Opening) (x : parts.State) (n : ℕ) (es : List Event) (plain : w.machine.flow.plain ≡ true)
    (pair : IsPair w.machine.flow) (on : IsRun w (start w x n) es) where
  abbrev last : flow.State
  last = (run w (start w x n) es).machine.whole.flow

  at : AtPlain w.machine.flow last
  at = reached w (start w x n) es plain (opened w.machine.flow) on

  legal : IsLegal w.machine.flow.image last.history
  legal = subst (λ st. IsLegal w.machine.flow.image st.history) (sym at.is)
      (data_now.law_now w.machine.flow at.events pair at.course)

  -- nothing is cached, so the backing device has what is shown
  bare : (m s : ℕ) → last.books.index.at m s ≡ None
  bare m s = ap (λ f. f m s) at.bare.index ∙ pair.plain plain s

  shown : (m s : ℕ) (version : ℕ → ℕ) (c b : Image)
      → data_law.shown w.machine.flow.books.bucket (last.books.index.at m) version c b s ≡ b s
  shown m s version c b =
      ap (λ o. shown_by w.machine.flow.books.bucket version o c (b s)) (bare m s)

  safe : (c b : Image) → MayLeave last.cache c → MayLeave last.backing b → (s : ℕ)
      → crash_law.IsSafe w.machine.flow last (durable_snapshot last.books) c b s
  safe c b = subst (λ st. MayLeave st.cache c → MayLeave st.backing b → (s : ℕ)
      → crash_law.IsSafe w.machine.flow st (durable_snapshot st.books) c b s) (sym at.is)
      (data_crash.law_crash w.machine.flow at.events pair at.course
      (durable_snapshot (flow_step.course w.machine.flow (flow.start w.machine.flow) at.events).books) c b (inl refl))

  cache_left : MayLeave last.cache w.machine.flow.cache
  cache_left = subst (λ d. MayLeave d w.machine.flow.cache) (sym at.bare.cache) (λ s. inl refl)

  crash : (b : Image) → MayLeave last.backing b → (s : ℕ)
      → Allowed w.machine.flow.image last.history s (b s)
  crash b left s = subst (Allowed w.machine.flow.image last.history s)
      (shown last.books.journal.durable s last.books.generations.durable w.machine.flow.cache b)
      (safe w.machine.flow.cache b cache_left left s).allowed

  -- ---- once nothing is left that a crash may undo

  true_now : IsTruthful w.machine.flow last
  true_now = subst (λ st. IsTruthful w.machine.flow st) (sym at.is)
      (keep_course w.machine.flow (flow.start w.machine.flow) at.events at.course
      (data_now.inv_opened w.machine.flow pair))

  durable : last.books.journal.durable ≡ last.books.index.count
  durable = let counts = counts_of w.machine.flow.books last.books true_now.books in
      let durable_low = counts.0 in let sealed_low = counts.1 in
      let none = (true_now.plain plain).0 in omega arith

  module _ (running : last.halted ≡ false) (settled : (s : ℕ) (v : Value)
      → Among v (last.backing.leaves s) → Among v (last.backing.reads s)) where
    closed : crash_law.IsClosed last
    closed = record { running = running; journal = durable; backing = settled }

    stable : (b : Image) → MayLeave last.backing b → (s : ℕ)
        → b s ≡ now w.machine.flow.image last.history s
    stable b left s = sym (shown last.books.journal.durable s last.books.generations.durable
        w.machine.flow.cache b)
        ∙ subst (λ st. crash_law.IsClosed st → MayLeave st.cache w.machine.flow.cache
        → MayLeave st.backing b
        → data_law.shown w.machine.flow.books.bucket (st.books.index.at st.books.journal.durable)
        st.books.generations.durable w.machine.flow.cache b s
        ≡ now w.machine.flow.image st.history s) (sym at.is)
        (λ c left_cache left_backing.
        data_crash.law_closed w.machine.flow at.events pair at.course c
        (durable_snapshot
        (flow_step.course w.machine.flow (flow.start w.machine.flow) at.events).books)
        w.machine.flow.cache b (inl refl) left_cache left_backing s) closed cache_left left

-- the last event of a run is done in the state that those before it leave
run_behind : (w : Opening) (st : State) (es : List Event) (e : Event)
    → run w st (es ++ e ∷ []) ≡ after w (run w st es) e
run_behind w st [] e = refl
run_behind w st (x ∷ es) e = run_behind w (after w st x) es e

pub law_plain_now : LawPlainNow
law_plain_now w x n es plain pair on = legal_renamed w.worker w.machine.flow.image
    (last w x n es plain pair on).history (legal w x n es plain pair on)

pub law_plain_crash : LawPlainCrash
law_plain_crash w x n es plain pair on = crash w x n es plain pair on

pub law_plain_stable : LawPlainStable
law_plain_stable w x n es i plain pair on running b left s =
    let e : Event = record { seat = i; deed = BackingBarrier } in
    let settled = subst (λ (st : State). (s : ℕ) (v : Value)
    → Among v (st.machine.whole.flow.backing.leaves s)
    → Among v (st.machine.whole.flow.backing.reads s))
    (sym (run_behind w (start w x n) es e)) (λ s v among. among) in
    stable w x n (es ++ e ∷ []) plain pair on running settled b left s
    ∙ sym (now_same w.worker w.machine.flow.image
    (last w x n (es ++ e ∷ []) plain pair on).history s)

pub law_plain_cache : LawPlainCache
law_plain_cache w x n es plain pair on = (at w x n es plain pair on).bare.cache
