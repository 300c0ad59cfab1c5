-- What is left of both devices behind the closing of a run in which keys came in.
use Rattle.std.proofs.Common.{◌≡◌, ◌⊎◌, inl, inr, ℕ, ◌+◌, Bool, true, false, List, ◌∷◌, [], None, Result, Ok, Err, refl, sym, ap, ◌∙◌, subst, arith}
use Rattle.std.specs.Prelude.{IfOk, OnOk, fold, map, reverse}
use Rattle.bc_book.specs.Pass.{events_in}
use Rattle.bc_book.specs.declared.pass.Pass.{Pass}
use Rattle.bc_crash.specs.Laws.{IsClosed}
use Rattle.bc_dirty_laws.proofs.Law.{law_stays}
use Rattle.bc_dirty_laws.specs.Dirty.{IsNoneDirty}
use Rattle.bc_disk.specs.Disk.{DiskFacts, IsHonest, Overwritten}
use Rattle.bc_events.specs.Columns.{entries_of, halt_of}
use Rattle.bc_events.specs.Run.{State}
use Rattle.bc_events.specs.declared.event.Deed.{Deed}
use Rattle.bc_events.specs.declared.event.Deed.TheVariants as deed
use Rattle.bc_events.specs.declared.event.Event.{Event}
use Rattle.bc_image.specs.Pair.{Pair}
use Rattle.bc_image.specs.Reading as pairs
use Rattle.bc_image.specs.Shown.{shown_by}
use Rattle.bc_known.proofs.Law.{At, order_at}
use Rattle.bc_meta.specs.Layout.{Layout}
use Rattle.bc_model.specs.History.{now}
use Rattle.bc_model.specs.Sector.{Image}
use Rattle.bc_pair.specs.Found.{pair_of}
use Rattle.bc_parts.specs.Machine.{IsRun}
use Rattle.bc_parts.specs.Seat.{PartsView, Run}
use Rattle.bc_plain_laws.proofs.of_bc_machine.Noting.{halted_events}
use Rattle.bc_plain_laws.proofs.of_bc_machine.Viewing.{new_view, view_run}
use Rattle.bc_plain_laws.specs.bc_hand.Seats.{IsCoreSeat, View, by, core, world}
use Rattle.bc_recoverable.specs.Made.{AreMade}
use Rattle.bc_recoverable.specs.bc_machine.Standing.{oldest_first, origin_before, replay_is, replay_runs}
use Rattle.bc_recoverable.specs.bc_machine.World.{FromEach, IsBacking, IsCache, IsCourseOf, IsOrigin, IsView, Origin, World, after, data_of, opening, replay, seen_from}
use Rattle.bc_recoverable.specs.bc_machine.declared.part.CorePart.{CorePart}
use Rattle.bc_recoverable.specs.bc_ranges.Laws.{frame_of}
use Rattle.bc_replay.specs.declared.held.Survey.{Survey}
use Rattle.bc_session.proofs.of_bc_dirty.Alone.{all_still, only_done}
use Rattle.bc_session.proofs.of_bc_dirty.Walking.{gone_on, none_told}
use Rattle.bc_session.proofs.of_bc_open.States.{Later, later_of, over_torn, told_of, torn_says}
use Rattle.bc_session.specs.Close.{HasClosed, IsBarrierOf, IsLastState, Outcome}
use Rattle.bc_session.specs.Finish.{Asked, HasFinished, IsFinishedOf, MayLack}
use Rattle.bc_session.specs.bc_dirty.Walk.{AreNodeReads, HasAsked, HasMarked, HasWalked, IsAlone}
use Rattle.bc_session.specs.bc_loaded.declared.loading.Loaded.{Loaded}
use Rattle.bc_session.specs.bc_open.Left.{SaysState}
use Rattle.bc_session.specs.bc_entered.Laws.{IsSameImage}
use Rattle.bc_session.specs.bc_started.bc_deed.Flushed.{HasDone}
use Rattle.bc_session.specs.bc_started.First.{HasAll}
use Rattle.bc_session.specs.bc_started.Laws.{AreUntorn}
use Rattle.bc_session.specs.declared.finishing.FinishError.{FinishError}
use Rattle.bc_session.specs.declared.finishing.Finished.{Finished}
use Rattle.bc_shares.proofs.Law.{at_state}
use Rattle.bc_state.specs.State.{super_in}
use Rattle.bc_super.specs.Writing.{IsBackingStored}
use Rattle.bc_super.specs.declared.backing.BackingSuper.{BackingSuper}
use Rattle.bc_super.specs.declared.state.BackingState.{BackingState}
use Rattle.bc_super.specs.declared.state.BackingState.TheVariants as states
use Rattle.bc_session_laws.specs.Events.{HasGone, left_by}
use Rattle.bc_session_laws.specs.Finished.{AreAllDurable, HasEnded, IsNow, LawEnded, LawFinished}
use Rattle.bc_session_laws.specs.Laws.{HasKept, IsFrom, IsOpenedOn}
use Rattle.bc_session_laws.proofs.Closed.{law_closed}
use Rattle.bc_session_laws.proofs.Kept.{at_end, course, rest_told, says_backed, says_now}

-- ---- the outcome

ok_closed : (asked : Asked) (x : Outcome) (r : Result (Unit {0}) FinishError)
    → IsFinishedOf asked x r → r ≡ Ok tt → x ≡ Ok tt
ok_closed asked (Ok u) r is ok = refl
ok_closed asked (Err why) r is ok = absurd (let both = sym is ∙ ok in cc)

ok_asked : (asked : Asked) (x : Outcome) (r : Result (Unit {0}) FinishError)
    → IsFinishedOf asked x r → r ≡ Ok tt → (dirty : Bool) × (asked ≡ Ok dirty)
ok_asked (Ok dirty) x r is ok = (dirty, refl)
ok_asked (Err e) (Ok u) r is ok = absurd (let both = sym is ∙ ok in cc)
ok_asked (Err e) (Err why) r is ok = absurd (let both = sym is ∙ ok in cc)

ok_barrier : {B : Type 0} (facts : B → DiskFacts) (b : BackingSuper) (dirty : Bool)
    (x result : Outcome) (old new : B) → IsLastState facts b dirty x result old new
    → result ≡ Ok tt → x ≡ Ok tt
ok_barrier facts b dirty (Ok u) result old new is ok = refl
ok_barrier facts b dirty (Err why) result old new is ok = absurd (let both = sym is.0 ∙ ok in cc)

made_deeds : (x : Outcome) (ds : List Deed) (seen : List Event) → IsBarrierOf x ds seen → x ≡ Ok tt
    → (ds ≡ deed.BackingBarrier ∷ []) × (halt_of seen ≡ None)
made_deeds (Ok u) ds seen is ok = is
made_deeds (Err why) ds seen is ok = absurd (cc)

-- ---- what stays durable

durable_reads : (x : World) (i : ℕ) (ds : List Deed) → AreNodeReads ds → FromEach x AreAllDurable
    → FromEach (fold after x (map (by i) ds)) AreAllDurable
durable_reads x i [] reads h = h
durable_reads x i (d ∷ ds) reads h = durable_reads (after x (by i d)) i ds reads.1
    (λ o is course. one (reads.0.0) d reads.0.1 o
    (h o (origin_before x (by i d) o is) course.2))
  where
    one : (at : ℕ) (d : Deed) → d ≡ deed.CacheRead at None [] → (o : Origin)
        → AreAllDurable o (replay o x.log) → AreAllDurable o (replay o (by i d ∷ x.log))
    one at d is o h = subst (λ (e : Deed). AreAllDurable o (replay o (by i e ∷ x.log))) (sym is) h

-- a barrier of the backing device closes what is durable
barrier_closed : (x : World) (i : ℕ) (o : Origin) → IsOrigin (after x (by i deed.BackingBarrier)) o
    → IsCourseOf o (after x (by i deed.BackingBarrier)).log → FromEach x AreAllDurable
    → (replay o (after x (by i deed.BackingBarrier)).log).machine.whole.flow.halted ≡ false
    → IsClosed (replay o (after x (by i deed.BackingBarrier)).log).machine.whole.flow
barrier_closed x i o is course all running =
    let log = (after x (by i deed.BackingBarrier)).log in
    let here : At o.opening.machine o.parts (replay o log).machine =
    subst (λ (st : State). At o.opening.machine o.parts st.machine) (sym (replay_is o log))
    (at_state o.opening o.parts o.next_seq (oldest_first log) is.sound
    (replay_runs o log course)) in
    let order = order_at o.opening.machine o.parts (replay o log).machine.whole is.sound here.at in
    let low = order.counted.durable in
    let high = order.counted.sealed in
    let durable = all o (origin_before x (by i deed.BackingBarrier) o is) course.2 in record {
      running = running;
      journal = omega (arith, low, high, durable);
      backing = λ s v among. among;
    }

not_true : (b : Bool) → (b ≡ true → ⊥) → b ≡ false
not_true false h = refl
not_true true h = absurd (h refl)

module _ {C B : Type 0} (cache_facts : C → DiskFacts) (backing_facts : B → DiskFacts) where
  -- no device has halted it, as it is from an opening
  running : (start : List (CorePart C B)) (es : List Event) (y : World)
      → IsView (fold after (opening cache_facts backing_facts start) es) y → halt_of es ≡ None
      → (data_of y).halted ≡ false
  running start es y view none =
      let one = view_run (opening cache_facts backing_facts start) es y view in
      let new = new_view cache_facts backing_facts start one.0 one.1 in
      subst (λ (z : World). (data_of z).halted ≡ false) (sym one.2) (not_true _ (λ on.
      halted_events one.0 es None (λ is. absurd (cc (is, new.halted))) on none))

  all_durable : (v w : View cache_facts backing_facts) (dirty : Bool)
      → IsAlone cache_facts backing_facts v → HasAsked cache_facts backing_facts dirty v w
      → IsCoreSeat cache_facts backing_facts w
      → FromEach (world cache_facts backing_facts v) AreAllDurable
      → FromEach (world cache_facts backing_facts w) AreAllDurable
  all_durable v w dirty all asked seat h = go asked.walked
    where
      go : HasDone cache_facts backing_facts [] v w
          ⊎ (HasMarked (world cache_facts backing_facts v) × HasWalked cache_facts backing_facts v w)
          → FromEach (world cache_facts backing_facts w) AreAllDurable
      go (inl done) = subst (λ (x : World). FromEach x AreAllDurable)
          (sym (only_done cache_facts backing_facts v w [] all done seat)) h
      go (inr (marked, walked)) = subst (λ (x : World). FromEach x AreAllDurable)
          (sym (only_done cache_facts backing_facts v w walked.deeds all walked.done seat))
          (durable_reads (world cache_facts backing_facts v) v.first walked.deeds walked.reads h)

  if_ok : (asked : Asked) (dirty : Bool) (v w : View cache_facts backing_facts)
      → asked ≡ Ok dirty → IfOk asked (λ d. HasAsked cache_facts backing_facts d v w)
      → HasAsked cache_facts backing_facts dirty v w
  if_ok asked dirty v w is h =
      subst (λ (a : Asked). IfOk a (λ d. HasAsked cache_facts backing_facts d v w)) is h

  lacks_is : (asked : Asked) (dirty lacks : Bool) → asked ≡ Ok dirty → MayLack asked lacks
      → lacks ≡ dirty
  lacks_is asked dirty lacks is h = subst (λ (a : Asked). MayLack a lacks) is h

  module _ (honest : (e : B) → IsHonest (backing_facts e)) (s : Survey) (b : BackingSuper)
      (cache : C) (backing : B) (c d : Image)
      (v : pairs.View) (layout : Layout) (loaded : Loaded) (parts : PartsView (CorePart C B))
      (seat : View cache_facts backing_facts)
      (opened : IsOpenedOn cache_facts backing_facts s b cache backing c d v layout loaded parts
      seat) (next_seq : ℕ) (o : Origin)
      (from : IsFrom cache_facts backing_facts s b cache backing c d v layout loaded parts seat
      opened next_seq o) (last : View cache_facts backing_facts) (r : Finished C B)
      (run_is : last.run ≡ parts.run)
      (h : HasFinished cache_facts backing_facts b last r) where
    abbrev p : Pair
    p = pair_of (cache_facts cache) (backing_facts backing) c d

    abbrev cl : HasClosed cache_facts backing_facts b h.lacks h.at h.closed
    cl = h.close

    way : (ds : List Deed) × HasDone cache_facts backing_facts ds last h.at
    way = gone_on cache_facts backing_facts h.asked last h.at h.told h.stopped

    at_run : h.at.run ≡ parts.run
    at_run = way.1.same.run ∙ run_is

    abbrev events : List Event
    events = cl.last.seen

    last_run : cl.last.run ≡ parts.run
    last_run = cl.made.done.same.run ∙ at_run

    abbrev y : World
    y = left_by cache_facts backing_facts parts events

    gone : HasGone cache_facts backing_facts parts events h.closed.cache cl.between
    gone = record {
      run = subst (λ (q : Run (CorePart C B)). IsRun (core cache_facts backing_facts)
          (opening cache_facts backing_facts q.start) events) last_run cl.seat.seat.run;
      cache_is = subst (λ (q : Run (CorePart C B)). IsCache {C = C} {B = B} cache_facts
          backing_facts h.closed.cache (fold after (opening cache_facts backing_facts q.start)
          events)) last_run cl.cache;
      backing_is = subst (λ (q : Run (CorePart C B)). IsBacking {C = C} {B = B} cache_facts
          backing_facts cl.between (fold after (opening cache_facts backing_facts q.start) events))
          last_run cl.backing;
    }

    same_events : events_in r.pass ≡ events
    same_events = ap (λ (x : Pass). events_in x) h.pass ∙ cl.events

    module _ (untorn : AreUntorn o y.log) (made : AreMade (frame_of p v) o y.log)
        (all : HasAll cache_facts backing_facts last)
        (durable : FromEach (world cache_facts backing_facts last) AreAllDurable)
        (good : r.result ≡ Ok tt) where
      asked_is : (dirty : Bool) × (h.asked ≡ Ok dirty)
      asked_is = ok_asked h.asked h.closed.result r.result h.outcome good

      closed_ok : h.closed.result ≡ Ok tt
      closed_ok = ok_closed h.asked h.closed.result r.result h.outcome good

      barrier_ok : cl.barrier ≡ Ok tt
      barrier_ok = ok_barrier backing_facts b h.lacks cl.barrier h.closed.result cl.between.disk
          h.closed.backing cl.state closed_ok

      deeds : (cl.made.deeds ≡ deed.BackingBarrier ∷ []) × (halt_of events ≡ None)
      deeds = made_deeds cl.barrier cl.made.deeds events cl.made.is barrier_ok

      asked : HasAsked cache_facts backing_facts asked_is.0 last h.at
      asked = if_ok h.asked asked_is.0 last h.at asked_is.1 h.told

      alone : IsAlone cache_facts backing_facts last
      alone = record { first = all.first; end = all.end }

      all_at : IsAlone cache_facts backing_facts h.at
      all_at = all_still cache_facts backing_facts last h.at way.0 alone way.1

      abbrev barrier : Event
      barrier = by h.at.first deed.BackingBarrier

      y_is : y ≡ after (world cache_facts backing_facts h.at) barrier
      y_is = ap (λ (q : Run (CorePart C B)). fold after (opening cache_facts backing_facts q.start)
          events) (sym last_run)
          ∙ only_done cache_facts backing_facts h.at cl.last (deed.BackingBarrier ∷ []) all_at
          (subst (λ (ds : List Deed). HasDone cache_facts backing_facts ds h.at cl.last) deeds.0
          cl.made.done) cl.seat

      origin : IsOrigin y o
      origin = at_end cache_facts backing_facts s b cache backing c d v layout loaded parts seat
          opened next_seq o from events h.closed.cache cl.between gone untorn made

      on : IsCourseOf o y.log
      on = course cache_facts backing_facts s b cache backing c d v layout loaded parts seat
          opened next_seq o from events h.closed.cache cl.between gone untorn made

      halts : (replay o y.log).machine.whole.flow.halted ≡ false
      halts = running parts.run.start events (seen_from o y)
          (inr (o, record { is = refl; origin = origin; course = on })) deeds.1

      is_closed : IsClosed (replay o y.log).machine.whole.flow
      is_closed = subst (λ (z : World). IsOrigin z o → IsCourseOf o z.log
          → (replay o z.log).machine.whole.flow.halted ≡ false
          → IsClosed (replay o z.log).machine.whole.flow) (sym y_is)
          (λ is course none. barrier_closed (world cache_facts backing_facts h.at) h.at.first o is
          course (all_durable last h.at asked_is.0 alone asked h.seat durable) none)
          origin on halts

      -- ---- the superblock was written again, or not

      abbrev Any : BackingState → Type 0
      Any _ = Unit {0}

      abbrev mid : DiskFacts
      mid = backing_facts cl.between.disk

      -- what the device holds now is what it held then, but for the state
      abbrev IsOver : Image → Type 0
      IsOver other = (was : Image) × mid.may_leave was
          × (IsSameImage was other ⊎ SaysState Any b was other)

      abbrev Overs : B → Type 0
      Overs e = (other : Image) → (backing_facts e).may_leave other → IsOver other

      same_over : Overs cl.between.disk
      same_over other can = (other, can, inl (λ t. refl))

      stored_over : IsBackingStored (super_in states.Clean b) mid (backing_facts h.closed.backing)
          → Overs h.closed.backing
      stored_over (bytes, sector, is) other can =
          let held = rest_told cache_facts backing_facts s b cache backing c d v layout loaded parts
          seat opened next_seq o from events h.closed.cache cl.between gone untorn made in
          let new : Later (Overwritten 8 (bytes ∷ [])) held.0 (backing_facts h.closed.backing).holds =
          later_of (Overwritten 8 (bytes ∷ [])) mid.holds (backing_facts h.closed.backing).holds
          held.0 held.1 is.holds in
          let left = told_of (λ (i : Image). (image : Image)
          → (backing_facts h.closed.backing).may_leave image → (t : ℕ) → image t ≡ i t)
          (backing_facts h.closed.backing).holds new.image new.is is.leaves other can in (
            held.0,
            told_of mid.may_leave mid.holds held.0 held.1 (honest cl.between.disk).possible,
            torn_says Any b states.Clean tt tt bytes sector held.0 other
                (over_torn 8 (bytes ∷ []) held.0 other (λ t. left t ∙ new.related t)),
          )

      of_ok : (x : Outcome) → x ≡ Ok tt
          → OnOk x (IsBackingStored (super_in states.Clean b) mid (backing_facts h.closed.backing))
          → IsBackingStored (super_in states.Clean b) mid (backing_facts h.closed.backing)
      of_ok (Ok u) ok is = is
      of_ok (Err why) ok is = absurd (cc)

      over_by : (barrier : Outcome) (dirty : Bool) → barrier ≡ Ok tt
          → IsLastState backing_facts b dirty barrier h.closed.result cl.between.disk
          h.closed.backing → Overs h.closed.backing
      over_by (Err why) dirty ok is = absurd (cc)
      over_by (Ok u) true ok is = subst Overs (sym is.1) same_over
      over_by (Ok u) false ok is = stored_over (of_ok h.closed.result closed_ok is.ok)

      overs : Overs h.closed.backing
      overs = over_by cl.barrier h.lacks barrier_ok cl.state

      -- ---- what is left

      none_dirty : h.lacks ≡ false → IsNoneDirty o (replay o y.log)
      none_dirty off =
          let clean : asked_is.0 ≡ false = sym (lacks_is h.asked asked_is.0 h.lacks asked_is.1
          h.may_lack) ∙ off in
          let before : FromEach (world cache_facts backing_facts h.at) IsNoneDirty =
          none_told asked_is.0 (world cache_facts backing_facts h.at) clean asked.told in
          subst (λ (z : World). FromEach z IsNoneDirty) (sym y_is)
          ((law_stays (world cache_facts backing_facts h.at) barrier refl).none before) o origin on

      pub leaves : (image other : Image) → (cache_facts h.closed.cache).may_leave image
          → (backing_facts h.closed.backing).may_leave other
          → IsNow p v (reverse (entries_of events)) (record p { cache = image; backing = other })
      leaves image other may can =
          let over = overs other can in
          says_now cache_facts backing_facts s b cache backing c d v layout loaded parts
          seat opened next_seq o from events h.closed.cache cl.between gone untorn made is_closed
          image over.0 other may over.1 Any over.2

      pub backed : h.lacks ≡ false → (image other : Image)
          → (cache_facts h.closed.cache).may_leave image
          → (backing_facts h.closed.backing).may_leave other → (t : ℕ)
          → other (v.backing.data_offset + t) ≡ now (shown_by p v) (reverse (entries_of events)) t
      backed off image other may can t =
          let over = overs other can in
          says_backed cache_facts backing_facts s b cache backing c d v layout loaded parts
          seat opened next_seq o from events h.closed.cache cl.between gone untorn made is_closed
          (none_dirty off) image over.0 other may over.1 Any over.2 t

      pub has_ended : HasEnded cache_facts backing_facts p v b last r h
      has_ended = record {
        leaves = λ image other may can. subst (λ (es : List Event).
            IsNow p v (reverse (entries_of es)) (record p { cache = image; backing = other }))
            (sym same_events) (leaves image other
            (subst (λ (e : C). (cache_facts e).may_leave image) h.cache may)
            (subst (λ (e : B). (backing_facts e).may_leave other) h.backing can));
        backed = λ off image other may can t. subst (λ (es : List Event).
            other (v.backing.data_offset + t) ≡ now (shown_by p v) (reverse (entries_of es)) t)
            (sym same_events) (backed off image other
            (subst (λ (e : C). (cache_facts e).may_leave image) h.cache may)
            (subst (λ (e : B). (backing_facts e).may_leave other) h.backing can) t);
      }

    pub has_finished : AreUntorn o (left_by cache_facts backing_facts parts (events_in r.pass)).log
        → AreMade (frame_of p v) o
        (left_by cache_facts backing_facts parts (events_in r.pass)).log
        → HasKept cache_facts backing_facts s b cache backing c d v layout loaded parts seat
        (events_in r.pass) r.cache r.backing
    has_finished untorn made = subst (λ (e : C). HasKept cache_facts backing_facts s b cache backing
        c d v layout loaded parts seat (events_in r.pass) e r.backing) (sym h.cache)
        (subst (λ (e : B). HasKept cache_facts backing_facts s b cache backing
        c d v layout loaded parts seat (events_in r.pass) h.closed.cache e) (sym h.backing)
        (subst (λ (x : Pass). AreUntorn o (left_by cache_facts backing_facts parts (events_in x)).log
        → AreMade (frame_of p v) o (left_by cache_facts backing_facts parts (events_in x)).log
        → HasKept cache_facts backing_facts s b cache backing c d v layout loaded parts seat
        (events_in x) h.closed.cache h.closed.backing) (sym h.pass)
        (λ u m. law_closed cache_facts backing_facts honest s b cache backing c d v layout loaded
        parts seat opened next_seq o from h.at h.lacks h.closed at_run cl u m) untorn made))

module _ {C B : Type 0} (cache_facts : C → DiskFacts) (backing_facts : B → DiskFacts)
    (honest : (e : B) → IsHonest (backing_facts e)) where
  pub law_finished : LawFinished {C = C} {B = B} cache_facts backing_facts
  law_finished s b cache backing c d v layout loaded parts seat opened next_seq o from last r run_is h
      untorn made =
      has_finished cache_facts backing_facts honest s b cache backing c d v layout loaded parts seat
      opened next_seq o from last r run_is h untorn made

  pub law_ended : LawEnded {C = C} {B = B} cache_facts backing_facts
  law_ended s b cache backing c d v layout loaded parts seat opened next_seq o from last r run_is
      all durable h good untorn made =
      let same = same_events cache_facts backing_facts honest s b cache backing c d v layout loaded
      parts seat opened next_seq o from last r run_is h in
      has_ended cache_facts backing_facts honest s b cache backing c d v layout loaded parts seat
      opened next_seq o from last r run_is h
      (subst (λ (es : List Event). AreUntorn o (left_by cache_facts backing_facts parts es).log)
      same untorn)
      (subst (λ (es : List Event). AreMade
      (frame_of (pair_of (cache_facts cache) (backing_facts backing) c d) v) o
      (left_by cache_facts backing_facts parts es).log) same made) all durable good
