-- Behind the data the backing device is as it was: each claim lies within them, and each write of
-- the device within a claim.
use Rattle.std.proofs.Common.{◌≡◌, ℕ, ◌<◌, ◌≤◌, true, List, [], ◌∷◌, Option, Some, None, refl, ap, ◌∙◌, arith, if◌then◌else◌}
use Rattle.bc_model.specs.Sector.{Value, at_run, Gives}
use Rattle.bc_disk.specs.Device.{Content, instead, besides}
use Rattle.bc_data.specs.Seats.{Claim, Covers}
use Rattle.bc_data.specs.Data as flow
use Rattle.bc_data.specs.Enabled as flow_ask
use Rattle.bc_data.specs.After as flow_step
use Rattle.bc_data.proofs.Runs.{miss}
use Rattle.bc_whole.specs.State as whole
use Rattle.bc_known.specs.Acts.{Act, Alone}
use Rattle.bc_known.specs.Acts as known
use Rattle.bc_known.specs.Run as machine
use Rattle.bc_events.specs.Acts.{acts_of}
use Rattle.bc_events.specs.Run as core
use Rattle.bc_events.specs.Run.{IsSome, CanDo, AreAlone, acts_or_none}
use Rattle.bc_events.specs.declared.event.Event.{Event}
use Rattle.bc_hand.specs.bc_machine.Frame.{by_test}

-- the claim lies within the data
abbrev IsInside : ℕ → Claim → Type 0
IsInside size c = (s : ℕ) → Covers c s → s < size

-- the sector reads this value, and a crash leaves it
abbrev IsHeld : Content → ℕ → Value → Type 0
IsHeld d s v = (d.reads s ≡ v ∷ []) × (d.leaves s ≡ v ∷ [])

pub record IsBounded (w : flow.Opening) (st : flow.State) : Type 0 where
  pub claims : (n : ℕ) → IsInside w.books.size (flow.claim_of st n)
  pub behind : (s : ℕ) → w.books.size ≤ s → IsHeld st.backing s (w.backing s)

module _ (w : flow.Opening) (st : flow.State) (i : ℕ) (h : IsBounded w st) where
  seat_inside : (act : flow.Act) → flow_ask.IsEnabled w st i act
      → IsInside w.books.size (flow_step.seat_after w st.books (st.seats i) act).claim
  seat_inside (flow.MakeClaim first count exclusive) on =
      let inside = on.can.inside in λ s covers. let below = covers.1 in omega arith
  seat_inside flow.Release on = λ s covers. absurd (let below = covers.1 in omega arith)
  seat_inside (flow.Learn (flow.Look leaf)) on = h.claims i
  seat_inside (flow.Learn (flow.CacheRead first values)) on = h.claims i
  seat_inside (flow.Learn (flow.BackingRead first values)) on = h.claims i
  seat_inside (flow.BackingWrite (flow.Around line) first values) on = h.claims i
  seat_inside (flow.BackingWrite flow.Copy first values) on = h.claims i
  seat_inside (flow.Fail (flow.BackingFault (flow.Around line) first values)) on = h.claims i
  seat_inside (flow.Fail (flow.BackingFault flow.Copy first values)) on = h.claims i
  seat_inside (flow.Fail (flow.CacheFault payload place values)) on = h.claims i
  seat_inside (flow.Fail flow.BarrierFault) on = h.claims i
  seat_inside (flow.Fail flow.ReadFault) on = h.claims i
  seat_inside act on = h.claims i

  seats_inside : (act : flow.Act) → flow_ask.IsEnabled w st i act → (n : ℕ)
      → IsInside w.books.size (flow_step.seats_after w st.books st.seats i act n).claim
  seats_inside flow.BackingBarrier on n = h.claims n
  seats_inside act on n = by_test n i
      (λ b. IsInside w.books.size
      (if b then flow_step.seat_after w st.books (st.seats i) act else st.seats n).claim)
      (λ is. seat_inside act on) (λ no. h.claims n)

  -- a write of the seat lies within its claim
  covers : (route : flow.Route) (first : ℕ) (values : List Value)
      → flow_ask.CanPutBack w st i route first values
      → Gives first values (λ s v. Covers (flow.claim_of st i) s)
  covers (flow.Around line) first values can = λ s v is. (can.bare s v is).0
  covers flow.Copy first values can = λ s v is. (can.checked s v is).0

  misses : (route : flow.Route) (first : ℕ) (values : List Value)
      → flow_ask.CanPutBack w st i route first values → (s : ℕ) → w.books.size ≤ s
      → at_run first values s ≡ None
  misses route first values can s high = miss (at_run first values s)
      (λ v is. let low = h.claims i s (covers route first values can s v is) in
      absurd (omega arith))

  written_over : (route : flow.Route) (first : ℕ) (values : List Value)
      → flow_ask.CanPutBack w st i route first values → (s : ℕ) → w.books.size ≤ s
      → (f : Option Value → List Value → List Value) → ((old : List Value) → f None old ≡ old)
      → (old : List Value) → f (at_run first values s) old ≡ old
  written_over route first values can s high f none old =
      ap (λ o. f o old) (misses route first values can s high) ∙ none old

  backing_held : (act : flow.Act) → flow_ask.IsEnabled w st i act → (s : ℕ) → w.books.size ≤ s
      → IsHeld (flow_step.backing_after st.backing act) s (w.backing s)
  backing_held (flow.BackingWrite route first values) on s high = (
    written_over route first values on.can s high instead (λ old. refl) (st.backing.reads s)
        ∙ (h.behind s high).0,
    written_over route first values on.can s high besides (λ old. refl) (st.backing.leaves s)
        ∙ (h.behind s high).1,
  )
  backing_held flow.BackingBarrier on s high = ((h.behind s high).0, (h.behind s high).0)
  backing_held (flow.Fail (flow.BackingFault route first values)) on s high = (
    written_over route first values on.can s high besides (λ old. refl) (st.backing.reads s)
        ∙ (h.behind s high).0,
    written_over route first values on.can s high besides (λ old. refl) (st.backing.leaves s)
        ∙ (h.behind s high).1,
  )
  backing_held (flow.Fail fault) on s high = h.behind s high
  backing_held act on s high = h.behind s high

  bounded_act : (act : flow.Act) → flow_ask.IsEnabled w st i act
      → IsBounded w (flow_step.after w st i act)
  bounded_act act on = record { claims = seats_inside act on; behind = backing_held act on }

bounded_acts : (w : whole.Opening) (st : known.State) (i : ℕ) (acts : List Act)
    → IsBounded w.flow st.whole.flow → AreAlone acts → machine.IsRun w st (core.by i acts)
    → IsBounded w.flow (machine.run w st (core.by i acts)).whole.flow
bounded_acts w st i [] h alone on = h
bounded_acts w st i (Alone act ∷ acts) h alone on =
    bounded_acts w (known.after w st i (Alone act)) i acts
    (bounded_act w.flow st.whole.flow i h act on.0.data_allows.0) alone.1 on.1
bounded_acts w st i (act ∷ acts) h alone on = absurd alone.0

bounded_row : (w : core.Opening) (st : core.State) (e : Event) (o : Option (List Act))
    → w.machine.flow.plain ≡ true → IsBounded w.machine.flow st.machine.whole.flow
    → IsSome o (CanDo w st e) → IsBounded w.machine.flow
    (machine.run w.machine st.machine (core.by e.seat (acts_or_none o))).whole.flow
bounded_row w st e None plain h on = absurd on
bounded_row w st e (Some acts) plain h on =
    bounded_acts w.machine st.machine e.seat acts h (on.plain plain) on.course

pub bounded_run : (w : core.Opening) (st : core.State) (es : List Event)
    → w.machine.flow.plain ≡ true → IsBounded w.machine.flow st.machine.whole.flow
    → core.IsRun w st es
    → IsBounded w.machine.flow (core.run w st es).machine.whole.flow
bounded_run w st [] plain h on = h
bounded_run w st (e ∷ es) plain h on = bounded_run w (core.after w st e) es plain
    (bounded_row w st e (acts_of w.machine st.machine e.seat e.deed) plain h on.0) on.1

-- as a run opens
pub bounded_opened : (w : flow.Opening) → IsBounded w (flow.start w)
bounded_opened w = record {
  claims = λ n s covers. absurd (let below = covers.1 in omega arith);
  behind = λ s high. (refl, refl);
}
