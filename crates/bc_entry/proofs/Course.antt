-- What holds in each state of a run from an opening of the core.
use Rattle.std.proofs.Common.{◌≡◌, ℕ, Bool, true, false, List, [], ◌∷◌, refl, sym, ap, ◌∙◌, subst}
use Rattle.bc_books.specs.Books.{Step, Seal, SealChain, Sealed}
use Rattle.bc_books.specs.Invariant.{IsInOrder}
use Rattle.bc_data.specs.Data as flow
use Rattle.bc_data.specs.Data.{Nothing, Fixed, Ready, Sent, Safe, CacheWrite, CacheBarrier, JournalEntry, Shelve}
use Rattle.bc_data.specs.Enabled as flow_ask
use Rattle.bc_data.specs.After.{IsCourse, at_barrier, course}
use Rattle.bc_data.specs.After as flow_step
use Rattle.bc_events.specs.Run as core
use Rattle.bc_events.specs.declared.event.Event.{Event}
use Rattle.bc_known.specs.Laws.{IsSound}
use Rattle.bc_known.proofs.Law.{At, inv_at, order_at}
use Rattle.bc_sealing.specs.bc_machine.Standing.{oldest_first, replay_is, replay_runs}
use Rattle.bc_sealing.specs.bc_machine.World.{IsCourseOf, Origin, replay}
use Rattle.bc_meta.specs.Records as meta
use Rattle.bc_sealing.specs.Laws.{stage_in}
use Rattle.bc_shares.proofs.Law.{at_state}
use Rattle.bc_whole.specs.Linked.{stage_of}
use Rattle.bc_whole.proofs.Kept.{Inv}

-- ---- the machine's

pub at_course : (o : Origin) → IsSound o.opening.machine o.parts → (es : List Event)
    → IsCourseOf o es → At o.opening.machine o.parts (replay o es).machine
at_course o sound es on = subst (λ (st : core.State). At o.opening.machine o.parts st.machine)
    (sym (replay_is o es))
    (at_state o.opening o.parts o.next_seq (oldest_first es) sound (replay_runs o es on))

pub inv_course : (o : Origin) → IsSound o.opening.machine o.parts → (es : List Event)
    → IsCourseOf o es → Inv o.opening.machine (replay o es).machine.whole
inv_course o sound es on = inv_at o.opening.machine o.parts (replay o es).machine.whole sound
    (at_course o sound es on).at

pub order_course : (o : Origin) → IsSound o.opening.machine o.parts → (es : List Event)
    → IsCourseOf o es
    → IsInOrder o.opening.machine.flow.books (replay o es).machine.whole.flow.books
order_course o sound es on = order_at o.opening.machine o.parts (replay o es).machine.whole sound
    (at_course o sound es on).at

-- ---- an entry waits to be durable just where one is sealed

abbrev pub is_sealed : flow.Stage → Bool
is_sealed Nothing = false
is_sealed Fixed = true
is_sealed Ready = true
is_sealed Sent = true
is_sealed Safe = true

abbrev Waits : flow.State → Type 0
Waits st = st.books.journal.waiting ≡ is_sealed st.stage

barrier_waits : (g : flow.Stage) → is_sealed (at_barrier g) ≡ is_sealed g
barrier_waits Nothing = refl
barrier_waits Fixed = refl
barrier_waits Ready = refl
barrier_waits Sent = refl
barrier_waits Safe = refl

shelved_waits : (w : flow.Opening) (st : flow.State) (i : ℕ) (x : Step) → Waits st
    → Waits (flow_step.after w st i (Shelve x))
shelved_waits w st i Seal h = refl
shelved_waits w st i (SealChain j versions chain) h = refl
shelved_waits w st i Sealed h = refl
shelved_waits w st i x h = h

written_waits : (w : flow.Opening) (st : flow.State) (i : ℕ) (p : flow.Payload) (place : ℕ)
    (values : _) → flow_ask.IsSendable st.stage p → Waits st
    → Waits (flow_step.after w st i (CacheWrite p place values))
written_waits w st i JournalEntry place values ready h = h ∙ ap is_sealed ready
written_waits w st i p place values ready h = h

act_waits : (w : flow.Opening) (st : flow.State) (i : ℕ) (act : flow.Act)
    → flow_ask.IsEnabled w st i act → Waits st → Waits (flow_step.after w st i act)
act_waits w st i (CacheWrite p place values) on h =
    written_waits w st i p place values on.can.sendable h
act_waits w st i CacheBarrier on h = h ∙ sym (barrier_waits st.stage)
act_waits w st i (Shelve x) on h = shelved_waits w st i x h
act_waits w st i act on h = h

course_waits : (w : flow.Opening) (st : flow.State) (es : List flow.Event) → IsCourse w st es
    → Waits st → Waits (course w st es)
course_waits w st [] on h = h
course_waits w st (e ∷ es) on h = course_waits w (flow_step.after w st e.seat e.act) es on.1
    (act_waits w st e.seat e.act on.0 h)

-- ---- one stage

pub one_stage : (o : Origin) → IsSound o.opening.machine o.parts → (es : List Event)
    → IsCourseOf o es → let st = replay o es in
    stage_of st.machine.whole.flow.stage ≡ stage_in st
one_stage o sound es on =
    let inv = inv_course o sound es on in
    inv.link.stage ∙ sym (ap (λ (r : meta.Records). r.stage) inv.same)

pub waits_course : (o : Origin) → IsSound o.opening.machine o.parts → (es : List Event)
    → IsCourseOf o es → let f = (replay o es).machine.whole.flow in
    f.books.journal.waiting ≡ is_sealed f.stage
waits_course o sound es on =
    let has = (inv_course o sound es on).flow in
    subst Waits (sym has.is) (course_waits o.opening.machine.flow
    (flow.start o.opening.machine.flow) has.list has.run refl)

is_safe : (g : flow.Stage) → stage_of g ≡ meta.Safe → g ≡ Safe
is_safe Safe is = refl
is_safe Nothing is = absurd (cc)
is_safe Fixed is = absurd (cc)
is_safe Ready is = absurd (cc)
is_safe Sent is = absurd (cc)

is_ready : (g : flow.Stage) → stage_of g ≡ meta.Ready → g ≡ Ready
is_ready Ready is = refl
is_ready Nothing is = absurd (cc)
is_ready Fixed is = absurd (cc)
is_ready Sent is = absurd (cc)
is_ready Safe is = absurd (cc)

is_nothing : (g : flow.Stage) → stage_of g ≡ meta.Nothing → g ≡ Nothing
is_nothing Nothing is = refl
is_nothing Fixed is = absurd (cc)
is_nothing Ready is = absurd (cc)
is_nothing Sent is = absurd (cc)
is_nothing Safe is = absurd (cc)

-- the same of the data, by what the parts say
pub safe_course : (o : Origin) → IsSound o.opening.machine o.parts → (es : List Event)
    → IsCourseOf o es → stage_in (replay o es) ≡ meta.Safe
    → (replay o es).machine.whole.flow.stage ≡ Safe
safe_course o sound es on is = is_safe (replay o es).machine.whole.flow.stage
    (one_stage o sound es on ∙ is)

pub ready_course : (o : Origin) → IsSound o.opening.machine o.parts → (es : List Event)
    → IsCourseOf o es → stage_in (replay o es) ≡ meta.Ready
    → (replay o es).machine.whole.flow.stage ≡ Ready
ready_course o sound es on is = is_ready (replay o es).machine.whole.flow.stage
    (one_stage o sound es on ∙ is)

pub nothing_course : (o : Origin) → IsSound o.opening.machine o.parts → (es : List Event)
    → IsCourseOf o es → stage_in (replay o es) ≡ meta.Nothing
    → (replay o es).machine.whole.flow.stage ≡ Nothing
nothing_course o sound es on is = is_nothing (replay o es).machine.whole.flow.stage
    (one_stage o sound es on ∙ is)
