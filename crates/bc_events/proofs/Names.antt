-- Each entry that names anybody names the seat that acted, so workers in the place of seats change
-- nothing.
use Rattle.std.proofs.Common.{◌≡◌, ℕ, List, [], ◌∷◌, Option, Some, None, refl, sym, subst, nat_lt}
use Rattle.bc_model.specs.declared.history.Entry.{Entry}
use Rattle.bc_data.specs.Data as flow
use Rattle.bc_data.specs.After as flow_step
use Rattle.bc_whole.specs.State as whole
use Rattle.bc_whole.specs.Run as whole_run
use Rattle.bc_known.specs.Acts.{Act}
use Rattle.bc_known.specs.Acts as known
use Rattle.bc_known.specs.Run as machine
use Rattle.bc_known.specs.Workers.{AllName}
use Rattle.bc_known.proofs.Workers as known_law
use Rattle.bc_events.specs.Acts.{acts_of}
use Rattle.bc_events.specs.Run.{Opening, State, IsSeat, seat_count, start, by, IsSome, CanDo, acts_or_none, after, IsRun, run}
use Rattle.bc_events.specs.Laws.{LawWorkers}
use Rattle.bc_events.specs.declared.event.Event.{Event}

abbrev AreSeats : List Entry → Type 0
AreSeats H = AllName IsSeat H

fault_named : (x : flow.Fault) (H : List Entry) → AreSeats H
    → AreSeats (flow_step.history_at_fault x H)
fault_named (flow.BackingFault (flow.Around line) first values) H h = (tt, h)
fault_named x H h = h

act_named : (i : ℕ) (H : List Entry) (act : flow.Act) → IsSeat i → AreSeats H
    → AreSeats (flow_step.history_after i H act)
act_named i H (flow.BackingWrite (flow.Around line) first values) p h = (p, h)
act_named i H (flow.BackingWrite flow.Copy first values) p h = h
act_named i H (flow.InsertWrite line leaf keys first values) p h = (p, h)
act_named i H (flow.Say (flow.Answer line first values)) p h = (p, h)
act_named i H (flow.Say (flow.BeginFlush line)) p h = (p, h)
act_named i H (flow.Say (flow.EndFlush line)) p h = (p, h)
act_named i H (flow.Say (flow.Acknowledge line first count)) p h = (p, h)
act_named i H (flow.Fail x) p h = fault_named x H h
act_named i H act p h = h

course_named : (w : flow.Opening) (st : flow.State) (i : ℕ) (acts : List flow.Act) → IsSeat i
    → AreSeats st.history → AreSeats (flow_step.course w st (whole_run.by i acts)).history
course_named w st i [] p h = h
course_named w st i (act ∷ acts) p h = course_named w (flow_step.after w st i act) i acts p
    (act_named i st.history act p h)

-- an act of the machine is some acts of the data
flow_is : (w : whole.Opening) (st : known.State) (i : ℕ) (act : Act)
    → (known.after w st i act).whole.flow
    ≡ flow_step.course w.flow st.whole.flow (whole_run.by i (machine.data_of w st i act))
flow_is w st i (known.Alone act) = refl
flow_is w st i (known.Keyed act slot keys) = refl
flow_is w st i (known.WriteCache x values) = refl
flow_is w st i (known.FailCache x values) = refl
flow_is w st i known.CacheBarrier = refl
flow_is w st i (known.Seal last_seq rest root chain) = refl
flow_is w st i known.MakeDurable = refl
flow_is w st i (known.BeginBucket b) = refl
flow_is w st i (known.Take p b) = refl
flow_is w st i (known.LetGo b room) = refl
flow_is w st i (known.ReadyChain room) = refl
flow_is w st i (known.BeginChange low high gone come old new unused) = refl
flow_is w st i (known.Install unused steps) = refl
flow_is w st i known.ForgetDrafts = refl

acts_named : (w : whole.Opening) (st : known.State) (i : ℕ) (acts : List Act) → IsSeat i
    → AreSeats st.whole.flow.history
    → AreSeats (machine.run w st (by i acts)).whole.flow.history
acts_named w st i [] p h = h
acts_named w st i (act ∷ acts) p h = acts_named w (known.after w st i act) i acts p
    (subst (λ (f : flow.State). AreSeats f.history) (sym (flow_is w st i act))
    (course_named w.flow st.whole.flow i (machine.data_of w st i act) p h))

seat_is : (w : Opening) (st : State) (e : Event) (o : Option (List Act)) → IsSome o (CanDo w st e)
    → IsSeat e.seat
seat_is w st e None on = absurd on
seat_is w st e (Some acts) on = on.seat

all_named : (w : Opening) (st : State) (es : List Event) → AreSeats st.machine.whole.flow.history
    → IsRun w st es → AreSeats (run w st es).machine.whole.flow.history
all_named w st [] h on = h
all_named w st (e ∷ es) h on = let o = acts_of w.machine st.machine e.seat e.deed in
    all_named w (after w st e) es (acts_named w.machine st.machine e.seat (acts_or_none o)
    (seat_is w st e o on.0) h) on.1

pub law_workers : LawWorkers
law_workers w x n es opening apart on = known_law.law_workers (λ i. nat_lt i seat_count) w.worker
    opening (run w (start w x n) es).machine.whole.flow.history apart
    (all_named w (start w x n) es tt on)
