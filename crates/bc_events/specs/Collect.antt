-- Collection is complete, over runs of events.
use Rattle.std.specs.Prelude.{ℕ, List, [], ◌∷◌, ◌++◌}
use Rattle.bc_books.specs.Enabled.{CanRaise}
use Rattle.bc_collect.specs.Collect.{AllQuiet, IsCollected, CouldBeHad}
use Rattle.bc_leaves.specs.Parts as parts
use Rattle.bc_known.specs.Laws.{IsSound}
use Rattle.bc_known.specs.Collect.{all_steps}
use Rattle.bc_events.specs.Run.{Opening, State, start, IsRun, run, machine_events}
use Rattle.bc_events.specs.declared.event.MarkForm.TheVariants as mark
use Rattle.bc_events.specs.declared.event.Deed.TheVariants.{Mark}
use Rattle.bc_events.specs.declared.event.Event.{Event}

abbrev pub begins : ℕ → Event
begins seat = record { seat = seat; deed = Mark mark.Begin }

abbrev pub ends : ℕ → Event
ends seat = record { seat = seat; deed = Mark mark.End }

-- a round by a seat, and what comes before and behind it
abbrev pub with_round : (seat : ℕ) → (before inside later : List Event) → List Event
with_round seat before inside later =
    before ++ (begins seat ∷ (inside ++ (ends seat ∷ later)))

-- none of these events disturbs a round
abbrev pub AreQuiet : Opening → State → List Event → Type 0
AreQuiet w st es = AllQuiet (all_steps w.machine st.machine (machine_events w st es))

-- After a round that nobody disturbed, and while nothing else happens, a bucket is reclaimable
-- where no use forbids it, and nowhere else.
abbrev pub LawCollect : Type 0
LawCollect = (w : Opening) (x : parts.State) (n seat : ℕ) (before inside later : List Event)
    → IsSound w.machine x → IsRun w (start w x n) (with_round seat before inside later)
    → AreQuiet w (run w (start w x n) (before ++ (begins seat ∷ []))) inside
    → AreQuiet w (run w (start w x n) (before ++ (begins seat ∷ (inside ++ (ends seat ∷ []))))) later
    → IsCollected w.machine.flow.books
    (run w (start w x n) (with_round seat before inside later)).machine.whole.flow.books

-- Whatever others do meanwhile, a bucket that could be had all the time of a round, and that nobody
-- touched, may be raised at its end.
abbrev pub LawHad : Type 0
LawHad = (w : Opening) (x : parts.State) (n seat : ℕ) (before inside : List Event) (b : ℕ)
    → IsSound w.machine x → IsRun w (start w x n) (with_round seat before inside [])
    → (let st = run w (start w x n) (before ++ (begins seat ∷ [])) in
    CouldBeHad w.machine.flow.books (run w (start w x n) before).machine.whole.flow.books
    (all_steps w.machine st.machine (machine_events w st inside)) b)
    → CanRaise w.machine.flow.books
    (run w (start w x n) (with_round seat before inside [])).machine.whole.flow.books b
