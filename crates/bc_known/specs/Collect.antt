-- Collection is complete, over runs of what seats know.
use Rattle.std.specs.Prelude.{ℕ, List, [], ◌∷◌, ◌++◌}
use Rattle.bc_books.specs.Books.{Step, Begin, End}
use Rattle.bc_books.specs.Enabled.{CanRaise}
use Rattle.bc_collect.specs.Collect.{AllQuiet, IsCollected, CouldBeHad}
use Rattle.bc_data.specs.Data as flow
use Rattle.bc_data.specs.Enabled.{steps_of}
use Rattle.bc_data.specs.After as flow_step
use Rattle.bc_leaves.specs.Parts as parts
use Rattle.bc_whole.specs.State.{Opening}
use Rattle.bc_whole.specs.Run.{by}
use Rattle.bc_known.specs.Acts.{State, Alone, Event, after}
use Rattle.bc_known.specs.Run.{data_of, IsRun, run, start}
use Rattle.bc_known.specs.Laws.{IsSound}

-- the steps of the books that events of the data are
abbrev pub flow_steps : flow.Opening → flow.State → List flow.Event → List Step
flow_steps w f [] = []
flow_steps w f (e ∷ es) = steps_of f.candidates e.seat e.act
    ++ flow_steps w (flow_step.after w f e.seat e.act) es

-- and those that a run's events are
abbrev pub all_steps : Opening → State → List Event → List Step
all_steps w st [] = []
all_steps w st (e ∷ es) =
    flow_steps w.flow st.whole.flow (by e.seat (data_of w st e.seat e.act))
    ++ all_steps w (after w st e.seat e.act) es

abbrev pub begins : ℕ → Event
begins seat = record { seat = seat; act = Alone (flow.Shelve Begin) }

abbrev pub ends : ℕ → Event
ends seat = record { seat = seat; act = Alone (flow.Shelve End) }

-- a round by a seat, and what comes before and behind it
abbrev pub with_round : (seat : ℕ) → (before inside later : List Event) → List Event
with_round seat before inside later =
    before ++ (begins seat ∷ (inside ++ (ends seat ∷ later)))

-- After a round that nobody disturbed, and while nothing else happens, a bucket is reclaimable
-- where no use forbids it, and nowhere else.
abbrev pub LawCollect : Type 0
LawCollect = (w : Opening) (x : parts.State) (next_seq seat : ℕ)
    (before inside later : List Event) → IsSound w x
    → (let es = with_round seat before inside later in IsRun w (start w x next_seq) es)
    → AllQuiet (all_steps w (run w (start w x next_seq) (before ++ (begins seat ∷ []))) inside)
    → AllQuiet (all_steps w (run w (start w x next_seq)
    (before ++ (begins seat ∷ (inside ++ (ends seat ∷ []))))) later)
    → (let es = with_round seat before inside later in
    IsCollected w.flow.books (run w (start w x next_seq) es).whole.flow.books)

-- Whatever others do meanwhile, a bucket that could be had all the time of a round, and that nobody
-- touched, may be raised at its end.
abbrev pub LawHad : Type 0
LawHad = (w : Opening) (x : parts.State) (next_seq seat : ℕ) (before inside : List Event) (b : ℕ)
    → IsSound w x → IsRun w (start w x next_seq) (with_round seat before inside [])
    → CouldBeHad w.flow.books (run w (start w x next_seq) before).whole.flow.books
    (all_steps w (run w (start w x next_seq) (before ++ (begins seat ∷ []))) inside) b
    → CanRaise w.flow.books
    (run w (start w x next_seq) (with_round seat before inside [])).whole.flow.books b
