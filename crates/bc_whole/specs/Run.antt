-- When an act may be done, what it leaves, and runs.
use Rattle.std.specs.Prelude.{ℕ, List, [], ◌∷◌}
use Rattle.bc_data.specs.Data as flow
use Rattle.bc_data.specs.After.{IsCourse, course}
use Rattle.bc_meta.specs.Laws as meta
use Rattle.bc_meta.specs.Acts.{fold}
use Rattle.bc_leaves.specs.Parts as parts
use Rattle.bc_leaves.specs.Events as parts_event
use Rattle.bc_leaves.specs.After as parts_step
use Rattle.bc_leaves.specs.Laws.{IsJoint, acts_of, parts_of}
use Rattle.bc_whole.specs.State.{Opening, State, Act, ForgetDrafts, Event}
use Rattle.bc_whole.specs.Together.{GoTogether, data_of, steps_of}

-- one seat's acts
abbrev pub by : ℕ → List flow.Act → List flow.Event
by seat [] = []
by seat (act ∷ acts) = record { seat = seat; act = act } ∷ by seat acts

-- each machine allows what the act is to it
pub record IsEnabled (w : Opening) (st : State) (seat : ℕ) (act : Act) : Type 0 where
  pub together : GoTogether st seat act
  pub flow : IsCourse w.flow st.flow (by seat (data_of w st seat act))
  pub store : IsJoint w.layout st.store st.parts (steps_of w.layout st seat act)

-- drafts are given up by the parts alone
abbrev pub parts_after : Opening → State → ℕ → Act → parts.State
parts_after w st seat ForgetDrafts = parts_step.after st.parts parts_event.ForgetDrafts
parts_after w st seat act = parts_of st.parts (steps_of w.layout st seat act)

abbrev pub after : Opening → State → ℕ → Act → State
after w st seat act = record {
  flow = course w.flow st.flow (by seat (data_of w st seat act));
  store = fold w.layout st.store (acts_of (steps_of w.layout st seat act));
  parts = parts_after w st seat act;
}

abbrev pub IsRun : Opening → State → List Event → Type 0
IsRun w st [] = Unit {0}
IsRun w st (e ∷ es) = IsEnabled w st e.seat e.act × IsRun w (after w st e.seat e.act) es

abbrev pub run : Opening → State → List Event → State
run w st [] = st
run w st (e ∷ es) = run w (after w st e.seat e.act) es

-- the opening's state, with the parts that were made of it
abbrev pub start : Opening → parts.State → State
start w x = record { flow = flow.start w.flow; store = meta.opened w.layout w.store; parts = x }
