-- When an act may be done, and runs.
use Rattle.std.specs.Prelude.{ℕ, List, [], ◌∷◌}
use Rattle.bc_books.specs.Books.{Step}
use Rattle.bc_books.specs.Books as book
use Rattle.bc_data.specs.Data as flow
use Rattle.bc_data.specs.After.{IsCourse}
use Rattle.bc_leaves.specs.Parts as parts
use Rattle.bc_whole.specs.State.{Opening}
use Rattle.bc_whole.specs.Together.{payload_of, place_of, step_of_seal, shelved}
use Rattle.bc_whole.specs.Run.{by}
use Rattle.bc_whole.specs.Run as whole_run
use Rattle.bc_known.specs.Acts.{State, Act, Alone, Keyed, WriteCache, FailCache, CacheBarrier, Seal, MakeDurable, Take, LetGo, ReadyChain, Install, Event, after}
use Rattle.bc_known.specs.Asked.{Asks}

-- what it is to the data
abbrev pub data_of : Opening → State → ℕ → Act → List flow.Act
data_of w st seat (Alone act) = act ∷ []
data_of w st seat (Keyed act slot keys) = act ∷ []
data_of w st seat (WriteCache x values) =
    flow.CacheWrite (payload_of x) (place_of w.layout st.whole x) values ∷ []
data_of w st seat (FailCache x values) =
    flow.Fail (flow.CacheFault (payload_of x) (place_of w.layout st.whole x) values) ∷ []
data_of w st seat CacheBarrier = flow.CacheBarrier ∷ []
data_of w st seat (Seal last_seq rest root chain) = flow.Shelve (step_of_seal w.before seat chain) ∷ []
data_of w st seat MakeDurable = flow.Shelve book.Sealed ∷ []
data_of w st seat (Take p b) = flow.Shelve (book.Take seat p b) ∷ []
data_of w st seat (LetGo b room) = flow.Shelve (book.LetGo seat b room) ∷ []
data_of w st seat (ReadyChain room) = flow.Shelve (book.ReadyChain room) ∷ []
data_of w st seat (Install unused steps) = shelved steps
data_of w st seat act = []

pub record IsEnabled (w : Opening) (st : State) (seat : ℕ) (act : Act) : Type 0 where
  pub data_allows : IsCourse w.flow st.whole.flow (by seat (data_of w st seat act))
  pub asks : Asks w st seat act

abbrev pub IsRun : Opening → State → List Event → Type 0
IsRun w st [] = Unit {0}
IsRun w st (e ∷ es) = IsEnabled w st e.seat e.act × IsRun w (after w st e.seat e.act) es

abbrev pub run : Opening → State → List Event → State
run w st [] = st
run w st (e ∷ es) = run w (after w st e.seat e.act) es

abbrev pub start : Opening → parts.State → ℕ → State
start w x next_seq = record { whole = whole_run.start w x; next_seq = next_seq }
