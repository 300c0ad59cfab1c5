-- What holds of every run from a sound pair.
use Rattle.std.specs.Prelude.{◌≡◌, ◌≢◌, ℕ, true, List, Some}
use Rattle.bc_model.specs.Sector.{Image}
use Rattle.bc_model.specs.History.{IsLegal, Allowed}
use Rattle.bc_disk.specs.Device.{MayLeave}
use Rattle.bc_books.specs.Shelves.{Priorities}
use Rattle.bc_books.specs.Enabled.{CanRaise}
use Rattle.bc_meta.specs.Facts.{In}
use Rattle.bc_meta.specs.Places.{NoChance}
use Rattle.bc_leaves.specs.Parts.{NoNode}
use Rattle.bc_leaves.specs.Parts as parts
use Rattle.bc_leaves_runs.specs.Reopen.{AllReplay}
use Rattle.bc_whole.specs.State.{Opening}
use Rattle.bc_whole.specs.State as whole
use Rattle.bc_whole.specs.Run as whole_run
use Rattle.bc_whole.specs.Laws.{Reads, IsUnneeded}
use Rattle.bc_whole.specs.Laws as whole_law
use Rattle.bc_known.specs.Acts.{State, Event}
use Rattle.bc_known.specs.Run.{IsRun, run, start}
use Rattle.bc_known.specs.Known.{AreLaid}

pub record IsSound (w : Opening) (x : parts.State) : Type 0 where
  pub whole : whole_law.IsSound w x
  pub laid : AreLaid w
  -- what is kept for chains is on the list priorities
  pub spare : (q : ℕ) → In q w.store.spare → w.flow.books.listed q ≡ Some Priorities
  pub leaves : (k : ℕ) → (x.leaves k).role ≢ NoNode
      → w.flow.books.node (x.leaves k).bucket ≡ true
  pub inner_nodes : (k : ℕ) → (x.inner_nodes k).role ≢ NoNode
      → w.flow.books.node (x.inner_nodes k).bucket ≡ true

abbrev pub Always : (Opening → State → Type 0) → Type 0
Always P = (w : Opening) (x : parts.State) (next_seq : ℕ) (es : List Event) → IsSound w x
    → IsRun w (start w x next_seq) es → P w (run w (start w x next_seq) es)

-- it is a run of the whole machine
pub record IsWhole (w : Opening) (x : parts.State) (st : State) : Type 0 where
  pub events : List whole.Event
  pub run : whole_run.IsRun w (whole_run.start w x) events
  pub is : st.whole ≡ whole_run.run w (whole_run.start w x) events

abbrev pub LawWhole : Type 0
LawWhole = (w : Opening) (x : parts.State) (next_seq : ℕ) (es : List Event) → IsSound w x
    → IsRun w (start w x next_seq) es → IsWhole w x (run w (start w x next_seq) es)

abbrev pub LawNow : Type 0
LawNow = Always (λ w st. IsLegal w.flow.image st.whole.flow.history)

abbrev pub LawCrash : Type 0
LawCrash = Always (λ w st. NoChance w.layout w.store.image st.whole.store.places → (c b : Image)
    → MayLeave st.whole.flow.cache c → MayLeave st.whole.flow.backing b → Reads w st.whole c b)

abbrev pub LawRaise : Type 0
LawRaise = Always (λ w st. (q : ℕ) → CanRaise w.flow.books st.whole.flow.books q
    → IsUnneeded w st.whole q)

-- The pair opened again, sound as before, whatever its leaves are numbered, however the keys of its
-- entries are cut, and wherever its seqs go on; and what it shows is allowed to the run before it.
pub record OpensAgain (w : Opening) (st : State) (c b : Image) : Type 0 where
  pub next : Opening
  pub parts : parts.State
  pub sound : IsSound next parts
  pub cache : next.flow.cache ≡ c
  pub backing : next.flow.backing ≡ b
  pub allowed : (s : ℕ) → Allowed w.flow.image st.whole.flow.history s (next.flow.image s)

-- so runs compose
abbrev pub LawNext : Type 0
LawNext = Always (λ w st. NoChance w.layout w.store.image st.whole.store.places → (c b : Image)
    → MayLeave st.whole.flow.cache c → MayLeave st.whole.flow.backing b
    → (r : Reads w st.whole c b) × ((leaf : ℕ → ℕ) (pending : ℕ → List parts.Pending)
    → AllReplay st.whole.parts r.newest r.older pending → OpensAgain w st c b))
