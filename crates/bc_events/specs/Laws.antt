-- What holds of every run. With a cache it is opened from a sound pair; a plain run uses the backing
-- device alone, and needs no more than that nothing is cached.
use Rattle.std.specs.Prelude.{◌≡◌, ℕ, true, false, List, [], ◌∷◌, ◌++◌, Some}
use Rattle.bc_model.specs.Sector.{Value, Image}
use Rattle.bc_model.specs.History.{now, IsLegal, Allowed}
use Rattle.bc_disk.specs.Device.{MayLeave, quiet}
use Rattle.bc_books.specs.Enabled.{CanRaise}
use Rattle.bc_data.specs.Laws.{IsPair}
use Rattle.bc_meta.specs.Tree.{NodeSet}
use Rattle.bc_meta.specs.Layout.{set_len}
use Rattle.bc_meta.specs.Places.{IsFirstWrite, NoChance}
use Rattle.bc_leaves.specs.Parts.{leaf_owner, inner_owner}
use Rattle.bc_leaves.specs.Parts as parts
use Rattle.bc_leaves_runs.specs.Reopen.{AllReplay}
use Rattle.bc_whole.specs.Laws.{Reads, IsUnneeded}
use Rattle.bc_whole.specs.State.{OfLeaf, OfInner}
use Rattle.bc_whole.specs.State as whole
use Rattle.bc_known.specs.Acts as known
use Rattle.bc_known.specs.Run as machine
use Rattle.bc_known.specs.Laws.{IsSound, OpensAgain}
use Rattle.bc_known.specs.Workers.{AreToldApart, SaysTheSame}
use Rattle.bc_events.specs.Run.{Opening, State, IsSeat, start, history_of, IsRun, run, machine_events}
use Rattle.bc_events.specs.Writes.{draft_leaf, draft_inner, write_of}
use Rattle.bc_events.specs.declared.event.Deed.TheVariants.{BackingBarrier}
use Rattle.bc_events.specs.declared.event.Event.{Event}
use Rattle.bc_events.specs.declared.event.NewNode.{NewNode}
use Rattle.bc_events.specs.declared.event.Written.TheVariants.{Leaf, Inner}

-- its acts are a run of the machine
pub record IsMachines (w : Opening) (first : State) (es : List Event) : Type 0 where
  pub course : machine.IsRun w.machine first.machine (machine_events w first es)
  pub last : (run w first es).machine
      ≡ machine.run w.machine first.machine (machine_events w first es)

abbrev pub LawMachine : Type 0
LawMachine = (w : Opening) (first : State) (es : List Event) → IsRun w first es
    → IsMachines w first es

-- values that begin a node with a set are a write of that set
abbrev pub LawFirstWrite : Type 0
LawFirstWrite = (w : whole.Opening) (st : known.State) (x : NewNode) (at : ℕ) (set : NodeSet)
    (values : List Value) → x.sectors ≡ set_len w.layout set
    → (IsFirstWrite w.layout (leaf_owner (draft_leaf x)) set values
    → write_of w st (Leaf x) at values ≡ Some (OfLeaf x.slot (draft_leaf x) set))
    × (IsFirstWrite w.layout (inner_owner (draft_inner x)) set values
    → write_of w st (Inner x) at values ≡ Some (OfInner x.slot (draft_inner x) set))

-- ---- with a cache

-- at the end of every run, and so at every state of one
abbrev pub Always : (Opening → State → Type 0) → Type 0
Always P = (w : Opening) (x : parts.State) (next_seq : ℕ) (es : List Event) → IsSound w.machine x
    → IsRun w (start w x next_seq) es → P w (run w (start w x next_seq) es)

-- the premise: no torn record of the cache device matches by chance
abbrev pub IsTornApart : Opening → State → Type 0
IsTornApart w st =
    NoChance w.machine.layout w.machine.store.image st.machine.whole.store.places

-- a crash may leave these of both devices
abbrev pub MayBeLeft : State → (c b : Image) → Type 0
MayBeLeft st c b = MayLeave st.machine.whole.flow.cache c × MayLeave st.machine.whole.flow.backing b

abbrev pub LawNow : Type 0
LawNow = Always (λ w st. IsLegal w.machine.flow.image (history_of w st))

abbrev pub LawCrash : Type 0
LawCrash = Always (λ w st. IsTornApart w st → (c b : Image) → MayBeLeft st c b
    → Reads w.machine st.machine.whole c b)

abbrev pub LawRaise : Type 0
LawRaise = Always (λ w st. (q : ℕ) → CanRaise w.machine.flow.books st.machine.whole.flow.books q
    → IsUnneeded w.machine st.machine.whole q)

abbrev pub LawNext : Type 0
LawNext = Always (λ w st. IsTornApart w st → (c b : Image) → MayBeLeft st c b
    → (r : Reads w.machine st.machine.whole c b) × ((leaf : ℕ → ℕ) (pending : ℕ → List parts.Pending)
    → AllReplay st.machine.whole.parts r.newest r.older pending → OpensAgain w.machine st.machine c b))

-- ---- whose history it is

-- no two seats are of one worker
abbrev pub HaveWorkers : Opening → Type 0
HaveWorkers w = AreToldApart IsSeat w.worker

-- The history by workers says what the one by seats says, in which the laws on crashes speak.
abbrev pub LawWorkers : Type 0
LawWorkers = (w : Opening) (x : parts.State) (next_seq : ℕ) (es : List Event) (opening : Image)
    → HaveWorkers w → IsRun w (start w x next_seq) es
    → SaysTheSame w.worker opening (run w (start w x next_seq) es).machine.whole.flow.history

-- ---- plain runs

abbrev pub AlwaysPlain : (Opening → State → Type 0) → Type 0
AlwaysPlain P = (w : Opening) (x : parts.State) (next_seq : ℕ) (es : List Event)
    → w.machine.flow.plain ≡ true → IsPair w.machine.flow → IsRun w (start w x next_seq) es
    → P w (run w (start w x next_seq) es)

-- each answer's values are those of the last writes before it
abbrev pub LawPlainNow : Type 0
LawPlainNow = AlwaysPlain (λ w st. IsLegal w.machine.flow.image (history_of w st))

-- whatever a crash leaves of the backing device is allowed, sector by sector
abbrev pub LawPlainCrash : Type 0
LawPlainCrash = AlwaysPlain (λ w st. (b : Image) → MayLeave st.machine.whole.flow.backing b → (s : ℕ)
    → Allowed w.machine.flow.image st.machine.whole.flow.history s (b s))

-- Behind a good barrier, of whatever seat, each sector is its last write, whatever a crash leaves,
-- where nothing halted the run: after a write that failed a sector may read as one of two values.
abbrev pub LawPlainStable : Type 0
LawPlainStable = (w : Opening) (x : parts.State) (next_seq : ℕ) (es : List Event) (i : ℕ)
    → w.machine.flow.plain ≡ true → IsPair w.machine.flow
    → let all = es ++ record { seat = i; deed = BackingBarrier } ∷ [] in
    IsRun w (start w x next_seq) all
    → let st = run w (start w x next_seq) all in st.machine.whole.flow.halted ≡ false
    → (b : Image) → MayLeave st.machine.whole.flow.backing b
    → (s : ℕ) → b s ≡ now w.machine.flow.image (history_of w st) s

-- and the cache device is as it was
abbrev pub LawPlainCache : Type 0
LawPlainCache = AlwaysPlain (λ w st. st.machine.whole.flow.cache ≡ quiet w.machine.flow.cache)
