-- What goes wrong where a condition is left out: a run, and a step for which all else holds, which
-- the records refuse, since some of what a crash may leave then reads wrongly.
use Rattle.std.specs.Prelude.{◌≡◌, ◌≢◌, ◌⊎◌, ℕ, suc, ◌≤◌, Bool, true, false, List, []}
use Rattle.bc_meta.specs.Facts.{In}
use Rattle.bc_meta.specs.Tree.{Child, NodeSet}
use Rattle.bc_meta.specs.Records.{Nothing}
use Rattle.bc_leaves.specs.Keys.{SaysSame}
use Rattle.bc_leaves.specs.Parts.{Draft, Free, Leaving, BySet, ByRoot, Lost, State, keys_of, node_of, Stays}
use Rattle.bc_leaves.specs.Events.{Event, Seal, WriteSet, SetParent, Install, events_of}
use Rattle.bc_leaves.specs.After.{fold}
use Rattle.bc_leaves.specs.Enabled.{IsRun}
use Rattle.bc_leaves.specs.Laws.{IsRecordsRun}
use Rattle.bc_leaves_runs.specs.Example.{IsStart}

pub record IsRefused (start : State) (es : List Event) (step : Event) (Rest : State
    → Type 0) : Type 0 where
  pub opening : IsStart start
  pub run : IsRun start es
  pub rest : Rest (fold start es)
  pub refused : IsRecordsRun (fold start es).records (events_of (fold start es) step) → ⊥

-- a key since a leaf's last set is of an entry before this last_seq
abbrev pub LawTeethSeal : Type 0
LawTeethSeal =
    (start : State) × (es : List Event) × ((last_seq : ℕ)
    × IsRefused start es (Seal last_seq 0 []) (λ st. (st.records.stage ≡ Nothing)
    × (st.records.newest.last_seq ≤ last_seq)
    × (last_seq ≤ suc st.records.newest.number)))

-- a pending key that a leaf's further set has isn't durable
abbrev pub LawTeethDurable : Type 0
LawTeethDurable =
    (start : State) × (es : List Event) × (i : ℕ) × ((set : NodeSet)
    × IsRefused start es (WriteSet i set []) (λ st. ((st.leaves i).role ≡ Free)
    × ((st.leaves i).loaded ≡ false)
    × ((st.leaves i).pending ≢ []) × SaysSame set.keys (keys_of (st.leaves i).pending)
    × ((node_of st i).failed ≡ false)))

-- a parent's set names a new leaf whose first set isn't stable
abbrev pub LawTeethStable : Type 0
LawTeethStable =
    (start : State) × (es : List Event) × (q : ℕ) × (j : ℕ) × (child : Child) × ((set : NodeSet)
    × IsRefused start es (SetParent q set []) (λ st. Stays (st.inner_nodes q).role
    × ((st.inner_nodes q).loaded ≡ false)
    × ((st.leaves j).role ≡ Draft) × (child.bucket ≡ (st.leaves j).bucket) × In child set.children
    × ((node_of st j).sent ≡ true)))

abbrev pub GivesUp : State → (ℕ → Bool) → Type 0
GivesUp st unused = (q : ℕ) → unused q ≡ true → (st.records.unused q ≡ true)
    ⊎ ((i : ℕ) × ((st.leaves i).role ≡ Leaving) × ((st.leaves i).bucket ≡ q))
    ⊎ ((x : ℕ) × ((st.inner_nodes x).role ≡ Leaving) × ((st.inner_nodes x).bucket ≡ q))

-- an install before the parent's set is stable
abbrev pub LawTeethInstall : Type 0
LawTeethInstall =
    (start : State) × (es : List Event) × (q : ℕ) × ((unused : ℕ → Bool)
    × IsRefused start es (Install unused) (λ st. (st.change ≡ BySet q) × GivesUp st unused))

-- and one after that set's write failed, whatever barrier was made since
abbrev pub LawTeethLost : Type 0
LawTeethLost =
    (start : State) × (es : List Event) × ((unused : ℕ → Bool)
    × IsRefused start es (Install unused) (λ st. (st.change ≡ Lost) × GivesUp st unused))

-- an install before the entry of the new root is durable
abbrev pub LawTeethRoot : Type 0
LawTeethRoot =
    (start : State) × (es : List Event) × (number : ℕ) × ((unused : ℕ → Bool)
    × IsRefused start es (Install unused) (λ st. (st.change ≡ ByRoot number) × GivesUp st unused))
