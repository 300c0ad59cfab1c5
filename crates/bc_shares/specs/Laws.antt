-- A deed leaves alone the share of each part that it doesn't change.
use Rattle.std.specs.Prelude.{◌≡◌, ◌≢◌, ℕ, Bool, false, List}
use Rattle.bc_leaves.specs.Parts.{NoNode}
use Rattle.bc_leaves.specs.Parts as parts
use Rattle.bc_known.specs.Laws.{IsSound}
use Rattle.bc_events.specs.Run.{Opening, State, start, IsEnabled, IsRun, after, run}
use Rattle.bc_events.specs.declared.event.Deed.{Deed}
use Rattle.bc_events.specs.declared.event.Event.{Event}
use Rattle.bc_shares.specs.Shares.{journal_share, SameBuckets, books_of, leaf_share, SameSpine}
use Rattle.bc_shares.specs.Touched.{touches_journal, touches_buckets, touches_leaf, NamesItsChange, touches_spine}

-- where an event is none of these, the states before and after it are alike
abbrev pub Frames : (Deed → Bool) → (State → State → Type 0) → Type 0
Frames touches Alike = (w : Opening) (st : State) (e : Event) → IsEnabled w st e
    → touches e.deed ≡ false → Alike st (after w st e)

abbrev pub LawJournal : Type 0
LawJournal = Frames touches_journal
    (λ a b. journal_share b.machine ≡ journal_share a.machine)

abbrev pub LawBuckets : Type 0
LawBuckets = Frames touches_buckets
    (λ a b. SameBuckets (books_of a.machine) (books_of b.machine))

-- An event in a state of a run from a sound opening.
pub record Happens (w : Opening) (x : parts.State) (next_seq : ℕ) (es : List Event)
    (e : Event) : Type 0 where
  pub sound : IsSound w.machine x
  pub course : IsRun w (start w x next_seq) es
  pub enabled : IsEnabled w (run w (start w x next_seq) es) e

abbrev pub LawSpine : Type 0
LawSpine = (w : Opening) (x : parts.State) (next_seq : ℕ) (es : List Event) (e : Event)
    → Happens w x next_seq es e → touches_spine e.deed ≡ false
    → let st = run w (start w x next_seq) es in
    SameSpine st.machine (after w st e).machine

-- A slot has the same leaf, or none, as before.
abbrev pub LawSlot : Type 0
LawSlot = (w : Opening) (st : State) (e : Event) → IsEnabled w st e → (k : ℕ)
    → touches_leaf k e.deed ≡ false → NamesItsChange st.machine.whole.parts e.deed
    → (after w st e).machine.whole.parts.leaves k ≡ st.machine.whole.parts.leaves k

-- of a slot that has a leaf
abbrev pub LawLeaf : Type 0
LawLeaf = (w : Opening) (x : parts.State) (next_seq : ℕ) (es : List Event) (e : Event)
    → Happens w x next_seq es e → (k : ℕ) → touches_leaf k e.deed ≡ false
    → let st = run w (start w x next_seq) es in
    NamesItsChange st.machine.whole.parts e.deed
    → (st.machine.whole.parts.leaves k).role ≢ NoNode
    → leaf_share (after w st e).machine.whole.parts k ≡ leaf_share st.machine.whole.parts k
