-- What the leaves of the tree still need of the journal.
use Rattle.std.specs.Prelude.{◌≢◌, ℕ, suc, ◌≤◌, List}
use Rattle.bc_events.specs.Run.{Opening, State, after, run, start}
use Rattle.bc_events.specs.declared.event.Event.{Event}
use Rattle.bc_leaves.specs.Parts.{AllFrom, NoNode}
use Rattle.bc_leaves.specs.Parts as parts
use Rattle.bc_shares.specs.Laws.{Frames, Happens}
use Rattle.bc_shares.specs.Touched.{touches_journal}

-- no leaf waits for a key of an older entry
abbrev pub NeedsNone : ℕ → State → Type 0
NeedsNone low st = (k : ℕ) → (st.machine.whole.parts.leaves k).role ≢ NoNode
    → AllFrom low (st.machine.whole.parts.leaves k).pending

-- No leaf waits for a key of an entry below this one, and the next entry isn't below it.
pub record NeedsFrom (low : ℕ) (st : State) : Type 0 where
  pub needs : NeedsNone low st
  pub next : low ≤ suc st.machine.whole.parts.records.newest.number

-- It never will, whatever happens: a key that comes in is of an entry to come. So it is known for
-- good once it is known, with the journal in hand or without.
abbrev pub LawLasts : Type 0
LawLasts = (w : Opening) (x : parts.State) (next_seq : ℕ) (es : List Event) (e : Event)
    → Happens w x next_seq es e → (low : ℕ)
    → let st = run w (start w x next_seq) es in
    NeedsFrom low st → NeedsFrom low (after w st e)

-- in a state of a run or not
abbrev pub LawUntouched : Type 0
LawUntouched = Frames touches_journal (λ a b. (low : ℕ) → NeedsNone low a → NeedsNone low b)
