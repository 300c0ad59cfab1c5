-- What the leaves of one part still need of the journal. It is said from each opening of the core
-- from which the run so far is one.
use Rattle.std.specs.Prelude.{◌≡◌, ◌≢◌, ℕ, suc, ◌%◌, ◌≤◌}
use Rattle.bc_events.specs.Run.{State}
use Rattle.bc_leaves.specs.Parts.{AllFrom, NoNode}
use Rattle.bc_append.specs.bc_machine.World.{Origin}

-- Of so many parts, no leaf of this one waits for a key of an older entry.
abbrev pub PartNeedsNone : (count part low : ℕ) → State → Type 0
PartNeedsNone count part low st = (k : ℕ) → k % count ≡ part
    → (st.machine.whole.parts.leaves k).role ≢ NoNode
    → AllFrom low (st.machine.whole.parts.leaves k).pending

-- The next entry isn't below this one: so each key that is still to come is of it or of a later one.
abbrev pub IsToCome : ℕ → Origin → State → Type 0
IsToCome low o st = low ≤ suc st.machine.whole.parts.records.newest.number

pub record PartNeedsFrom (count part low : ℕ) (o : Origin) (st : State) : Type 0 where
  pub needs : PartNeedsNone count part low st
  pub next : IsToCome low o st
