-- A sound pair meets the invariant, and each act keeps it, together with that on answers.
use Rattle.std.specs.Prelude.{ℕ}
use Rattle.bc_data.specs.Data.{Opening, State, Act, start}
use Rattle.bc_data.specs.Enabled.{IsEnabled}
use Rattle.bc_data.specs.After.{after}
use Rattle.bc_data.specs.Invariant.{IsTruthful}
use Rattle.bc_data.specs.Laws.{IsPair}
use Rattle.bc_crash.specs.Tables.{Tables, tables_after, no_tables}
use Rattle.bc_crash.specs.Invariant.{IsHarmless}

abbrev pub LawOpened : Type 0
LawOpened = (w : Opening) → IsPair w → IsHarmless w (start w) no_tables

abbrev pub LawKept : Type 0
LawKept = (w : Opening) (st : State) (x : Tables) (i : ℕ) (act : Act) → IsTruthful w st
    → IsHarmless w st x → IsEnabled w st i act
    → IsHarmless w (after w st i act) (tables_after st x act)
