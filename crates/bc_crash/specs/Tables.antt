-- Of each sector, when the history had so many entries: how many insertions an index must hold to
-- show what was written by then, and whether the backing device is as firm as a flush at that point
-- wants it. No act asks for these tables; they say why a crash is harmless.
use Rattle.std.specs.Prelude.{ℕ, suc, Bool, true, false, List, [], ◌∷◌, length, if◌then◌else◌}
use Rattle.bc_model.specs.Sector.{Value, at_run}
use Rattle.bc_model.specs.declared.history.Entry.{Entry}
use Rattle.bc_books.specs.Index.{from_on}
use Rattle.bc_data.specs.Seats.{unless_run}
use Rattle.bc_data.specs.Data.{Opening, State, Around, Fault, BackingFault, Act, BackingWrite, BackingBarrier, InsertWrite, Fail, Event}
use Rattle.bc_data.specs.After.{after}

pub record Tables : Type 0 where
  pub need : ℕ → ℕ → ℕ
  pub safe : ℕ → ℕ → Bool

-- what a write of the history makes of a table by sector and number of entries
abbrev pub on_write : {A : Type 0} → List Entry → (ℕ → ℕ → A) → ℕ → List Value → A → ℕ → ℕ → A
on_write H old first values x s =
    unless_run (at_run first values s) (old s) (from_on (suc (length H)) (old s) x)

abbrev pub need_after : List Entry → (count : ℕ) → (ℕ → ℕ → ℕ) → Act → ℕ → ℕ → ℕ
need_after H count old (InsertWrite line leaf keys first values) =
    on_write H old first values (suc count)
need_after H count old act = old

abbrev pub safe_at_fault : List Entry → (ℕ → ℕ → Bool) → Fault → ℕ → ℕ → Bool
safe_at_fault H old (BackingFault (Around line) first values) = on_write H old first values false
safe_at_fault H old fault = old

abbrev pub safe_after : List Entry → (halted : Bool) → (ℕ → ℕ → Bool) → Act → ℕ → ℕ → Bool
safe_after H halted old (InsertWrite line leaf keys first values) =
    on_write H old first values true
safe_after H halted old (BackingWrite (Around line) first values) =
    on_write H old first values false
safe_after H halted old BackingBarrier = if halted then old else (λ s f. true)
safe_after H halted old (Fail fault) = safe_at_fault H old fault
safe_after H halted old act = old

abbrev pub tables_after : State → Tables → Act → Tables
tables_after st x act = record {
  need = need_after st.history st.books.index.count x.need act;
  safe = safe_after st.history st.halted x.safe act;
}

-- at the opening, and after some events
abbrev pub no_tables : Tables
no_tables = record { need = λ s f. 0; safe = λ s f. true }

abbrev pub tables_of : Opening → State → Tables → List Event → Tables
tables_of w st x [] = x
tables_of w st x (e ∷ es) = tables_of w (after w st e.seat e.act) (tables_after st x e.act) es
