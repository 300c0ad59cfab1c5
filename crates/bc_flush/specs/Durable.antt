-- How far the journal is durable, as a seat knows it. It is said from each opening of the core from
-- which the run so far is one, and so is how many insertions are meant.
use Rattle.std.specs.Prelude.{ℕ, ◌≤◌}
use Rattle.bc_events.specs.Run.{State}
use Rattle.bc_entry.specs.bc_machine.World.{Origin}
use Rattle.bc_shares.specs.Shares.{books_of}

-- So many insertions have come into the index; they are in the sealed entry or in one before it;
-- they are durable.
abbrev pub HaveComeIn : (Origin → ℕ) → Origin → State → Type 0
HaveComeIn n o st = n o ≤ (books_of st.machine).index.count

abbrev pub AreSealed : (Origin → ℕ) → Origin → State → Type 0
AreSealed n o st = n o ≤ (books_of st.machine).journal.sealed

abbrev pub AreDurable : (Origin → ℕ) → Origin → State → Type 0
AreDurable n o st = n o ≤ (books_of st.machine).journal.durable

-- all that had come in when this seat began its flush is durable
abbrev pub IsFlushed : ℕ → Origin → State → Type 0
IsFlushed i o st =
    (st.machine.whole.flow.seats i).flush.keys ≤ (books_of st.machine).journal.durable
