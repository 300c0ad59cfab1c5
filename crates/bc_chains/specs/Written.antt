-- A set of a chain that a seat writes: what it knows of the bucket, before and then. It is said
-- from each opening of the core from which the run so far is one.
use Rattle.std.specs.Prelude.{◌≡◌, ℕ, ◌<◌, Some, None}
use Rattle.bc_books.specs.Shelves.{Held, Priorities}
use Rattle.bc_disk.specs.declared.geometry.Geometry.{Geometry}
use Rattle.bc_events.specs.Run.{State}
use Rattle.bc_facts.specs.Layout.{IsLayoutOf}
use Rattle.bc_machine.specs.World.{Origin}
use Rattle.bc_meta.specs.Layout.{PrioSet}
use Rattle.bc_shares.specs.Shares.{books_of}

-- the device is so divided
abbrev pub IsDivided : Geometry → Origin → State → Type 0
IsDivided g o st = IsLayoutOf g o.opening.machine.layout

-- The seat holds this bucket for a chain, and no entry names it yet.
pub record IsForChain (i q : ℕ) (o : Origin) (st : State) : Type 0 where
  pub inside : q < o.opening.machine.layout.buckets
  pub held : (books_of st.machine).shelf q ≡ Held i Priorities
  pub unnamed : (books_of st.machine).chains.of q ≡ None

-- What was written there since, is this set, as the part of this number.
abbrev pub IsMade : (q part : ℕ) → PrioSet → Origin → State → Type 0
IsMade q part set o st =
    st.machine.whole.store.made q ≡ Some (record { part = part; set = set })
