-- What is never given up.
use Rattle.std.specs.Prelude.{◌≡◌, ℕ}
use Rattle.bc_books.specs.Shelves.{Loose}
use Rattle.bc_books.specs.Enabled.{IsUnpinned, IsNobodys, IsNear, CanRaise}
use Rattle.bc_books.specs.Books.{opened}
use Rattle.bc_books.specs.After.{IsRun}
use Rattle.bc_books.specs.Laws.{IsUnneeded, IsLiveDirty}
use Rattle.bc_books.specs.Example.{small}
use Rattle.bc_books.specs.Teeth.{dirty_run, dirty_books}
use Rattle.bc_events.specs.Run.{IsEnabled}
use Rattle.bc_events.specs.Laws.{Always}
use Rattle.bc_events.specs.declared.event.Deed.TheVariants.{Raise}

-- What may be raised has no dirty key in memory, or in any index since the durable entry's, and is
-- no bucket of superblock, journal, uuid table, node or chain. A bucket is raised in the run of
-- `bc_events_example::laws::example_exists`.
abbrev pub LawRaised : Type 0
LawRaised = Always (λ w st. (b : ℕ) → CanRaise w.machine.flow.books st.machine.whole.flow.books b
    → IsUnneeded w.machine.flow.books st.machine.whole.flow.books b)

-- So no seat may raise a bucket into which a live dirty key points. That run ends with such a
-- bucket.
abbrev pub LawRefused : Type 0
LawRefused = Always (λ w st. (i b : ℕ)
    → IsLiveDirty w.machine.flow.books st.machine.whole.flow.books b
    → IsEnabled w st (record { seat = i; deed = Raise b }) → ⊥)

-- Two dirty sectors lie in bucket 0, which nobody holds or pins, and which is on no list and near
-- enough to its oldest key: its mark alone forbids that it is raised.
pub record LawDirty : Type 0 where
  pub run : IsRun small (opened small) dirty_run
  pub dirty : IsLiveDirty small dirty_books 0
  pub loose : dirty_books.shelf 0 ≡ Loose
  pub unpinned : IsUnpinned small.bucket dirty_books.owner 0
  pub not_held : IsNobodys (dirty_books.shelf 0)
  pub near : IsNear dirty_books.generations 0
  pub refused : CanRaise small dirty_books 0 → ⊥
