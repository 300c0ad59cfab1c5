-- Runs over the backing device alone: nothing is ever cached, so that a step asks nothing of an
-- index.
use Rattle.std.specs.Prelude.{◌≡◌, ◌⊎◌, ℕ, true, None}
use Rattle.bc_books.specs.Books as book
use Rattle.bc_data.specs.Data as flow
use Rattle.bc_machine.specs.World.{World, data_of, is_told}

-- no key comes in, and no entry
pub record IsBare (w : flow.Opening) (st : flow.State) : Type 0 where
  pub index : st.books.index ≡ (book.opened w.books).index
  pub journal : st.books.journal ≡ (book.opened w.books).journal
  pub flushes : (n : ℕ) → (st.seats n).flush.keys ≡ 0
  pub writes : (n : ℕ) → (st.seats n).last.keys ≡ 0
  -- a look sees what there was at the opening
  pub sights : (n s : ℕ) → ((st.seats n).claim.sight s ≡ None)
      ⊎ ((st.seats n).claim.sight s ≡ w.books.index s)

-- where both devices tell what they hold
abbrev pub IsBareRun : World → Type 0
IsBareRun x = is_told x ≡ true → x.opening.machine.flow.plain ≡ true
    → IsBare x.opening.machine.flow (data_of x)
