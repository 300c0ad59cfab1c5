-- What holds of every run from a sound pair of devices.
use Rattle.std.specs.Prelude.{◌≡◌, ℕ, true, List, Option, Some, None, if◌then◌else◌, ◌%◌}
use Rattle.bc_model.specs.Sector.{Value, Image}
use Rattle.bc_model.specs.History.{IsLegal}
use Rattle.bc_books.specs.Index.{Clean, Pointer}
use Rattle.bc_books.specs.Versions.{is_stale}
use Rattle.bc_books.specs.Books.{Step}
use Rattle.bc_books.specs.Books as books
use Rattle.bc_books.specs.After as steps
use Rattle.bc_data.specs.Data.{Opening, State, Act, Event, start}
use Rattle.bc_data.specs.Enabled.{IsEnabled}
use Rattle.bc_data.specs.Invariant.{IsTruthful}
use Rattle.bc_data.specs.After.{after, IsCourse, course}

-- what a sector shows: a live key points to the cache
abbrev pub shown_by : (ℕ → ℕ) → (ℕ → ℕ) → Option Pointer → Image → Value → Value
shown_by bucket version None c v = v
shown_by bucket version (Some r) c v =
    if is_stale (version (bucket r.place) % 256) (r.version % 256) then v else c r.place

abbrev pub shown : (ℕ → ℕ) → (ℕ → Option Pointer) → (ℕ → ℕ) → Image → Image → ℕ → Value
shown bucket index version c b s = shown_by bucket version (index s) c (b s)

-- the pair as it was opened: a live clean key has what the backing device has, and the image is
-- what is shown
pub record IsPair (w : Opening) : Type 0 where
  pub books : books.IsSound w.books
  pub agree : (s : ℕ) (r : Pointer) → w.books.index s ≡ Some r → r.kind ≡ Clean
      → w.books.version (w.books.bucket r.place) ≡ r.version → w.cache r.place ≡ w.backing s
  pub plain : w.plain ≡ true → (s : ℕ) → w.books.index s ≡ None
  pub image : (s : ℕ) → w.image s
      ≡ shown w.books.bucket w.books.index w.books.version w.cache w.backing s

-- a sound pair meets the invariant, and each act keeps it
abbrev pub LawOpened : Type 0
LawOpened = (w : Opening) → IsPair w → IsTruthful w (start w)

abbrev pub LawKept : Type 0
LawKept = (w : Opening) (st : State) (i : ℕ) (act : Act) → IsTruthful w st → IsEnabled w st i act
    → IsTruthful w (after w st i act)

-- at the end of every run, and so at every state of one
abbrev pub Always : (Opening → State → Type 0) → Type 0
Always P = (w : Opening) (es : List Event) → IsPair w → IsCourse w (start w) es
    → P w (course w (start w) es)

-- each answer's values are those of the last writes before it
abbrev pub LawNow : Type 0
LawNow = Always (λ w st. IsLegal w.image st.history)

-- the books of the state are those of a run of the books
pub record HasBooks (w : Opening) (st : State) : Type 0 where
  pub list : List Step
  pub run : steps.IsRun w.books (books.opened w.books) list
  pub same : st.books ≡ steps.fold w.books (books.opened w.books) list

-- each event is at most some steps of the books: so their laws hold here
abbrev pub LawBooks : Type 0
LawBooks = Always HasBooks
