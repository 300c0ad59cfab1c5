-- What a seat holds stays its own, whatever other seats do.
use Rattle.std.specs.Prelude.{◌≡◌, ◌≢◌, ℕ, ◌≤◌, List}
use Rattle.bc_books.specs.Shelves.{Purpose, Held, Own}
use Rattle.bc_books.specs.Books.{Books}
use Rattle.bc_leaves.specs.Parts as parts
use Rattle.bc_events.specs.Run.{Opening, start, after, run}
use Rattle.bc_events.specs.declared.event.Event.{Event}
use Rattle.bc_shares.specs.Shares.{books_of}
use Rattle.bc_shares.specs.Laws.{Happens}

-- in each state of a run from a sound opening, of an event of another seat
abbrev pub ByAnother : (ℕ → Opening → Books → Books → Type 0) → Type 0
ByAnother Stays = (w : Opening) (x : parts.State) (next_seq : ℕ) (es : List Event) (e : Event)
    → Happens w x next_seq es e → (i : ℕ) → e.seat ≢ i
    → let st = run w (start w x next_seq) es in
    Stays i w (books_of st.machine) (books_of (after w st e).machine)

-- A place that the seat pinned is still its own, and its bucket wasn't raised.
pub record StaysPinned (i : ℕ) (w : Opening) (a b : Books) (t : ℕ) : Type 0 where
  pub owner : b.owner t ≡ Own i
  pub version : b.generations.version (w.machine.flow.books.bucket t)
      ≡ a.generations.version (w.machine.flow.books.bucket t)

abbrev pub LawPinned : Type 0
LawPinned = ByAnother (λ i w a b. (t : ℕ) → a.owner t ≡ Own i → StaysPinned i w a b t)

-- A bucket that it holds, for whatever purpose, is still held for that by it.
abbrev pub LawHeld : Type 0
LawHeld = ByAnother (λ i w a b. (q : ℕ) (p : Purpose) → a.shelf q ≡ Held i p → b.shelf q ≡ Held i p)

-- Versions, insertions and what is durable of them never go back, by whatever event.
pub record IsLater (a b : Books) : Type 0 where
  pub version : (q : ℕ) → a.generations.version q ≤ b.generations.version q
  pub count : a.index.count ≤ b.index.count

abbrev pub LawLater : Type 0
LawLater = (w : Opening) (x : parts.State) (next_seq : ℕ) (es : List Event) (e : Event)
    → Happens w x next_seq es e → let st = run w (start w x next_seq) es in
    IsLater (books_of st.machine) (books_of (after w st e).machine)
