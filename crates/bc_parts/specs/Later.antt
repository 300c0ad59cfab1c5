-- What a seat can know of the events behind those that it has seen.
use Rattle.std.specs.Prelude.{◌≡◌, ◌≢◌, ℕ, ◌<◌, ◌≤◌, false, List, [], ◌∷◌, ◌++◌, length, Ok, All}
use Rattle.bc_parts.specs.declared.machine.Machine.{Ghosts}
use Rattle.bc_parts.specs.Machine.{state_after, IsRun, events_by}
use Rattle.bc_parts.specs.Seat.{SeatView, Holds, HasNumber}

module _ {Z P E B T : Type 0} (m : Ghosts Z P E B T) where
  -- in a run of so many parts, an event of another seat than one that has the numbers from `first` up to `end` and holds
  -- these parts: it carries none of the numbers, and changes none of the parts
  abbrev pub IsForeign : (count first end : ℕ) (parts : List ℕ) → E → Type 0
  IsForeign count first end parts e =
      ((n : ℕ) → first ≤ n → n < end → m.number e ≢ n) × ((k : ℕ) → Holds parts k → m.changes count e k ≡ false)

  -- the list is what such a seat had seen, and behind that events of other seats alone
  pub record Grows (count first end : ℕ) (parts : List ℕ) (seen es : List E) : Type 0 where
    pub others : List E
    pub behind : es ≡ seen ++ others
    pub foreign : All (IsForeign count first end parts) others

  -- such a list of a run: the seat's own events in it are those that it had seen, and a value of a part in hand that stood
  -- for the state that it had seen stands for the state now
  pub record Later (start : List P) (first end : ℕ) (parts : List ℕ) (seen es : List E) : Type 0 where
    pub grows : Grows (length start) first end parts seen es
    pub run : IsRun m (m.opening start) es
    pub own : (n : ℕ) → first ≤ n → n < end → events_by m n es ≡ events_by m n seen
    pub stand : (k : ℕ) (p : P) → Holds parts k → m.stands k p (state_after m start seen) → m.stands k p (state_after m start es)

  -- the seat may see this list later
  abbrev pub SeesLater : SeatView P E T → List E → Type 0
  SeesLater v es = Later v.run.start v.first v.end v.parts v.seen es

  -- the list may be that of all events at the moment at which the seat commits the event e
  pub record AtCommit (v : SeatView P E T) (e : E) (es : List E) : Type 0 where
    -- a value of a part in hand that stood for the state that the seat has seen stands for the state now
    pub stand : (k : ℕ) (p : P) → Holds v.parts k → m.stands k p (state_after m v.run.start v.seen) → m.stands k p (state_after m v.run.start es)
    -- only other seats have committed since, and they changed none of the parts in hand
    pub grows : Grows (length v.run.start) v.first v.end v.parts v.seen es
    -- it is a run
    pub run : IsRun m (m.opening v.run.start) es
    -- the Book admits the event
    pub admitted : m.verdict es e ≡ Ok tt

  -- of the seat's own events in the list, one is new: e, the last one of its first number
  pub record AddsOwn (v : SeatView P E T) (e : E) (es : List E) : Type 0 where
    pub first : events_by m v.first es ≡ events_by m v.first v.seen ++ e ∷ []
    pub others : (n : ℕ) → HasNumber v n → n ≢ v.first → events_by m n es ≡ events_by m n v.seen
