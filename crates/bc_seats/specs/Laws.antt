-- How what a seat knows goes on.
use Rattle.std.specs.Prelude.{ℕ, List, [], ◌∷◌, ◌++◌}
use Rattle.bc_parts.specs.declared.machine.Machine.{Ghosts}
use Rattle.bc_parts.specs.Seat.{SeatView, Holds}
use Rattle.bc_seats.specs.Seats.{state_seen, IsSeat, Since, Waited, Committed, Went}

module _ {Z P E B T : Type 0} (m : Ghosts Z P E B T) where
  abbrev pub LawHeld : Type 0
  LawHeld = (v : SeatView P E T) (x : m.State) (k : ℕ) (p : P) → IsSeat m v → Since m v x
      → Holds v.parts k → m.stands k p (state_seen m v) → m.stands k p x

  abbrev pub LawWaited : Type 0
  LawWaited = (v w : SeatView P E T) → Waited m v w → Went m v [] w

  abbrev pub LawCommitted : Type 0
  LawCommitted = (v : SeatView P E T) (e : E) (w : SeatView P E T) → Committed m v e w
      → Went m v (e ∷ []) w

  abbrev pub LawBoth : Type 0
  LawBoth = (u v w : SeatView P E T) (first then : List E) → Went m u first v → Went m v then w
      → Went m u (first ++ then) w
