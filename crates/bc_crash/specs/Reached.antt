-- How far flushes and forced writes reach, each counted at the moment at which it is done. This is
-- at least as far as the floor, which counts them all at the end.
use Rattle.std.specs.Prelude.{◌≡◌, ℕ, max, Bool, true, false, List, [], ◌∷◌, length, if◌then◌else◌, ◌||◌}
use Rattle.bc_model.specs.History.{is_from, is_within, written_by}
use Rattle.bc_model.specs.declared.history.Entry.{Entry}
use Rattle.bc_model.specs.declared.history.Entry.TheVariants.{FlushDone, Durable}

-- a flush of this worker's line was begun
abbrev pub has_from : ℕ → ℕ → List Entry → Bool
has_from w l [] = false
has_from w l (e ∷ es) = is_from w l e || has_from w l es

-- the number of entries before the only one that began, else 0
abbrev pub from_of : ℕ → ℕ → List Entry → ℕ
from_of w l [] = 0
from_of w l (e ∷ es) =
    if is_from w l e then (if has_from w l es then 0 else length es) else from_of w l es

-- how many entries an entry says to be durable of a sector
abbrev pub done_from : Entry → List Entry → ℕ → ℕ
done_from (FlushDone w l) es s = from_of w l es
done_from (Durable w l first count) es s =
    if is_within first count s then written_by w l first es else 0
done_from e es s = 0

abbrev pub reached : List Entry → ℕ → ℕ
reached [] s = 0
reached (e ∷ es) s = max (done_from e es s) (reached es s)

-- no flush is done that wasn't begun
abbrev pub IsBegun : Entry → List Entry → Type 0
IsBegun (FlushDone w l) es = has_from w l es ≡ true
IsBegun e es = Unit {0}

abbrev pub AreBegun : List Entry → Type 0
AreBegun [] = Unit {0}
AreBegun (e ∷ es) = IsBegun e es × AreBegun es
