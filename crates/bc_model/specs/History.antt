-- The one history of a run. Every definition here takes the newest entry first.
use Rattle.std.specs.Prelude.{◌≡◌, ◌⊎◌, ℕ, suc, ◌+◌, max, Bool, false, ◌&&◌, ◌||◌, List, [], ◌∷◌, length, Option, Some, None, if◌then◌else◌, ◌==◌, nat_le, MatchBool}
use Rattle.bc_model.specs.Sector.{Value, Image, at_run, unless, Gives}
use Rattle.bc_model.specs.declared.history.Entry.{Entry}
use Rattle.bc_model.specs.declared.history.Entry.TheVariants.{Write, Read, FlushFrom, FlushDone, Durable, Tried}

-- what a write gives to a sector
abbrev pub gives : Entry → ℕ → Option Value
gives (Write worker line first values) s = at_run first values s
gives e s = None

-- what a write, or one that failed, may have given to it
abbrev pub may_give : Entry → ℕ → Option Value
may_give (Write worker line first values) s = at_run first values s
may_give (Tried first values) s = at_run first values s
may_give e s = None

-- the value of the last write, or of the opening image
abbrev pub now : Image → List Entry → ℕ → Value
now opening [] s = opening s
now opening (e ∷ es) s = unless (gives e s) (now opening es s)

-- a read gives what the entries before it make of each sector
abbrev pub IsRight : Entry → Image → Type 0
IsRight (Read worker line first values) image = Gives first values (λ s v. v ≡ image s)
IsRight e image = Unit {0}

abbrev pub IsLegal : Image → List Entry → Type 0
IsLegal opening [] = Unit {0}
IsLegal opening (e ∷ es) = IsRight e (now opening es) × IsLegal opening es

-- whether the entry begins, or ends, the flush of this worker's line
abbrev pub is_from : ℕ → ℕ → Entry → Bool
is_from w l (FlushFrom worker line) = (worker == w) && (line == l)
is_from w l e = false

abbrev pub is_done : ℕ → ℕ → Entry → Bool
is_done w l (FlushDone worker line) = (worker == w) && (line == l)
is_done w l e = false

abbrev pub count_from : ℕ → ℕ → List Entry → ℕ
count_from w l [] = 0
count_from w l (e ∷ es) = if is_from w l e then suc (count_from w l es) else count_from w l es

abbrev pub has_done : ℕ → ℕ → List Entry → Bool
has_done w l [] = false
has_done w l (e ∷ es) = is_done w l e || has_done w l es

-- the entry begins a flush that the history H acknowledges: it is the only FlushFrom of its worker's line, and the
-- FlushDone of that line stands in H
abbrev pub is_acknowledged : List Entry → Entry → Bool
is_acknowledged H (FlushFrom worker line) = (count_from worker line H == 1) && has_done worker line H
is_acknowledged H e = false

-- the number of entries before the last of these that H acknowledges, or 0
abbrev pub flushed_in : List Entry → List Entry → ℕ
flushed_in H [] = 0
flushed_in H (e ∷ es) = if is_acknowledged H e then length es else flushed_in H es

-- how many entries the last acknowledged flush covers
abbrev pub flushed : List Entry → ℕ
flushed H = flushed_in H H

-- whether the sector is one of so many from the first on
abbrev pub is_within : ℕ → ℕ → ℕ → Bool
is_within first count s = nat_le first s && nat_le (suc s) (first + count)

-- whether the entry is the write of this worker's line whose range begins there
abbrev pub is_write : ℕ → ℕ → ℕ → Entry → Bool
is_write w l at (Write worker line first values) = (worker == w) && ((line == l) && (first == at))
is_write w l at e = false

-- how many entries there are up to the last such write and with it, or 0
abbrev pub written_by : ℕ → ℕ → ℕ → List Entry → ℕ
written_by w l at [] = 0
written_by w l at (e ∷ es) = if is_write w l at e then suc (length es) else written_by w l at es

-- how many entries the forced writes of a sector cover: each up to the write that it acknowledges
abbrev pub forced : List Entry → ℕ → ℕ
forced [] s = 0
forced (Durable worker line first count ∷ es) s = if is_within first count s then max (written_by worker line first es) (forced es s) else forced es s
forced (e ∷ es) s = forced es s

-- how many entries are covered of a sector: by the last acknowledged flush, or by a forced write of it
abbrev pub floor : List Entry → ℕ → ℕ
floor H s = max (flushed H) (forced H s)

-- the value after the first f entries, or one that a later write, done or tried, gives
abbrev pub AllowedFrom : ℕ → Image → List Entry → ℕ → Value → Type 0
AllowedFrom f opening [] s v = v ≡ opening s
AllowedFrom f opening (e ∷ es) s v = MatchBool (nat_le f (length es)) ((may_give e s ≡ Some v) ⊎ AllowedFrom f opening es s v) (v ≡ now opening (e ∷ es) s)

-- what a sector may show after a crash
abbrev pub Allowed : Image → List Entry → ℕ → Value → Type 0
Allowed opening H s v = AllowedFrom (floor H s) opening H s v

-- none of these gives the sector anything
abbrev pub Silent : ℕ → List Entry → Type 0
Silent s [] = Unit {0}
Silent s (e ∷ es) = (may_give e s ≡ None) × Silent s es
