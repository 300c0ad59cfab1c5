-- A trace made of a number: the lines are drawn from a linear congruence.
use Rattle.std.specs.Prelude.{ℕ, zero, suc, ◌+◌, ◌-◌, ◌*◌, ◌/◌, ◌%◌, ◌^◌, ◌<◌, ◌≤◌, List, [], ◌∷◌, ◌++◌, if◌then◌else◌, nat_lt}
use Rattle.bc_script.specs.declared.line.Action.{Action}
use Rattle.bc_script.specs.declared.line.Action.TheVariants.{Write, ForcedWrite, Read, Flush, Round}
use Rattle.bc_script.specs.declared.line.Line.{Line}
use Rattle.bc_script.specs.declared.line.Line.TheVariants.{Silent, Request}

-- the number behind another, and the k-th from a start on
unfoldable pub next_drawn : ℕ → ℕ
next_drawn x = (1103515245 * x + 12345) % 2 ^ 31

unfoldable pub drawn : ℕ → ℕ → ℕ
drawn start zero = start
drawn start (suc k) = next_drawn (drawn start k)

-- the first so many of them without their lowest 16 bits
abbrev pub heights : ℕ → ℕ → List ℕ
heights start zero = []
heights start (suc k) = heights start k ++ drawn start (suc k) / 65536 ∷ []

-- the worker of line k, and where its region begins: each has so many sectors of its own
abbrev pub worker_of : ℕ → ℕ → ℕ
worker_of workers k = 1 + (k - 1) % workers

abbrev pub region_of : ℕ → ℕ → ℕ
region_of workers size = size / workers

abbrev pub first_of : ℕ → ℕ → ℕ → ℕ → ℕ
first_of workers size k x = (worker_of workers k - 1) * region_of workers size + x % (region_of workers size - 63)

abbrev pub count_of : ℕ → ℕ
count_of x = 1 + x / 65536 / 8 % 64

-- of eight lines four write, three read and one flushes
abbrev pub drawn_action : ℕ → ℕ → ℕ → ℕ → Action
drawn_action kind first count stamp = if nat_lt kind 4 then Write first count stamp else (if nat_lt kind 7 then Read first count else Flush)

-- line k, for the number x
unfoldable pub drawn_line : ℕ → ℕ → ℕ → ℕ → Line
drawn_line workers size k x = Request (worker_of workers k) 0 (drawn_action (x / 65536 % 8) (first_of workers size k x) (count_of x) k)

-- the first so many lines
unfoldable pub generated : ℕ → ℕ → ℕ → ℕ → List Line
generated start workers size zero = []
generated start workers size (suc n) = generated start workers size n ++ drawn_line workers size (suc n) (drawn start (suc n)) ∷ []

-- the line writes or reads the sector
abbrev pub IsWithin : ℕ → ℕ → ℕ → Type 0
IsWithin first count s = (first ≤ s) × (s < first + count)

abbrev pub ActsOn : Action → ℕ → Type 0
ActsOn (Write first count stamp) s = IsWithin first count s
ActsOn (ForcedWrite first count stamp) s = IsWithin first count s
ActsOn (Read first count) s = IsWithin first count s
ActsOn Flush s = ⊥
ActsOn (Round round) s = ⊥

abbrev pub Touches : Line → ℕ → Type 0
Touches Silent s = ⊥
Touches (Request worker phase action) s = ActsOn action s
