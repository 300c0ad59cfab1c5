-- What threads with seats have added.
use Rattle.std.specs.Prelude.{◌≡◌, ℕ, ◌+◌, ◌≤◌, ◌<◌, ◌==◌, List, [], filter, length, Result, OnOk}
use Rattle.bc_parts.specs.Seat.{Run, SeatView}
use Rattle.bc_parts_bench.specs.declared.log.Entry.{Entry}

-- how many of these entries are of the seat with this number
abbrev pub count_of : ℕ → List Entry → ℕ
count_of number entries = length (filter (λ e. e.seat == number) entries)

-- so many of these entries are of each seat with a number from `first` up to `end`
abbrev pub EachAdded : (first end count : ℕ) → List Entry → Type 0
EachAdded first end count entries = (n : ℕ) → first ≤ n → n < end → count_of n entries ≡ count

-- a seat of the run that has so many numbers, all below the limit, and has seen no event and taken no part
abbrev pub IsReady : {P E T : Type 0} → Run P → (seats limit : ℕ) → SeatView P E T → Type 0
IsReady run seats limit v = (v.run ≡ run) × (0 < seats) × (v.end ≡ v.first + seats) × (v.end ≤ limit) × (v.seen ≡ []) × (v.parts ≡ [])

-- the seat later: of the same run, with the same numbers and parts
abbrev pub IsSameSeat : {P E T : Type 0} → SeatView P E T → SeatView P E T → Type 0
IsSameSeat old new = (new.run ≡ old.run) × (new.first ≡ old.first) × (new.end ≡ old.end) × (new.parts ≡ old.parts)

-- the seat later, and so many entries of each of its numbers where there was memory for them
abbrev pub HasAdded : {P T M : Type 0} → ℕ → SeatView P Entry T → SeatView P Entry T → Result (Unit {0}) M → Type 0
HasAdded count old new made = IsSameSeat old new × OnOk made (EachAdded old.first old.end count new.seen)
