-- How many sectors a worker has read or written in one go, up to a request, as a function of the
-- requests before it.
use Rattle.std.specs.Prelude.{◌≡◌, ℕ, ◌+◌, ◌-◌, ◌<◌, ◌^◌, ◌==◌, min, reverse, List, [], ◌∷◌, length, Option, Some, None, slice_index_or, if◌then◌else◌}
use Rattle.bc_mode.specs.declared.streak.Request.{Request}
use Rattle.bc_mode.specs.declared.streak.Tail.{Tail}

-- the sector behind a request's last one
abbrev pub end_of : Request → ℕ
end_of r = r.first + r.count

-- its length, and the streak of the worker's request before it, where it begins at that one's end;
-- `before` has the latest request first
abbrev pub streak_after : List Request → Request → ℕ
streak_after [] r = r.count
streak_after (p ∷ before) r =
    if p.worker == r.worker then (if end_of p == r.first then streak_after before p + r.count else r.count)
    else streak_after before r

-- the streak of a request that comes behind these ones
abbrev pub streak : List Request → Request → ℕ
streak earlier r = streak_after (reverse earlier) r

-- what a count of 64 bits shows of a number
abbrev pub capped : ℕ → ℕ
capped n = min n (2 ^ 64 - 1)

-- where the latest request of a worker ended, and its streak; `before` has the latest request first
abbrev pub tail_after : List Request → ℕ → Option Tail
tail_after [] w = None
tail_after (p ∷ before) w =
    if p.worker == w then Some (record { end = end_of p; streak = capped (streak_after before p) })
    else tail_after before w

-- the streak of a request behind a worker's latest one
abbrev pub extended : Option Tail → ℕ → ℕ → ℕ
extended None first count = count
extended (Some t) first count = if t.end == first then capped (t.streak + count) else count

-- these are the ends of the workers 1 to 16 behind these requests
abbrev pub IsBehind : List Request → List (Option Tail) → Type 0
IsBehind earlier tails = (length tails ≡ 16) × ((i : ℕ) → i < 16 → slice_index_or tails i None ≡ tail_after (reverse earlier) (i + 1))
