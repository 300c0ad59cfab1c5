use Rattle.std.specs.Prelude.{ℕ, ◌+◌, ◌-◌, ◌%◌, ◌≤◌}

-- how many generations a pointer lies behind its bucket; generations count modulo 256
abbrev pub behind : ℕ → ℕ → ℕ
behind bucket pointer = (bucket + 256 - pointer) % 256

-- The bucket's generation has risen since the pointer was made. Where the difference is above 128, the pointer counts as newer.
abbrev pub IsStale : ℕ → ℕ → Type 0
IsStale bucket pointer = (1 ≤ behind bucket pointer) × (behind bucket pointer ≤ 128)
