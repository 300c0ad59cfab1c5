-- Generations. A bucket has its generation as a version, which counts on for ever: the byte that
-- the opening found, 256 more, and one more for each raise. The devices hold it modulo 256.
use Rattle.std.specs.Prelude.{ℕ, ◌+◌, ◌-◌, ◌%◌, Bool, nat_le, ◌&&◌}

-- by bucket
pub record Generations : Type 0 where
  -- in memory
  pub version : ℕ → ℕ
  -- in the priority sets that the sealed entry names, and in those that the durable entry names
  pub sealed : ℕ → ℕ
  pub durable : ℕ → ℕ
  -- the oldest version that a key had for the bucket when a round ended last
  pub last_gc : ℕ → ℕ

-- how far the byte of a pointer is behind that of its bucket
abbrev pub behind : ℕ → ℕ → ℕ
behind bucket pointer = ((bucket + 256) - pointer) % 256

-- the device's test of a pointer against its bucket
abbrev pub is_stale : ℕ → ℕ → Bool
is_stale bucket pointer = nat_le 1 (behind bucket pointer) && nat_le (behind bucket pointer) 128
