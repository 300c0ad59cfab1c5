-- What stands at some places of a list, moved back by one place.
use Rattle.std.specs.Prelude.{◌≡◌, ℕ, ◌+◌, ◌<◌, ◌≤◌, List, slice_index_or}

-- from place a on up to the one before b, and nothing else but what comes to a
pub record IsMoved {X : Type 0} (a b : ℕ) (us vs : List X) : Type 0 where
  pub moved : (k : ℕ) (d : X) → a ≤ k → k < b → slice_index_or vs (k + 1) d ≡ slice_index_or us k d
  pub before : (k : ℕ) (d : X) → k < a → slice_index_or vs k d ≡ slice_index_or us k d
  pub behind : (k : ℕ) (d : X) → b < k → slice_index_or vs k d ≡ slice_index_or us k d
