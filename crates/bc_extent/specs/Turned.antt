-- A list that begins somewhere in a ring, and goes on at the ring's front.
use Rattle.std.specs.Prelude.{ℕ, List, ◌++◌, take, drop}

-- the ring from a place on
abbrev pub turned : {X : Type 0} → ℕ → List X → List X
turned head ring = drop head ring ++ take head ring
