-- Look-ups in a plain list of keys.
use Rattle.std.specs.Prelude.{ℕ, List, Option}
use Rattle.bc_extent.specs.Calls.{live}
use Rattle.bc_extent.specs.LastKey.{last_key}
use Rattle.bc_key.specs.declared.key.Key.{Key}
use Rattle.bc_plain_nodes.specs.declared.keys.Bare.{Bare}
use Rattle.bc_plain_nodes.specs.declared.keys.Bare.TheVariants.{Counts, Hides}

-- the last key of a list that covers a sector, where a key without pointers counts as one or as none
abbrev pub look_of : Bare → List Key → ℕ → Option Key
look_of Counts keys sector = last_key keys sector
look_of Hides keys sector = live (last_key keys) sector
