use Rattle.std.proofs.Common.{ℕ, ◌<◌, get_or}
use Rattle.bc_key.specs.Key.{IsExtent}
use Rattle.bc_key.specs.declared.key.Key.{Key}
use Rattle.bc_keys.proofs.extents.are_extents.Given as goal

abbrev pub invariant-loop-key : goal.invariant-loop-key
invariant-loop-key l = (k : ℕ) (d : Key) → k < l.key-index → IsExtent (get_or l.keys k d)
