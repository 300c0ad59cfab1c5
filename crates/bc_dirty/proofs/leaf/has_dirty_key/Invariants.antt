use Rattle.std.proofs.Common.{◌<◌, ℕ}
use Rattle.std.specs.Prelude.{slice_index_or}
use Rattle.bc_key.specs.declared.key.Key.{Key}
use Rattle.bc_dirty.proofs.Keys.{IsDirtyKey}
use Rattle.bc_dirty.proofs.leaf.has_dirty_key.Given as goal

abbrev pub invariant-loop-i : goal.invariant-loop-i
invariant-loop-i l = (k : ℕ) (d : Key) → k < l.i
    → IsDirtyKey (slice_index_or l.leaf.keys k d) → ⊥
