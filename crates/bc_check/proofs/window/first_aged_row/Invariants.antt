use Rattle.std.proofs.Common.{ℕ, ◌<◌, get_or}
use Rattle.bc_key.specs.declared.key.Key.{Key}
use Rattle.bc_check.specs.Window.{IsAgedKey}
use Rattle.bc_check.proofs.window.first_aged_row.Given as goal

abbrev pub invariant-loop-i : goal.invariant-loop-i
invariant-loop-i l = (k : ℕ) (d : Key) → k < l.i → IsAgedKey l.g l.gens (get_or l.index.keys k d) → ⊥
