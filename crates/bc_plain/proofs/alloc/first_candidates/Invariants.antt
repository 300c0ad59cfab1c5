use Rattle.std.proofs.Common.{◌≡◌}
use Rattle.std.specs.Prelude.{vec_len}
use Rattle.bc_plain.proofs.Selected.{Selected}
use Rattle.bc_plain.proofs.alloc.first_candidates.Given as goal

abbrev pub invariant-loop-i : goal.invariant-loop-i
invariant-loop-i l = Selected l.records l.listed l.left.items l.chosen.items × (vec_len l.chosen ≡ l._i)
