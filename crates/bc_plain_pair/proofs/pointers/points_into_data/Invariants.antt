use Rattle.std.proofs.Common.{ℕ, ◌<◌}
use Rattle.bc_image.specs.Pointers.{LiesInData}
use Rattle.bc_key.specs.Key.{ptr_at}
use Rattle.bc_plain_pair.proofs.pointers.points_into_data.Given as goal

abbrev pub invariant-loop-i : goal.invariant-loop-i
invariant-loop-i l = (i : ℕ) → i < l.i → LiesInData l.g (ptr_at l.key i) l.key.size
