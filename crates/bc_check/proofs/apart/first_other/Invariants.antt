use Rattle.std.proofs.Common.{ℕ, ◌<◌}
use Rattle.bc_check.specs.Apart.{AreSameIn}
use Rattle.bc_check.proofs.apart.first_other.Given as goal

abbrev pub invariant-loop-k : goal.invariant-loop-k
invariant-loop-k l = (j : ℕ) → j < l.k → AreSameIn l.one l.other j
