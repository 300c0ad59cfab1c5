use Rattle.std.proofs.Common.{ℕ, ◌<◌}
use Rattle.bc_plain_pair.specs.Uses.{StandsAlone}
use Rattle.bc_plain_pair.proofs.uses.are_apart.Given as goal

abbrev pub invariant-loop-i : goal.invariant-loop-i
invariant-loop-i l = (k : ℕ) → k < l.i → StandsAlone l.g l.nodes k
