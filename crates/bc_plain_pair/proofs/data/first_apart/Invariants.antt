use Rattle.std.proofs.Common.{ℕ, ◌<◌}
use Rattle.bc_plain_pair.specs.PairBytes.{pair_of}
use Rattle.bc_plain_pair.specs.Sectors.{AgreesAt}
use Rattle.bc_plain_pair.proofs.data.first_apart.Given as goal

abbrev pub invariant-loop-sector : goal.invariant-loop-sector
invariant-loop-sector l = (k : ℕ) → k < l.sector → AgreesAt (pair_of l.cache l.backing) l.v k
