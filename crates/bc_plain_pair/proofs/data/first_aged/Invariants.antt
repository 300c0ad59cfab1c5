use Rattle.std.proofs.Common.{ℕ, ◌<◌}
use Rattle.bc_plain_pair.specs.Sectors.{IsAgedAt}
use Rattle.bc_plain_pair.proofs.data.first_aged.Given as goal

abbrev pub invariant-loop-sector : goal.invariant-loop-sector
invariant-loop-sector l = (k : ℕ) → k < l.sector → IsAgedAt l.v k → ⊥
