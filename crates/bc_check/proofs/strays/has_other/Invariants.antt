use Rattle.std.proofs.Common.{◌≡◌, ℕ, ◌-◌, ◌*◌, ◌<◌}
use Rattle.bc_check.specs.Strays.{IsOtherAt}
use Rattle.bc_check.proofs.strays.has_other.Given as goal

abbrev pub invariant-loop-sector : goal.invariant-loop-sector
invariant-loop-sector l = record {
  blocks : ℕ;
  at : l.sector ≡ l.g.block * blocks;
  none : (k : ℕ) → k < blocks → IsOtherAt l.g.set_magic l.bytes l.journal.entries l.low l.start (l.g.block * k) → ⊥;
}

abbrev pub decreases-loop-sector : goal.decreases-loop-sector
decreases-loop-sector l = l.g.bucket - l.sector
