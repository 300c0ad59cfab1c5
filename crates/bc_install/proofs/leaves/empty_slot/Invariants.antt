use Rattle.std.proofs.Common.{◌≡◌, ℕ, ◌<◌, None, Some}
use Rattle.std.specs.Prelude.{slice_get}
use Rattle.bc_install.proofs.leaves.empty_slot.Given as goal

abbrev pub invariant-loop-slot : goal.invariant-loop-slot
invariant-loop-slot l = (j : ℕ) → j < l.slot → ¬ (slice_get l.cache.slots j ≡ Some None)
