use Rattle.std.proofs.Common.{◌≡◌, ◌*◌, take, length}
use Rattle.bc_model.specs.Pattern.{words}
use Rattle.bc_model.proofs.sector.pattern.Given as goal

abbrev pub invariant-loop-pair : goal.invariant-loop-pair
invariant-loop-pair l = (length l.value ≡ 512) × (take (16 * l.pair) l.value ≡ words l.stamp l.sector l.pair)
