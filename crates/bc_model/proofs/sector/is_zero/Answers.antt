use Rattle.std.proofs.Common.{rules}
use Rattle.bc_model.specs.Pattern.{zeros}
use Rattle.bc_model.proofs.sector.is_zero.Goals as goal

pub returns : goal.returns
unfolding zeros
returns c = search rules
