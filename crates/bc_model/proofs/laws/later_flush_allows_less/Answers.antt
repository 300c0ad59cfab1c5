use Rattle.bc_model.proofs.Grown.{allowed_lower}
use Rattle.bc_model.proofs.laws.later_flush_allows_less.Goals as goal

pub returns : goal.returns
returns c = allowed_lower
