use Rattle.bc_planned.proofs.Placing.{law_splits}
use Rattle.bc_planned.proofs.laws.law_splits.Goals as goal

pub returns : goal.returns
returns c = law_splits
