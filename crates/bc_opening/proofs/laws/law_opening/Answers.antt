use Rattle.bc_opening.proofs.Whole.{law_opening}
use Rattle.bc_opening.proofs.laws.law_opening.Goals as goal

pub returns : goal.returns
returns c = law_opening
