use Rattle.bc_opening.proofs.One.{law_one}
use Rattle.bc_opening.proofs.laws.law_one.Goals as goal

pub returns : goal.returns
returns c = law_one
