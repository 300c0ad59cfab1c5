use Rattle.bc_refusals.proofs.Still.{law_still}
use Rattle.bc_refusals.proofs.laws.law_still.Goals as goal

pub returns : goal.returns
returns c = law_still
