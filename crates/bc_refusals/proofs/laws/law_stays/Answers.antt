use Rattle.bc_refusals.proofs.Still.{law_stays}
use Rattle.bc_refusals.proofs.laws.law_stays.Goals as goal

pub returns : goal.returns
returns c = law_stays
