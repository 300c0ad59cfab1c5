use Rattle.bc_anew.proofs.Law.{law_opening}
use Rattle.bc_anew.proofs.laws.law_opening.Goals as goal

pub returns : goal.returns
returns c = law_opening
