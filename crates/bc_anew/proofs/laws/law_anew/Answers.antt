use Rattle.bc_anew.proofs.Law.{law_anew}
use Rattle.bc_anew.proofs.laws.law_anew.Goals as goal

pub returns : goal.returns
returns c = law_anew
