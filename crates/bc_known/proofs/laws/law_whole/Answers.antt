use Rattle.bc_known.proofs.Law.{law_whole}
use Rattle.bc_known.proofs.laws.law_whole.Goals as goal

pub returns : goal.returns
returns c = law_whole
