use Rattle.bc_looks.proofs.Law.{law_live}
use Rattle.bc_looks.proofs.laws.law_live.Goals as goal

pub returns : goal.returns
returns c = law_live
