use Rattle.bc_chains.proofs.Law.{law_write}
use Rattle.bc_chains.proofs.laws.law_write.Goals as goal

pub returns : goal.returns
returns c = law_write
