use Rattle.bc_chained.proofs.Law.{law_chain}
use Rattle.bc_chained.proofs.laws.law_chain.Goals as goal

pub returns : goal.returns
returns c = law_chain
