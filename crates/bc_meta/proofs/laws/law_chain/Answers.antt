use Rattle.bc_meta.proofs.Chains as chains
use Rattle.bc_meta.proofs.laws.law_chain.Goals as goal

pub returns : goal.returns
returns c = chains.law_chain
