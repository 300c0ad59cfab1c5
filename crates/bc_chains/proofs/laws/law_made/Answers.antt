use Rattle.bc_chains.proofs.Law.{law_made}
use Rattle.bc_chains.proofs.laws.law_made.Goals as goal

pub returns : goal.returns
returns c = law_made
