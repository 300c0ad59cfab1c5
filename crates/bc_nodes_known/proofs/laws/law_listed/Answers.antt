use Rattle.bc_nodes_known.proofs.Law.{law_listed}
use Rattle.bc_nodes_known.proofs.laws.law_listed.Goals as goal

pub returns : goal.returns
returns c = law_listed
