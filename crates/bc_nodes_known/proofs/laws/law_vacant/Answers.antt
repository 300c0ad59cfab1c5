use Rattle.bc_nodes_known.proofs.Law.{law_vacant}
use Rattle.bc_nodes_known.proofs.laws.law_vacant.Goals as goal

pub returns : goal.returns
returns c = law_vacant
