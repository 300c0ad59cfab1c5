use Rattle.bc_nodes_known.proofs.Law.{law_install}
use Rattle.bc_nodes_known.proofs.laws.law_install.Goals as goal

pub returns : goal.returns
returns c = law_install
