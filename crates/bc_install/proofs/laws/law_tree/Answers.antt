use Rattle.bc_install.proofs.Ended.{law_tree}
use Rattle.bc_install.proofs.laws.law_tree.Goals as goal

pub returns : goal.returns
returns c = law_tree
