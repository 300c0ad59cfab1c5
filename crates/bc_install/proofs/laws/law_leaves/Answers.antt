use Rattle.bc_install.proofs.Ended.{law_leaves}
use Rattle.bc_install.proofs.laws.law_leaves.Goals as goal

pub returns : goal.returns
returns c = law_leaves
