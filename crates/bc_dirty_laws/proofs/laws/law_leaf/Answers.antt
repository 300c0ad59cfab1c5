use Rattle.bc_dirty_laws.proofs.Law.{law_leaf}
use Rattle.bc_dirty_laws.proofs.laws.law_leaf.Goals as goal

pub returns : goal.returns
returns c = law_leaf
