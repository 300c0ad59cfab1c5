use Rattle.bc_keyed.proofs.Leaf.{law_leaf}
use Rattle.bc_keyed.proofs.laws.law_leaf.Goals as goal

pub returns : goal.returns
returns c = law_leaf
