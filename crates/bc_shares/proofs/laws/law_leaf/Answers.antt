use Rattle.bc_shares.proofs.Law.{law_leaf}
use Rattle.bc_shares.proofs.laws.law_leaf.Goals as goal

pub returns : goal.returns
returns c = law_leaf
