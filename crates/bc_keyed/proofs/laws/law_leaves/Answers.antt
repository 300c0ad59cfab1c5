use Rattle.bc_keyed.proofs.Leaves.{law_leaves}
use Rattle.bc_keyed.proofs.laws.law_leaves.Goals as goal

pub returns : goal.returns
returns c = law_leaves
