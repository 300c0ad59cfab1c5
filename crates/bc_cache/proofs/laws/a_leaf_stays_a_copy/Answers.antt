use Rattle.bc_cache.proofs.Copies.{stays_copy}
use Rattle.bc_cache.proofs.laws.a_leaf_stays_a_copy.Goals as goal

pub returns : goal.returns
returns c = stays_copy
