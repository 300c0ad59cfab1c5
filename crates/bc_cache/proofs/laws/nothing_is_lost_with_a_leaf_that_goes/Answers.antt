use Rattle.bc_cache.proofs.Stands.{nothing_is_lost}
use Rattle.bc_cache.proofs.laws.nothing_is_lost_with_a_leaf_that_goes.Goals as goal

pub returns : goal.returns
returns c = nothing_is_lost
