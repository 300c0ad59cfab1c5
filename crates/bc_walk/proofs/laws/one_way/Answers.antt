use Rattle.bc_walk.proofs.OneWay.{one_index}
use Rattle.bc_walk.proofs.laws.one_way.Goals as goal

pub returns : goal.returns
returns c = one_index
