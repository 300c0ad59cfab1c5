use Rattle.bc_alloc.proofs.OneByOne.{one_by_one}
use Rattle.bc_alloc.proofs.laws.victims_are_raised_one_by_one.Goals as goal

pub returns : goal.returns
returns c = one_by_one
