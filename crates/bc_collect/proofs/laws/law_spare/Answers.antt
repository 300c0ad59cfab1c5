use Rattle.bc_collect.proofs.Spare.{law_spare}
use Rattle.bc_collect.proofs.laws.law_spare.Goals as goal

pub returns : goal.returns
returns c = law_spare
