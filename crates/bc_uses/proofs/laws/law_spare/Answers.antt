use Rattle.bc_uses.proofs.Uses.{law_spare_left}
use Rattle.bc_uses.proofs.laws.law_spare.Goals as goal

pub returns : goal.returns
returns c = law_spare_left
