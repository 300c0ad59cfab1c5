use Rattle.bc_install.proofs.Sides.{law_ends}
use Rattle.bc_install.proofs.laws.law_ends.Goals as goal

pub returns : goal.returns
returns c = law_ends
