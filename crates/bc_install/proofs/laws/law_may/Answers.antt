use Rattle.bc_install.proofs.Ended.{law_may}
use Rattle.bc_install.proofs.laws.law_may.Goals as goal

pub returns : goal.returns
returns c = law_may
