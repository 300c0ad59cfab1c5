use Rattle.bc_install.proofs.Numbered.{law_change}
use Rattle.bc_install.proofs.laws.law_change.Goals as goal

pub returns : goal.returns
returns c = law_change
