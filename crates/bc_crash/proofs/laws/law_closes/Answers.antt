use Rattle.bc_crash.proofs.Broken.{law_closes}
use Rattle.bc_crash.proofs.laws.law_closes.Goals as goal

pub returns : goal.returns
returns c = law_closes
