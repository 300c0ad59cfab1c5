use Rattle.bc_collect.proofs.Runs.{law_roomy}
use Rattle.bc_collect.proofs.laws.law_roomy.Goals as goal

pub returns : goal.returns
returns c = law_roomy
