use Rattle.bc_data.proofs.Does.{law_runs}
use Rattle.bc_data.proofs.laws.law_runs.Goals as goal

pub returns : goal.returns
returns c = law_runs
