use Rattle.bc_recoverable.proofs.Runs.{law_runs}
use Rattle.bc_recoverable.proofs.laws.law_runs.Goals as goal

pub returns : goal.returns
returns c = law_runs
