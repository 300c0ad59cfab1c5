use Rattle.bc_plain_laws.proofs.Example.{law_runs}
use Rattle.bc_plain_laws.proofs.laws.law_runs.Goals as goal

pub returns : goal.returns
returns c = law_runs
