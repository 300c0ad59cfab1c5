use Rattle.bc_known.proofs.Workers.{law_workers}
use Rattle.bc_known.proofs.laws.law_workers.Goals as goal

pub returns : goal.returns
returns c = law_workers
