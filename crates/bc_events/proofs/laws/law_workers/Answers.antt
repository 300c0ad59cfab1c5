use Rattle.bc_events.proofs.Names.{law_workers}
use Rattle.bc_events.proofs.laws.law_workers.Goals as goal

pub returns : goal.returns
returns c = law_workers
