use Rattle.bc_events.proofs.Example.{law_plain_runs}
use Rattle.bc_events.proofs.laws.law_plain_runs.Goals as goal

pub returns : goal.returns
returns c = law_plain_runs
