use Rattle.bc_events.proofs.Machine.{law_now}
use Rattle.bc_events.proofs.laws.law_now.Goals as goal

pub returns : goal.returns
returns c = law_now
