use Rattle.bc_events.proofs.Machine.{law_raise}
use Rattle.bc_events.proofs.laws.law_raise.Goals as goal

pub returns : goal.returns
returns c = law_raise
