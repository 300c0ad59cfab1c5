use Rattle.bc_events.proofs.Machine.{law_next}
use Rattle.bc_events.proofs.laws.law_next.Goals as goal

pub returns : goal.returns
returns c = law_next
