use Rattle.bc_events.proofs.Plain.{law_plain_stable}
use Rattle.bc_events.proofs.laws.law_plain_stable.Goals as goal

pub returns : goal.returns
returns c = law_plain_stable
