use Rattle.bc_events.proofs.Collect.{law_had}
use Rattle.bc_events.proofs.laws.law_had.Goals as goal

pub returns : goal.returns
returns c = law_had
