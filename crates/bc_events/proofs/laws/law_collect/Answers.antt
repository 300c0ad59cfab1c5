use Rattle.bc_events.proofs.Collect.{law_collect}
use Rattle.bc_events.proofs.laws.law_collect.Goals as goal

pub returns : goal.returns
returns c = law_collect
