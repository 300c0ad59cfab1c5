use Rattle.bc_events.proofs.Firsts.{law_first_write}
use Rattle.bc_events.proofs.laws.law_first_write.Goals as goal

pub returns : goal.returns
returns c = law_first_write
