use Rattle.bc_always.proofs.Crash.{law_closed}
use Rattle.bc_always.proofs.laws.law_closed.Goals as goal

pub returns : goal.returns
returns c = law_closed
