use Rattle.bc_crash.proofs.Survive.{law_closed}
use Rattle.bc_crash.proofs.laws.law_closed.Goals as goal

pub returns : goal.returns
returns c = law_closed
