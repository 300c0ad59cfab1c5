use Rattle.bc_change.proofs.Keeping.{law_ready}
use Rattle.bc_change.proofs.laws.law_ready.Goals as goal

pub returns : goal.returns
returns c = law_ready
