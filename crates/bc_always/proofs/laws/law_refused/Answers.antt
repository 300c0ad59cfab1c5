use Rattle.bc_always.proofs.Raise.{law_refused}
use Rattle.bc_always.proofs.laws.law_refused.Goals as goal

pub returns : goal.returns
returns c = law_refused
