use Rattle.bc_always.proofs.Raise.{law_raised}
use Rattle.bc_always.proofs.laws.law_raised.Goals as goal

pub returns : goal.returns
returns c = law_raised
