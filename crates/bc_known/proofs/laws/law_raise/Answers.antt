use Rattle.bc_known.proofs.Law.{law_raise}
use Rattle.bc_known.proofs.laws.law_raise.Goals as goal

pub returns : goal.returns
returns c = law_raise
