use Rattle.bc_renew.proofs.Law.{law_raise}
use Rattle.bc_renew.proofs.laws.law_raise.Goals as goal

pub returns : goal.returns
returns c = law_raise
