use Rattle.bc_renew.proofs.Law.{law_ready}
use Rattle.bc_renew.proofs.laws.law_ready.Goals as goal

pub returns : goal.returns
returns c = law_ready
