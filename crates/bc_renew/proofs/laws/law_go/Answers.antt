use Rattle.bc_renew.proofs.Law.{law_go}
use Rattle.bc_renew.proofs.laws.law_go.Goals as goal

pub returns : goal.returns
returns c = law_go
