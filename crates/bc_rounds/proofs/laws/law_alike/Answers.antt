use Rattle.bc_rounds.proofs.Rows.{law_alike}
use Rattle.bc_rounds.proofs.laws.law_alike.Goals as goal

pub returns : goal.returns
returns c = law_alike
