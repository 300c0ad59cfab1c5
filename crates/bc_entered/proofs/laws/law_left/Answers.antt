use Rattle.bc_entered.proofs.Law.{law_left}
use Rattle.bc_entered.proofs.laws.law_left.Goals as goal

pub returns : goal.returns
returns c = law_left
