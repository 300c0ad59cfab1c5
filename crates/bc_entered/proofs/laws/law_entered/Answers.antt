use Rattle.bc_entered.proofs.Law.{law_entered}
use Rattle.bc_entered.proofs.laws.law_entered.Goals as goal

pub returns : goal.returns
returns c = law_entered
