use Rattle.bc_chained.proofs.Law.{law_behind}
use Rattle.bc_chained.proofs.laws.law_behind.Goals as goal

pub returns : goal.returns
returns c = law_behind
