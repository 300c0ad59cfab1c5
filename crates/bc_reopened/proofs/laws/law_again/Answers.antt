use Rattle.bc_reopened.proofs.Law.{law_again}
use Rattle.bc_reopened.proofs.laws.law_again.Goals as goal

pub returns : goal.returns
returns c = law_again
