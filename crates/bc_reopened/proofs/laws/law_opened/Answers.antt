use Rattle.bc_reopened.proofs.Law.{law_opened}
use Rattle.bc_reopened.proofs.laws.law_opened.Goals as goal

pub returns : goal.returns
returns c = law_opened
