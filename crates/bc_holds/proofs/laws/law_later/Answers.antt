use Rattle.bc_holds.proofs.Law.{law_later}
use Rattle.bc_holds.proofs.laws.law_later.Goals as goal

pub returns : goal.returns
returns c = law_later
